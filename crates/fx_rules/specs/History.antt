-- Histories: the entries of a day in order, and which of them are legal.
use Rattle.std.specs.Prelude.{ℕ, ◌≡◌, ◌≢◌, ◌<◌, ◌+◌, ◌-◌, ◌^◌, ◌==◌, min, Some, List, [], ◌∷◌, filter}
use Rattle.fx_rules.specs.declared.command.Command.{Command}
use Rattle.fx_rules.specs.declared.command.Command.TheVariants.{Settle}
use Rattle.fx_rules.specs.declared.outcome.Outcome.{Outcome}
use Rattle.fx_rules.specs.declared.outcome.Outcome.TheVariants.{Settled}
use Rattle.fx_rules.specs.declared.outcome.Entry.{Entry}
use Rattle.fx_rules.specs.Lists.{total}
use Rattle.fx_rules.specs.Session.{Header, IsSession, bank_count}
use Rattle.fx_rules.specs.State.{State, opening, count_of, cost_between, settled_between, used, others, spent, left_of_limits}
use Rattle.fx_rules.specs.Step.{IsCommand, IsOutcome, after, credit_changed, fills_of}

-- the state after an entry
abbrev pub after_entry : State → Entry → State
after_entry S e = after S e.bank e.command e.outcome

-- the state after entries in order
abbrev pub after_all : State → List Entry → State
after_all S [] = S
after_all S (e ∷ es) = after_all (after_entry S e) es

-- the state after a history
abbrev pub state : Header → List Entry → State
state h entries = after_all (opening h) entries

-- an entry is a step of the market: its sender sends a command that it may send, as its next one, and gets an outcome of this
-- state
pub record IsStep (h : Header) (S : State) (e : Entry) : Type 0 where
  pub command : IsCommand h e.bank e.command
  pub number : e.number ≡ count_of S e.bank + 1
  pub number_most : e.number < 2 ^ 32
  pub outcome : IsOutcome h S e.bank e.command e.outcome

-- each entry is a step in the state of those before it
abbrev pub Steps : Header → State → List Entry → Type 0
Steps h S [] = Unit {0}
Steps h S (e ∷ es) = IsStep h S e × Steps h (after_entry S e) es

-- a legal history of a session
pub record IsLegal (h : Header) (entries : List Entry) : Type 0 where
  pub session : IsSession h
  pub steps : Steps h (opening h) entries

-- the entries of one sender
abbrev pub own : ℕ → List Entry → List Entry
own bank entries = filter (λ e. e.bank == bank) entries

-- the state in which an entry's fills are made: with its limit or its total set or its units given back where the entry is a
-- credit change, else the state as it was
abbrev pub before_fills : State → Entry → State
before_fills S e = credit_changed S e.bank e.command e.outcome

-- the units that a command and its outcome give back between two banks
abbrev pub given_by : Command → Outcome → ℕ → ℕ → ℕ
given_by (Settle a b asked) (Settled given fills) i j = settled_between i j (record { a = a; b = b; units = given } ∷ [])
given_by _ _ i j = 0

-- those that an entry gives back
abbrev pub given_between : Entry → ℕ → ℕ → ℕ
given_between e = given_by e.command e.outcome

-- By an entry what the limits of two banks leave falls by the cost of the entry's fills between them and rises by what the entry
-- gives back between them; and what a bank's total leaves falls by the cost of the entry's fills of that bank and rises by what
-- the entry gives back to it. By nothing else: where a credit change sets a limit or a total, it falls from what this one leaves.
pub record Falls (h : Header) (S : State) (e : Entry) : Type 0 where
  pub lines : (i j : ℕ) → i < bank_count h → j < bank_count h → i ≢ j →
      left_of_limits h (after_entry S e) i j + cost_between h i j (fills_of e.outcome)
      ≡ (min ((before_fills S e).limits i j) ((before_fills S e).limits j i) - used h S i j) + given_between e i j
  pub totals : (i most : ℕ) → i < bank_count h → (before_fills S e).totals i ≡ Some most →
      (most - spent h (after_entry S e) i) + total (λ j. cost_between h i j (fills_of e.outcome)) (others h i)
      ≡ (most - spent h S i) + total (given_between e i) (others h i)
