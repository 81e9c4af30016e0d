-- A market on one thread: what its calls do to each legal history whose state it stands for. In all of these `stands` tells
-- for which states of which sessions it stands.
use Rattle.std.specs.Prelude.{ℕ, ◌≡◌, ◌<◌, ◌+◌, ◌^◌, List, [], ◌∷◌, ◌++◌}
use Rattle.fx_rules.specs.declared.command.Command.{Command}
use Rattle.fx_rules.specs.declared.outcome.Outcome.{Outcome}
use Rattle.fx_rules.specs.declared.outcome.Outcome.TheVariants.{Depth}
use Rattle.fx_rules.specs.declared.outcome.Entry.{Entry}
use Rattle.fx_rules.specs.Session.{Header, bank_count, pair_count}
use Rattle.fx_rules.specs.State.{State, count_of}
use Rattle.fx_rules.specs.Depth.{IsDepth}
use Rattle.fx_rules.specs.Step.{IsCommand}
use Rattle.fx_rules.specs.History.{IsLegal, state}

-- a legal history of some session led to a state that it stands for, and of which this holds
abbrev pub InSome : (Header → State → Type 0) → (Header → State → Type 0) → Type 0
InSome stands holds = (h : Header) × (H : List Entry) × IsLegal h H × stands h (state h H) × holds h (state h H)

-- this holds of each state that it stands for and to which a legal history led
abbrev pub InEach : (Header → State → Type 0) → (Header → State → Type 0) → Type 0
InEach stands holds = (h : Header) (H : List Entry) → IsLegal h H → stands h (state h H) → holds h (state h H)

-- a sender of the session may send the command as its next one, whose number fits
pub record MaySend (bank : ℕ) (command : Command) (h : Header) (S : State) : Type 0 where
  pub allowed : IsCommand h bank command
  pub number : count_of S bank + 1 < 2 ^ 32

-- a bank of the session may ask for its local book of a pair
pub record MayAsk (bank pair : ℕ) (h : Header) (S : State) : Type 0 where
  pub viewer : bank < bank_count h
  pub within : pair < pair_count h

-- a sender has sent so many commands
abbrev pub HasSent : ℕ → ℕ → Header → State → Type 0
HasSent bank count h S = count_of S bank ≡ count

-- the entry that a sender's next command makes
abbrev pub next_entry : State → ℕ → Command → Outcome → Entry
next_entry S bank command outcome = record { bank = bank; number = count_of S bank + 1; command = command; outcome = outcome }

-- the same of the one entry that a sender's next command makes
abbrev pub GoesOn : (Header → State → Type 0) → (Header → State → Type 0) → ℕ → Command → Outcome → Type 0
GoesOn stood stands bank command outcome =
    (h : Header) (H : List Entry) → IsLegal h H → stood h (state h H) →
    IsLegal h (H ++ next_entry (state h H) bank command outcome ∷ [])
    × stands h (state h (H ++ next_entry (state h H) bank command outcome ∷ []))

-- the outcome is a bank's local book of a pair
abbrev pub IsDepthOf : ℕ → ℕ → Outcome → Header → State → Type 0
IsDepthOf bank pair (Depth bids asks) h S = IsDepth h S bank pair bids asks
IsDepthOf _ _ _ _ _ = ⊥
