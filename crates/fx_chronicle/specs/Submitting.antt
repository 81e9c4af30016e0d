-- What a command comes to that a bank submits at a desk.
use Rattle.std.specs.Prelude.{ℕ, ◌≡◌, ◌+◌, ◌<◌, List, [], ◌∷◌, ◌++◌, length, map}
use mathlib.Core.List.{IsPrefix}
use Rattle.fx_amounts.specs.declared.side.Side.TheVariants.{Buy, Sell}
use Rattle.fx_rules.specs.declared.command.Command.{Command}
use Rattle.fx_rules.specs.declared.command.Command.TheVariants.{Line, Total, Book}
use Rattle.fx_rules.specs.declared.orders.Fill.{Fill}
use Rattle.fx_rules.specs.declared.orders.Level.{Level}
use Rattle.fx_rules.specs.declared.outcome.Outcome.{Outcome}
use Rattle.fx_rules.specs.declared.outcome.Outcome.TheVariants.{LineSet, TotalSet, Depth}
use Rattle.fx_rules.specs.declared.outcome.Entry.{Entry}
use Rattle.fx_rules.specs.Session.{Header, bank_count, pair_count}
use Rattle.fx_rules.specs.Raise.{limited, totalled}
use Rattle.fx_rules.specs.Depth.{IsDepth}
use Rattle.fx_rules.specs.Step.{IsOutcome}
use Rattle.fx_rules.specs.History.{IsLegal, state, own}
use Rattle.fx_rules.specs.View.{view, told, fill_seen}
use Rattle.fx_rules.specs.Truthful.{IsTruthful}
use Rattle.fx_chronicle.specs.Along.{IsOrderly}

-- the entry of a bank's next command, behind those of its commands so far
abbrev pub next_own : ℕ → List Entry → Command → Outcome → Entry
next_own bank mine command outcome = record { bank = bank; number = length mine + 1; command = command; outcome = outcome }

-- Wherever a legal history leaves a market that looks to the bank as it does after `before`, the bank is told the same of the
-- command. (The operator has no view.)
abbrev pub IsToldByView : Header → List Entry → ℕ → Command → Outcome → Type 0
IsToldByView h before bank command outcome =
    (others : List Entry) (other : Outcome) → IsLegal h others → view h (state h before) bank ≡ view h (state h others) bank →
    bank < bank_count h → IsOutcome h (state h others) bank command other → told outcome ≡ told other

-- The same of the fills of a bank's credit change, where the two markets look alike once its limit or its total is set: they are
-- the same, but for the numbers of the other banks' orders.
abbrev pub IsFilledByView : Header → List Entry → ℕ → Command → Outcome → Type 0
IsFilledByView h before bank (Line other asked) (LineSet limit fills) =
    (others : List Entry) (theirs : List Fill) → IsLegal h others →
    view h (limited bank other limit (state h before)) bank ≡ view h (limited bank other limit (state h others)) bank →
    IsOutcome h (state h others) bank (Line other asked) (LineSet limit theirs) → map (fill_seen bank) fills ≡ map (fill_seen bank) theirs
IsFilledByView h before bank (Total asked) (TotalSet most fills) =
    (others : List Entry) (theirs : List Fill) → IsLegal h others →
    view h (totalled bank most (state h before)) bank ≡ view h (totalled bank most (state h others)) bank →
    IsOutcome h (state h others) bank (Total asked) (TotalSet most theirs) → map (fill_seen bank) fills ≡ map (fill_seen bank) theirs
IsFilledByView _ _ _ _ _ = Unit {0}

-- Wherever a legal history leaves a market that looks to the bank as it does after `before`, the bank's local book of each pair
-- of the session is the same.
abbrev pub IsShownByView : Header → List Entry → ℕ → Type 0
IsShownByView h before bank =
    (others : List Entry) (pair : ℕ) (bids asks bids' asks' : List Level) → IsLegal h others → view h (state h before) bank ≡ view h (state h others) bank →
    bank < bank_count h → pair < pair_count h →
    IsDepth h (state h before) bank pair bids asks → IsDepth h (state h others) bank pair bids' asks' → (bids ≡ bids') × (asks ≡ asks')

-- both sides of a local book are truthful
abbrev pub IsTruthfulBook : Header → List Entry → ℕ → Command → Outcome → Type 0
IsTruthfulBook h before bank (Book pair) (Depth bids asks) =
    IsTruthful h (state h before) bank pair Sell bids × IsTruthful h (state h before) bank pair Buy asks
IsTruthfulBook _ _ _ _ _ = Unit {0}

-- What a bank knows once its command is carried out: `seen` is all that it had seen of the history before, `mine` the entries
-- of its commands so far, and `seen'` and `mine'` are the same behind the call.
pub record Submitted (h : Header) (bank : ℕ) (seen mine : List Entry) (command : Command) (seen' mine' : List Entry) (outcome : Outcome) : Type 0 where
  -- it has seen one legal history, which begins with all that it had seen and ends with this command and its outcome
  pub before : List Entry
  pub begins : IsPrefix seen before
  pub ends : seen' ≡ before ++ next_own bank mine command outcome ∷ []
  pub legal : IsLegal h seen'
  -- of its own commands that history has just those that it submitted, this one as the last
  pub mine_grew : mine' ≡ mine ++ next_own bank mine command outcome ∷ []
  pub own_are_mine : own bank seen' ≡ mine'
  -- along it the lines hold and nothing rests crossed
  pub orderly : IsOrderly h seen'
  -- what the bank is told and its local books rest on what it sees alone, and a local book keeps its word
  pub told_by_view : IsToldByView h before bank command outcome
  pub shown_by_view : IsShownByView h before bank
  pub filled_by_view : IsFilledByView h before bank command outcome
  pub truthful : IsTruthfulBook h before bank command outcome

-- A history at its close, to a pass of a bank: it begins with what the pass had seen, and of the bank it has just the commands
-- that the pass submitted.
pub record IsWholeOf (bank : ℕ) (seen mine history : List Entry) : Type 0 where
  pub begins : IsPrefix seen history
  pub own_are_mine : own bank history ≡ mine

-- What a bank knows once its command is refused when out of memory, in the words of `Submitted`: the history has nothing of the
-- call, however it goes on.
pub record Refused (h : Header) (bank : ℕ) (seen mine seen' mine' : List Entry) : Type 0 where
  -- what it has seen and what it submitted stays
  pub nothing_seen : seen' ≡ seen
  pub nothing_sent : mine' ≡ mine
  -- A history that the bank's next command ends has of the bank what was submitted before the call, and then that command, under
  -- the number that the refused one would have had.
  pub not_before_next : (command : Command) (seen'' mine'' : List Entry) (outcome : Outcome) → Submitted h bank seen' mine' command seen'' mine'' outcome →
      own bank seen'' ≡ mine ++ next_own bank mine command outcome ∷ []
  -- and a history at its close has of it what was submitted before the call, and no more
  pub not_at_close : (history : List Entry) → IsWholeOf bank seen' mine' history → own bank history ≡ mine
