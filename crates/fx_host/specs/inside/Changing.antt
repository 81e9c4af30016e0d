-- A credit change over all pairs: planned, and then recorded, as its pairs come to make their parts of it.
use Rattle.std.specs.Prelude.{ℕ, ◌≡◌, true, List, [], ◌∷◌, ◌++◌, length}
use Rattle.fx_rules.specs.declared.command.Command.{Command}
use Rattle.fx_rules.specs.declared.outcome.Outcome.{Outcome}
use Rattle.fx_rules.specs.declared.outcome.Entry.{Entry}
use Rattle.fx_rules.specs.Session.{Header, pair_count}
use Rattle.fx_rules.specs.History.{IsLegal, state}
use Rattle.credit_raise.specs.UnderWay.{Change, IsUnderWay, is_change, outcome_of}

-- The last entry is this credit change's: it was under way in the state before, every pair had its turn, and the entry has its
-- sender, its command and its outcome.
pub record IsLast (h : Header) (entries : List Entry) (change : Change) : Type 0 where
  pub before : List Entry
  pub last : Entry
  pub ends : entries ≡ before ++ last ∷ []
  pub under_way : IsUnderWay h (state h before) change
  pub all_turned : length change.plans ≡ pair_count h
  pub sender : last.bank ≡ change.sender
  pub command : last.command ≡ change.command
  pub outcome : last.outcome ≡ outcome_of change

-- A sender's command, a credit change, may go behind a history as this entry. It is then the last, and its sender is told the
-- entry's outcome.
pub record IsPlanned (h : Header) (before : List Entry) (bank : ℕ) (command : Command) (change : Change) (entry : Entry) (answer : Outcome) : Type 0 where
  pub legal : IsLegal h (before ++ entry ∷ [])
  pub sender : entry.bank ≡ bank
  pub asks : entry.command ≡ command
  pub changes : is_change command ≡ true
  pub answers : entry.outcome ≡ answer
  pub last : IsLast h (before ++ entry ∷ []) change
