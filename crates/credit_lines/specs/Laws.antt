-- What the fills of the market do to the credit between its banks.
use Rattle.std.specs.Prelude.{ℕ, ◌<◌, List}
use Rattle.fx_rules.specs.declared.orders.Resting.{Resting}
use Rattle.fx_rules.specs.declared.orders.Fill.{Fill}
use Rattle.fx_rules.specs.declared.outcome.Entry.{Entry}
use Rattle.fx_rules.specs.Session.{Header, IsSession, bank_count, weight_of}
use Rattle.fx_rules.specs.State.{State}
use Rattle.fx_rules.specs.Sweep.{Taker, Swept, filled_all}
use Rattle.fx_rules.specs.Raise.{Turned}
use Rattle.fx_rules.specs.Step.{fills_of}
use Rattle.fx_rules.specs.History.{IsStep, after_entry}
use Rattle.fx_rules.specs.Sound.{IsSound}
use Rattle.credit_lines.specs.Credit.{Credit, IsCredit}
use Rattle.credit_lines.specs.Market.{StandsFor, ArePaid, taken_by_all, line_set, followed}

-- The lines pay for each fill of a sweep in its turn, and one take for each fill leaves the credit of the swept state.
abbrev pub SweepsArePaid : Type 0
SweepsArePaid =
    (h : Header) (S : State) (credit : Credit) (t : Taker) (fills : List Fill) (left : ℕ) →
    IsSound h S → IsCredit credit → StandsFor h S credit → t.bank < bank_count h → 0 < weight_of h t.pair → Swept h S t fills left →
    ArePaid h credit fills × StandsFor h (filled_all S fills) (taken_by_all h credit fills)

-- So do they for the fills that a credit change makes in a pair.
abbrev pub TurnsArePaid : Type 0
TurnsArePaid =
    (h : Header) (pair : ℕ) (S : State) (credit : Credit) (orders : List Resting) (fills : List Fill) →
    IsSound h S → IsCredit credit → StandsFor h S credit → 0 < weight_of h pair → Turned h pair S orders fills →
    ArePaid h credit fills × StandsFor h (filled_all S fills) (taken_by_all h credit fills)

-- So do they for the fills of each step, once its command has set the limit or the total, or given back the units, that it asks for;
-- and the credit that the entry leaves is that of the state after it.
abbrev pub StepsArePaid : Type 0
StepsArePaid =
    (h : Header) (S : State) (credit : Credit) (entry : Entry) →
    IsSession h → IsSound h S → IsCredit credit → StandsFor h S credit → IsStep h S entry →
    ArePaid h (line_set credit entry.bank entry.command) (fills_of entry.outcome) × StandsFor h (after_entry S entry) (followed h credit entry)
