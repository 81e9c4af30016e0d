-- Which commands are credit changes, and what one leaves.
use Rattle.std.proofs.Common.{ℕ, ◌≡◌, true, List, [], ap, sym, refl, ◌∙◌, arith}
use Rattle.std.proofs.lemmas.Bool.{false≢true}
use Rattle.fx_rules.specs.declared.command.Command.{Command}
use Rattle.fx_rules.specs.declared.command.Command.TheVariants.{Line, Total, Settle}
use Rattle.fx_rules.specs.declared.orders.Fill.{Fill}
use Rattle.fx_rules.specs.Session.{Header, bank_count}
use Rattle.fx_rules.specs.State.{State}
use Rattle.fx_rules.specs.Sweep.{filled_all}
use Rattle.fx_rules.specs.Step.{IsCommand, after, credit_changed}
use Rattle.credit_lines.specs.Credit.{Credit}
use Rattle.credit_raise.specs.declared.course.Course.{Course}
use Rattle.credit_raise.specs.declared.course.Course.TheVariants.{Raised, Swept}
use Rattle.credit_raise.specs.UnderWay.{Change, HasBanks, IsAmong, IsChange, IsSetBy, IsUnderWay, answer_of, course_of, fills_of_all, is_change, opened, outcome_of, reached, set_of}
use Rattle.credit_raise.specs.inside.UnderWay.{course_behind}
use Rattle.credit_raise.proofs.Turning.{paid_all-banks}

-- a credit change that its sender may send in a session is one that it can send over the session's lines
pub command-change : (h : Header) (banks sender : ℕ) (command : Command) → is_change command ≡ true → banks ≡ bank_count h → IsCommand h sender command → IsChange banks sender command
command-change h banks sender (Line other asked) is same may = (omega (arith, same, may.sends), omega (arith, same, may.values.0), λ alike. may.values.1 (sym alike))
command-change h banks sender (Total asked) is same may = omega (arith, same, may.sends.1)
command-change h banks sender (Settle a b asked) is same may = (omega (arith, same, may.values.0), omega (arith, same, may.values.1), may.values.2)
command-change h banks sender command is same may = absurd (false≢true is)

-- before the first turn it has its sender and its command
pub opened-sender : (credit : Credit) (sender : ℕ) (command : Command) (change : Change) → change ≡ opened credit sender command → change.sender ≡ sender
opened-sender credit sender command change opens = ap (λ (c : Change). c.sender) opens

pub opened-command : (credit : Credit) (sender : ℕ) (command : Command) (change : Change) → change ≡ opened credit sender command → change.command ≡ command
opened-command credit sender command change opens = ap (λ (c : Change). c.command) opens

-- behind a command and its answer a state has the orders that the fills leave
answer-orders : (h : Header) (S : State) (sender : ℕ) (command : Command) (set : ℕ) (fills : List Fill) → IsSetBy h S sender command set
    → (after S sender command (answer_of command set fills)).orders ≡ (filled_all (credit_changed S sender command (answer_of command set [])) fills).orders
answer-orders h S sender (Line other asked) set fills is = refl
answer-orders h S sender (Total asked) set fills is = refl
answer-orders h S sender (Settle a b asked) set fills is = refl
answer-orders h S sender command set fills is = absurd is

pub reached-orders : (h : Header) (S : State) (change : Change) → IsUnderWay h S change → (after S change.sender change.command (outcome_of change)).orders ≡ (reached change S).orders
reached-orders h S change under = answer-orders h S change.sender change.command (set_of change.course) (fills_of_all change.plans) under.set

-- ---- its banks

pub opened-banks : (credit : Credit) (sender : ℕ) (command : Command) (banks : ℕ) → banks ≡ credit.banks → HasBanks (course_of credit sender command) banks
opened-banks credit sender (Line other asked) banks same = tt
opened-banks credit sender (Total asked) banks same = same
opened-banks credit sender (Settle a b asked) banks same = same
opened-banks credit sender command banks same = same

-- a book for all banks of a session has those of a change that is under way there
pub among-has : (banks sender its : ℕ) (course : Course) → IsAmong banks sender course → its ≡ banks → HasBanks course its
among-has banks sender its (Raised other limit line) among same = tt
among-has banks sender its (Swept lines set) among same = same ∙ sym among

-- fills that are paid for leave the banks
pub behind-has : (banks weight : ℕ) (fills : List Fill) (course : Course) → HasBanks course banks → HasBanks (course_behind weight fills course) banks
behind-has banks weight fills (Raised other limit line) has = tt
behind-has banks weight fills (Swept lines set) has = has ∙ sym (paid_all-banks weight lines fills)
