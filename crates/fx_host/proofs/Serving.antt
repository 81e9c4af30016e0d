-- A command that is served at the host.
use Rattle.std.proofs.Common.{ℕ, ◌≡◌, true, false, None, List, Result, Ok, Err, IfOk, OnErr, refl, ap}
use Rattle.fx_amounts.specs.declared.memory.Memory.{Memory}
use Rattle.fx_rules.specs.declared.command.Command.{Command}
use Rattle.fx_rules.specs.declared.command.Command.TheVariants.{Order, Cancel, Reduce, Pull, Line, Total, Settle, Show, Book, Bad}
use Rattle.fx_rules.specs.declared.outcome.Outcome.{Outcome}
use Rattle.fx_rules.specs.declared.outcome.Entry.{Entry}
use Rattle.fx_rules.specs.Session.{Header, IsSession}
use Rattle.fx_rules.specs.Sending.{pair_of}
use Rattle.fx_rules.specs.Step.{IsCommand}
use Rattle.fx_rules.specs.History.{own}
use Rattle.fx_chronicle.specs.Faces.{Witness}
use Rattle.fx_chronicle.specs.Submitting.{Submitted}
use Rattle.credit_raise.specs.UnderWay.{is_change}
use Rattle.credit_lines.specs.Table.{is_of_no_pair}
use Rattle.credit_book.specs.Serving.{IsServed}
use Rattle.credit_book.proofs.Submitting.{submitted}

-- what its bank then knows
pub serves-submitted : (h : Header) (before : List Entry) (pass : Witness Entry) (command : Command) (after : List Entry) (pass' : Witness Entry) (r : Result Outcome Memory) → IfOk r (IsServed h before pass command after pass')
    → IfOk r (Submitted h pass.key pass.seen (own pass.key pass.met) command pass'.seen (own pass'.key pass'.met))
serves-submitted h before pass command after pass' (Ok outcome) served = submitted h before pass command after pass' outcome served
serves-submitted h before pass command after pass' (Err e) served = tt

pub same_bank : (h : Header) (before : List Entry) (pass : Witness Entry) (command : Command) (after : List Entry) (pass' : Witness Entry) (r : Result Outcome Memory) → IfOk r (IsServed h before pass command after pass') → OnErr r (pass' ≡ pass) → pass'.key ≡ pass.key
same_bank h before pass command after pass' (Ok outcome) served kept = ap (λ (w : Witness Entry). w.key) served.meets
same_bank h before pass command after pass' (Err e) served kept = ap (λ (w : Witness Entry). w.key) kept

-- A command that is about no pair and changes no credit is a show command or a line that could not be read.
pub left-over : (h : Header) (bank : ℕ) (command : Command) → IsSession h → IsCommand h bank command → pair_of command ≡ None → is_change command ≡ false → is_of_no_pair command ≡ true
left-over h bank (Order side pair price lots life) session valid none stays = cc
left-over h bank (Cancel pair number) session valid none stays = cc
left-over h bank (Reduce pair number lots) session valid none stays = cc
left-over h bank (Pull pair) session valid none stays = cc
left-over h bank (Line other limit) session valid none stays = cc
left-over h bank (Total limit) session valid none stays = cc
left-over h bank (Settle a b units) session valid none stays = cc
left-over h bank (Show other) session valid none stays = refl
left-over h bank (Book pair) session valid none stays = cc
left-over h bank (Bad reason) session valid none stays = refl
