use Rattle.std.proofs.Common.{◌∙◌, ◌++◌, List, ℕ, ap, take, arith}
use Rattle.order_lines.specs.Spelling.{command_text_of}
use Rattle.fx_text.proofs.LineTexts.{fits_room}
use Rattle.order_lines.proofs.WrittenCommands.{IsWritten-command}
use Rattle.order_lines.proofs.writing.make_text.Goals as goal

pub returns-clause-made : goal.returns-clause-made
returns-clause-made c =
    let text : List ℕ = command_text_of c.args.session.now c.args.sender c.args.command.now in
    let is = IsWritten-command c.args.session.now c.args.sender c.args.command.now c.banks-banks.ensures.valid c.requires in
    fits_room text c.push_command.new.line (omega (arith, is.short)) (c.push_command.ensures ∙ ap (λ (line : List ℕ). take 256 (line ++ text)) c.clear.ensures)

pub returns-clause-short : goal.returns-clause-short
returns-clause-short c = (IsWritten-command c.args.session.now c.args.sender c.args.command.now c.banks-banks.ensures.valid c.requires).short
