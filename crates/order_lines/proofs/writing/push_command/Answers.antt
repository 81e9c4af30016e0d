use Rattle.std.proofs.Common.{◌∙◌, ◌++◌, ◌∷◌, List, ℕ, ap, take}
use Rattle.order_lines.specs.inside.Printing.{subject_field}
use Rattle.fx_text.proofs.LineTexts.{within_room}
use Rattle.order_lines.proofs.Printed.{whole_line}
use Rattle.order_lines.proofs.writing.push_command.Goals as goal

pub push_details-requires-clause-room : goal.push_details-requires-clause-room
push_details-requires-clause-room c = within_room (c.push_field.new.self ++ 32 ∷ subject_field c.args.session.now c.args.command.now) c.push_subject.new.line c.push_subject.ensures

pub returns : goal.returns
returns c =
    whole_line c.args.session.now c.args.sender c.args.command.now c.args.line.now c.push.new.self c.push_field.new.self c.push_subject.new.line c.push_details.new.line
    (c.push.ensures ∙ ap (λ (name : List ℕ). take 256 (c.args.line.now ++ name)) c.sender_name.ensures.value)
    (c.push_field.ensures ∙ ap (λ (word : List ℕ). take 256 (c.push.new.self ++ 32 ∷ word)) c.word_of.ensures)
    c.push_subject.ensures c.push_details.ensures
