use Rattle.std.proofs.Common.{◌∙◌, ◌++◌, ◌∷◌, [], List, ℕ, ap, take, arith, length-append}
use Rattle.order_lines.specs.Spelling.{command_text_of}
use Rattle.fx_text.proofs.LineTexts.{fits_room}
use Rattle.order_lines.proofs.writing.make_command.Goals as goal

pub returns : goal.returns
returns c =
    let text : List ℕ = command_text_of c.args.session.now c.args.sender c.args.command.now in
    fits_room (text ++ 10 ∷ []) c.push_byte.new.self (omega (arith, c.make_text.ensures.short, length-append text (10 ∷ [])))
    (c.push_byte.ensures ∙ ap (λ (line : List ℕ). take 256 (line ++ 10 ∷ [])) c.make_text.ensures.made)
