use Rattle.std.proofs.Common.{◌∙◌, ◌++◌, ◌∷◌, [], List, ℕ, ap, take, codes}
use Rattle.fx_amounts.specs.Numeral.{numeral}
use Rattle.fx_rules.specs.Session.{bank_name}
use Rattle.fx_text.specs.Fields.{fields_text}
use Rattle.order_lines.specs.Words.{word_text, side_word}
use Rattle.reply_lines.proofs.WrittenLines.{fill_written}
use Rattle.reply_lines.proofs.notices.put_fill.Goals as goal

pub returns-clause-written : goal.returns-clause-written
returns-clause-written c =
    let texts = c.args.texts.now in
    let party = c.args.party.now in
    let one : List ℕ = take c.put_wide-end.result c.put_wide-end.new.room in
    let two : List ℕ = take c.put_own_side-end.result c.put_own_side-end.new.room in
    let three : List ℕ = take c.put-end.result c.put-end.new.room in
    let four : List ℕ = take c.put_name_field-end.result c.put_name_field-end.new.room in
    let five : List ℕ = take c.put-end-2.result c.put-end-2.new.room in
    fill_written (take c.args.at c.args.room.now) one two three four five (take c.put_byte.result c.put_byte.new.room)
    (numeral c.args.number) (fields_text (codes "FILL" ∷ numeral party.number ∷ word_text (side_word party.side) ∷ [])) texts.trade (bank_name c.args.session.now party.other) texts.amounts
    c.put_wide-end.ensures.written c.put_own_side-end.ensures.written
    c.put-end.ensures.written
    (c.put_name_field-end.ensures.written ∙ ap (λ (t : List ℕ). three ++ 32 ∷ t) c.name.ensures.value)
    c.put-end-2.ensures.written
    c.put_byte.ensures.written
