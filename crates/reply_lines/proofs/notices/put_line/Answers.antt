use Rattle.std.proofs.Common.{◌∙◌, ◌++◌, ◌∷◌, [], List, ℕ, ap, take, codes}
use Rattle.fx_amounts.specs.Numeral.{numeral}
use Rattle.fx_text.specs.Fields.{fields_text}
use Rattle.reply_lines.proofs.WrittenLines.{field_written}
use Rattle.reply_lines.proofs.notices.put_line.Goals as goal

pub returns-clause-written : goal.returns-clause-written
returns-clause-written c =
    let front : List ℕ = take c.args.at c.args.room.now in
    let one : List ℕ = take c.put_units-end.result c.put_units-end.new.room in
    let two : List ℕ = take c.put_number_field-end.result c.put_number_field-end.new.room in
    let three : List ℕ = take c.put_number_field.result c.put_number_field.new.room in
    field_written front two three (codes "SHOWN" ∷ numeral c.args.limit ∷ numeral c.args.used ∷ []) (numeral c.args.eff)
    (field_written front one two (codes "SHOWN" ∷ numeral c.args.limit ∷ []) (numeral c.args.used)
    (c.put_units-end.ensures.written ∙ ap (λ (n : ℕ). front ++ fields_text (codes "SHOWN" ∷ numeral n ∷ [])) c.get.ensures.value)
    (c.put_number_field-end.ensures.written ∙ ap (λ (n : ℕ). one ++ 32 ∷ numeral n) c.get-2.ensures.value))
    (c.put_number_field.ensures.written ∙ ap (λ (n : ℕ). two ++ 32 ∷ numeral n) c.get-3.ensures.value)
