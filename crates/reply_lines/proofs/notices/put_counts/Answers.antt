use Rattle.std.proofs.Common.{◌∙◌, ◌++◌, ◌∷◌, [], List, ℕ, ap, take}
use Rattle.fx_amounts.specs.Numeral.{numeral}
use Rattle.reply_lines.proofs.WrittenLines.{field_written}
use Rattle.reply_lines.proofs.notices.put_counts.Goals as goal

pub returns-clause-written : goal.returns-clause-written
returns-clause-written g c =
    let counted : List ℕ = take c.put_count-end.result c.put_count-end.new.room in
    field_written (take c.args.at c.args.room.now) counted (take c.put_number_field.result c.put_number_field.new.room) (c.args.word.now ∷ numeral c.args.first ∷ []) (numeral c.args.second)
    c.put_count-end.ensures.written (c.put_number_field.ensures.written ∙ ap (λ (n : ℕ). counted ++ 32 ∷ numeral n) c.from.ensures)
