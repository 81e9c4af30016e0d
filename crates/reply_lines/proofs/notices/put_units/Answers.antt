use Rattle.std.proofs.Common.{◌∷◌, [], List, ℕ, take}
use Rattle.fx_amounts.specs.Numeral.{numeral}
use Rattle.reply_lines.proofs.WrittenLines.{first_written, field_written}
use Rattle.reply_lines.proofs.notices.put_units.Goals as goal

pub returns-clause-written : goal.returns-clause-written
returns-clause-written g c =
    let front : List ℕ = take c.args.at c.args.room.now in
    let named : List ℕ = take c.put_word_field-end.result c.put_word_field-end.new.room in
    field_written front named (take c.put_number_field.result c.put_number_field.new.room) (c.args.word.now ∷ []) (numeral c.args.units)
    (first_written front named c.args.word.now c.put_word_field-end.ensures.written) c.put_number_field.ensures.written
