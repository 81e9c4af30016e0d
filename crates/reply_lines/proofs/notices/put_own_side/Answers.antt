use Rattle.std.proofs.Common.{◌∷◌, [], take, codes}
use Rattle.fx_amounts.specs.Numeral.{numeral}
use Rattle.order_lines.specs.Words.{word_text, side_word}
use Rattle.reply_lines.proofs.WrittenLines.{field_written}
use Rattle.reply_lines.proofs.notices.put_own_side.Goals as goal

pub returns-clause-written : goal.returns-clause-written
returns-clause-written c =
    field_written (take c.args.at c.args.room.now) (take c.put_count-end.result c.put_count-end.new.room) (take c.put_side.result c.put_side.new.room) (codes "FILL" ∷ numeral c.args.own_number ∷ []) (word_text (side_word c.args.side))
    c.put_count-end.ensures.written c.put_side.ensures.written
