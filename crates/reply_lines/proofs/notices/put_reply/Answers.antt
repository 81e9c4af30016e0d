use Rattle.std.proofs.Common.{◌∷◌, [], take, codes}
use Rattle.fx_amounts.specs.Numeral.{numeral}
use Rattle.reply_lines.specs.inside.Replies.{plain_fields}
use Rattle.reply_lines.proofs.WrittenLines.{row_written}
use Rattle.reply_lines.proofs.notices.put_reply.Goals as goal

pub returns-clause-written : goal.returns-clause-written
returns-clause-written c =
    row_written (take c.args.at c.args.room.now) (take c.put_wide-end.result c.put_wide-end.new.room) (take c.put_count-end.result c.put_count-end.new.room) (take c.put_outcome-end.result c.put_outcome-end.new.room) (take c.put_byte.result c.put_byte.new.room)
    (numeral c.args.notice) (codes "REPLY" ∷ numeral c.args.number ∷ []) (plain_fields c.args.outcome.now)
    c.put_wide-end.ensures.written c.put_count-end.ensures.written c.put_outcome-end.ensures.written c.put_byte.ensures.written
