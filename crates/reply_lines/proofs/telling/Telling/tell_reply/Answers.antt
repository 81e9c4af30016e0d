-- The sender's name stands before its reply.
use Rattle.reply_lines.specs.Notices.{notice_line}
use Rattle.reply_lines.specs.Notices.Notice.{Replied}
use Rattle.reply_lines.specs.Telling.{addressed_to}
use Rattle.reply_lines.proofs.Counting.{begins-put, told-one}
use Rattle.reply_lines.proofs.Outputs.{on_ok}
use Rattle.reply_lines.proofs.telling.Telling.tell_reply.Goals as goal

pub returns-clause-ok : goal.returns-clause-ok
returns-clause-ok c =
    on_ok c.reply.result
    (told-one c.args.session.now (addressed_to c.args.entry.now.bank (Replied c.args.entry.now)) c.in_ok-number.number c.in_ok-number.ensures.number c.in_ok-number.ensures.counted
    c.sender_name.ensures.value c.in_ok-number.ensures.named)
    c.reply.ensures.ok

pub returns-clause-begins : goal.returns-clause-begins
returns-clause-begins c = begins-put c.reply.result (notice_line c.args.session.now c.in_ok-number.number (Replied c.args.entry.now)) c.reply.ensures.ok c.reply.ensures.memory c.in_ok-number.ensures.begins
