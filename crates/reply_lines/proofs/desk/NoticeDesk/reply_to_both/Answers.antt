-- The other desk gets the line of the reply.
use Rattle.std.proofs.Common.{◌+◌, length, ap, ◌∙◌}
use Rattle.reply_lines.specs.Desks.{DeskSoFar}
use Rattle.reply_lines.specs.Notices.Notice.{Replied}
use Rattle.reply_lines.proofs.NumberedLines.{last_line}
use Rattle.reply_lines.proofs.Outputs.{on_ok}
use Rattle.reply_lines.proofs.desk.NoticeDesk.reply_to_both.Goals as goal

pub copy-requires : goal.copy-requires
copy-requires c =
    let was = c.args.self.now in
    record {
      line = (
        c.args.session.now,
        was.count + 1,
        Replied c.args.entry.now,
        last_line c.args.session.now was c.reply.new.self (Replied c.args.entry.now) c.len-from.result c.self-2.inside.lines c.since.result.now c.in_ok-reply.ensures.ok (ap (λ (desk : DeskSoFar). desk.lines) c.self-2.view_is)
            (c.len-from.ensures ∙ ap (λ (desk : DeskSoFar). length desk.lines) c.self.view_is) c.since.ensures,
      );
    }

pub returns-clause-other : goal.returns-clause-other
returns-clause-other c =
    let was = c.args.self.now in
    on_ok c.copy.result (λ given.
    given c.args.session.now (was.count + 1) (Replied c.args.entry.now)
    (last_line c.args.session.now was c.reply.new.self (Replied c.args.entry.now) c.len-from.result c.self-2.inside.lines c.since.result.now c.in_ok-reply.ensures.ok (ap (λ (desk : DeskSoFar). desk.lines) c.self-2.view_is)
    (c.len-from.ensures ∙ ap (λ (desk : DeskSoFar). length desk.lines) c.self.view_is) c.since.ensures))
    c.copy.ensures.ok
