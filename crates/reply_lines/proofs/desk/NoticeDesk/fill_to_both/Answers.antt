-- The other desk gets the line of the fill.
use Rattle.std.proofs.Common.{◌+◌, length, ap, ◌∙◌}
use Rattle.reply_lines.specs.Desks.{DeskSoFar}
use Rattle.reply_lines.specs.Fills.{notice_to}
use Rattle.reply_lines.proofs.NumberedLines.{last_line}
use Rattle.reply_lines.proofs.Outputs.{on_ok}
use Rattle.reply_lines.proofs.desk.NoticeDesk.fill_to_both.Goals as goal

pub copy-requires : goal.copy-requires
copy-requires c =
    let was = c.args.self.now in
    record {
      line = (
        c.args.session.now,
        was.count + 1,
        notice_to c.args.part c.args.fill.now,
        last_line c.args.session.now was c.fill.new.self (notice_to c.args.part c.args.fill.now) c.len-from.result c.self-2.inside.lines c.since.result.now c.in_ok-fill.ensures.ok (ap (λ (desk : DeskSoFar). desk.lines) c.self-2.view_is)
            (c.len-from.ensures ∙ ap (λ (desk : DeskSoFar). length desk.lines) c.self.view_is) c.since.ensures,
      );
    }

pub returns-clause-other : goal.returns-clause-other
returns-clause-other c =
    let was = c.args.self.now in
    on_ok c.copy.result (λ given.
    given c.args.session.now (was.count + 1) (notice_to c.args.part c.args.fill.now)
    (last_line c.args.session.now was c.fill.new.self (notice_to c.args.part c.args.fill.now) c.len-from.result c.self-2.inside.lines c.since.result.now c.in_ok-fill.ensures.ok (ap (λ (desk : DeskSoFar). desk.lines) c.self-2.view_is)
    (c.len-from.ensures ∙ ap (λ (desk : DeskSoFar). length desk.lines) c.self.view_is) c.since.ensures))
    c.copy.ensures.ok
