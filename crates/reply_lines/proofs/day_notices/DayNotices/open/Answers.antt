-- No desk has a notice, and the sums are those of the opening state.
use Rattle.reply_lines.proofs.Gathering.{desks-none}
use Rattle.reply_lines.proofs.day_notices.DayNotices.open.Goals as goal

pub returns : goal.returns
returns c = record {
  opens = record {
    desks = desks-none c.args.session.now c.in_ok-no_desks.field-0.items c.in_ok-no_desks.ensures.none;
    sums = c.in_ok-open.ensures.sums;
  };
}
