-- The desks have the notices already, and the sums follow.
use Rattle.reply_lines.proofs.Gathering.{desks-more}
use Rattle.reply_lines.proofs.day_notices.DayNotices.follow.Goals as goal

pub returns : goal.returns
returns c = record {
  follows = λ entries before legal sums are got. record {
    desks = desks-more c.args.session.now entries c.args.entry.now before c.args.self.now.desks.items are got;
    sums = c.follow.ensures.follows entries legal sums;
  };
}
