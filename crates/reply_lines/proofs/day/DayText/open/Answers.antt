-- The journal has no line, and nobody a notice.
use Rattle.std.proofs.Common.{[]}
use Rattle.reply_lines.proofs.day.DayText.open.Goals as goal

pub returns : goal.returns
returns c = record {
  opens = c.of.ensures.told c.args.session.now [] (record { count = c.new.ensures.count; lines = c.new.ensures.lines }) c.in_ok-notices.ensures.opens;
}
