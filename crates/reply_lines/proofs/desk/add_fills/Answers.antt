-- Each turn adds one fill's notices.
use Rattle.std.proofs.Common.{arith}
use Rattle.reply_lines.specs.Notices.{fill_notices}
use Rattle.reply_lines.specs.Prints.{IsFillOf}
use Rattle.reply_lines.proofs.Gathering.{got-more}
use Rattle.reply_lines.proofs.Items.{at-place}
use Rattle.reply_lines.proofs.desk.add_fills.Goals as goal

pub loop-fill-preserved : goal.loop-fill-preserved
loop-fill-preserved c = record {
  got = got-more c.args.session.now fill_notices c.args.fills.now c.loop-fill.fill-index c.fill-item.result c.args.desks.now.items c.loop-fill.desks.items c.add_fill.new.desks.items c.loop-fill-test.true c.fill-item.is c.loop-fill.invariant.got c.in_ok-add_fill.ensures.ok;
  banks = omega (arith, c.in_ok-add_fill.ensures.ok.count, c.loop-fill.invariant.banks);
  fills = (at-place (IsFillOf c.args.session.now) c.args.fills.now c.loop-fill.fill-index c.fill-item.result c.loop-fill-test.true c.fill-item.is c.loop-fill.invariant.fills).1;
}
