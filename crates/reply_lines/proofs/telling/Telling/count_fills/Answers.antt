use Rattle.reply_lines.specs.Telling.{fill_addressed}
use Rattle.reply_lines.proofs.Counting.{can-more, can-turn, counted-more}
use Rattle.reply_lines.proofs.telling.Telling.count_fills.Goals as goal

pub count_fill-requires : goal.count_fill-requires
count_fill-requires c = record {
  can = can-turn fill_addressed c.args.fills.now c.loop-fill.fill-index c.fill-item.result c.loop-fill-test.true c.fill-item.is c.loop-fill.invariant.can;
}

pub loop-fill-preserved : goal.loop-fill-preserved
loop-fill-preserved c = record {
  counted = counted-more fill_addressed c.args.fills.now c.loop-fill.fill-index c.fill-item.result c.loop-fill-test.true c.fill-item.is c.args.self.now.counts.items c.loop-fill.self.counts.items c.count_fill.new.self.counts.items c.loop-fill.invariant.counted c.count_fill.ensures.counted;
  can = can-more fill_addressed c.args.fills.now c.loop-fill.fill-index c.fill-item.result c.loop-fill-test.true c.fill-item.is c.count_fill.ensures.counted c.loop-fill.invariant.can;
}
