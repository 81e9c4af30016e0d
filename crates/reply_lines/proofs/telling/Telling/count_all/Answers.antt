use Rattle.reply_lines.specs.Telling.{addressed_in}
use Rattle.reply_lines.proofs.Counting.{can-more, can-turn, counted-more}
use Rattle.reply_lines.proofs.telling.Telling.count_all.Goals as goal

pub count_entry-requires : goal.count_entry-requires
count_entry-requires c = record {
  can = can-turn addressed_in c.args.entries.now c.loop-entry.entry-index c.entry-item.result c.loop-entry-test.true c.entry-item.is c.loop-entry.invariant.can;
}

pub loop-entry-preserved : goal.loop-entry-preserved
loop-entry-preserved c = record {
  counted = counted-more addressed_in c.args.entries.now c.loop-entry.entry-index c.entry-item.result c.loop-entry-test.true c.entry-item.is c.args.self.now.counts.items c.loop-entry.self.counts.items c.count_entry.new.self.counts.items c.loop-entry.invariant.counted c.count_entry.ensures.counted;
  can = can-more addressed_in c.args.entries.now c.loop-entry.entry-index c.entry-item.result c.loop-entry-test.true c.entry-item.is c.count_entry.ensures.counted c.loop-entry.invariant.can;
}
