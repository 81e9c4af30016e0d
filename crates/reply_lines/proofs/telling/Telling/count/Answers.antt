use Rattle.reply_lines.proofs.Counting.{can-count, counted-behind}
use Rattle.reply_lines.proofs.telling.Telling.count.Goals as goal

pub count_all-requires : goal.count_all-requires
count_all-requires c =
    let next = c.requires.next in
    record { can = can-count next.0 next.1 c.args.entries.now c.args.self.now.counts.items next.2 next.3 }

pub returns : goal.returns
returns c =
    let next = c.requires.next in
    let can = can-count next.0 next.1 c.args.entries.now c.args.self.now.counts.items next.2 next.3 in
    record {
      counted = λ h before has. counted-behind h before c.args.entries.now c.args.self.now.counts.items c.count_all.new.self.counts.items can.senders c.count_all.ensures.counted has;
    }
