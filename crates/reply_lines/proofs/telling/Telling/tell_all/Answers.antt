use Rattle.fx_edges.proofs.Writing.{IsPrefixOf-trans}
use Rattle.reply_lines.specs.inside.Prints.{IsEntryOf}
use Rattle.reply_lines.specs.Telling.{addressed_in}
use Rattle.reply_lines.proofs.Counting.{can-more, can-turn, told-begins, told-more}
use Rattle.reply_lines.proofs.Items.{at-place}
use Rattle.reply_lines.proofs.telling.Telling.tell_all.Goals as goal

pub tell_entry-requires : goal.tell_entry-requires
tell_entry-requires c = record {
  entry = (at-place (IsEntryOf c.args.session.now) c.args.entries.now c.loop-entry.entry-index c.entry-item.result c.loop-entry-test.true c.entry-item.is c.loop-entry.invariant.each).0;
  can = can-turn addressed_in c.args.entries.now c.loop-entry.entry-index c.entry-item.result c.loop-entry-test.true c.entry-item.is c.loop-entry.invariant.can;
}

pub loop-entry-preserved : goal.loop-entry-preserved
loop-entry-preserved c = record {
  told = told-more addressed_in c.args.entries.now c.loop-entry.entry-index c.entry-item.result c.loop-entry-test.true c.entry-item.is c.args.session.now c.loop-entry.invariant.told c.in_ok-tell_entry.ensures.ok;
  can = can-more addressed_in c.args.entries.now c.loop-entry.entry-index c.entry-item.result c.loop-entry-test.true c.entry-item.is c.in_ok-tell_entry.ensures.ok.counted c.loop-entry.invariant.can;
  each = (at-place (IsEntryOf c.args.session.now) c.args.entries.now c.loop-entry.entry-index c.entry-item.result c.loop-entry-test.true c.entry-item.is c.loop-entry.invariant.each).1;
}

pub returns-in_err-tell_entry-clause-begins : goal.returns-in_err-tell_entry-clause-begins
returns-in_err-tell_entry-clause-begins c = IsPrefixOf-trans (told-begins c.loop-entry.invariant.told) c.in_err-tell_entry.ensures.begins

pub returns-clause-begins : goal.returns-clause-begins
returns-clause-begins c = told-begins c.loop-entry.invariant.told
