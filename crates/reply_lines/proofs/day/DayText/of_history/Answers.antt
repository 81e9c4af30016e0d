-- Each turn adds the entry behind those so far.
use Rattle.std.proofs.Common.{List, sym, subst, take}
use Rattle.std.proofs.lemmas.List.{take_all}
use Rattle.fx_rules.specs.declared.outcome.Entry.{Entry}
use Rattle.day_report.proofs.Trading.{legal-to, taken}
use Rattle.reply_lines.specs.Day.{IsTextOf}
use Rattle.reply_lines.proofs.day.DayText.of_history.Goals as goal

pub add-requires : goal.add-requires
add-requires c = record {
  next = (
    take c.loop-entry.entry-index c.args.entries.now,
    legal-to c.args.session.now c.args.entries.now c.loop-entry.entry-index c.entry-item.result c.requires.legal c.loop-entry-test.true c.entry-item.is,
    c.loop-entry.invariant,
  );
}

pub loop-entry-preserved : goal.loop-entry-preserved
loop-entry-preserved c =
    let h = c.args.session.now in
    let so_far : List Entry = take c.loop-entry.entry-index c.args.entries.now in
    subst (λ (es : List Entry). IsTextOf h es c.add.new.self)
    (sym (taken c.args.entries.now c.loop-entry.entry-index c.entry-item.result c.loop-entry-test.true c.entry-item.is))
    (c.in_ok-add.ensures.added so_far (legal-to h c.args.entries.now c.loop-entry.entry-index c.entry-item.result c.requires.legal c.loop-entry-test.true c.entry-item.is) c.loop-entry.invariant)

pub returns : goal.returns
returns c = record {
  told = subst (λ (es : List Entry). IsTextOf c.args.session.now es c.loop-entry.day) (take_all c.loop-entry.entry-index c.args.entries.now c.loop-entry-test.false) c.loop-entry.invariant;
}
