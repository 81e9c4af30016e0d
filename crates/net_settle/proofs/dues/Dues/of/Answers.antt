use Rattle.std.proofs.Common.{List, ◌++◌, take, ap, sym, subst, ◌∙◌}
use Rattle.std.proofs.lemmas.List.{take_all}
use Rattle.fx_rules.specs.declared.orders.Fill.{Fill}
use Rattle.fx_rules.specs.declared.outcome.Entry.{Entry}
use Rattle.fx_rules.specs.State.{State}
use Rattle.fx_rules.specs.History.{state}
use Rattle.day_report.proofs.Trading.{legal-to, state-to}
use Rattle.day_report.proofs.Following.{entry-fits, state-fills}
use Rattle.net_settle.specs.inside.Dues.{AreDues}
use Rattle.net_settle.proofs.dues.Dues.of.Goals as goal

pub add_all-requires : goal.add_all-requires
add_all-requires c = (
  (state c.args.session.now (take c.loop-entry.entry-index c.args.entries.now)).fills,
  c.loop-entry.invariant,
  entry-fits c.args.session.now (take c.loop-entry.entry-index c.args.entries.now) c.entry-item.result c.fills.result.now
      (legal-to c.args.session.now c.args.entries.now c.loop-entry.entry-index c.entry-item.result c.requires.legal c.loop-entry-test.true c.entry-item.is) c.fills.ensures.fills,
)

pub loop-entry-preserved : goal.loop-entry-preserved
loop-entry-preserved c =
    let h = c.args.session.now in
    let before = take c.loop-entry.entry-index c.args.entries.now in
    let legal = legal-to h c.args.entries.now c.loop-entry.entry-index c.entry-item.result c.requires.legal c.loop-entry-test.true c.entry-item.is in
    subst (λ (fs : List Fill). AreDues h fs c.add_all.new.self)
    (ap (λ (fs : List Fill). (state h before).fills ++ fs) c.fills.ensures.fills ∙ sym (state-fills h before c.entry-item.result legal)
    ∙ ap (λ (S : State). S.fills) (state-to h c.args.entries.now c.loop-entry.entry-index c.entry-item.result c.loop-entry-test.true c.entry-item.is))
    (c.add_all.ensures.adds (state h before).fills c.loop-entry.invariant)

pub returns : goal.returns
returns c = record {
  value = subst (λ (es : List Entry). AreDues c.args.session.now (state c.args.session.now es).fills c.loop-entry.dues)
      (take_all c.loop-entry.entry-index c.args.entries.now c.loop-entry-test.false) c.loop-entry.invariant;
}
