use Rattle.std.proofs.Common.{List, ◌++◌, sym, subst, take, append-nil}
use Rattle.std.proofs.lemmas.List.{take_all}
use Rattle.fx_rules.specs.declared.orders.Fill.{Fill}
use Rattle.day_report.proofs.Following.{trades-at, one-more}
use Rattle.net_settle.specs.inside.Dues.{AreDues}
use Rattle.net_settle.proofs.dues.Dues.add_all.Goals as goal

pub loop-fill-init : goal.loop-fill-init
loop-fill-init c before are = subst (λ (fs : List Fill). AreDues c.args.session.now fs c.args.self.now) (sym (append-nil before)) are

pub add-requires : goal.add-requires
add-requires c = (
  c.requires.0 ++ take c.loop-fill.fill-index c.args.fills.now,
  c.loop-fill.invariant c.requires.0 c.requires.1,
  trades-at c.args.session.now c.requires.0 c.args.fills.now c.loop-fill.fill-index c.fill-item.result c.requires.2 c.loop-fill-test.true c.fill-item.is,
)

pub loop-fill-preserved : goal.loop-fill-preserved
loop-fill-preserved c before are =
    subst (λ (fs : List Fill). AreDues c.args.session.now fs c.add.new.self)
    (one-more before c.args.fills.now c.loop-fill.fill-index c.fill-item.result c.loop-fill-test.true c.fill-item.is)
    (c.add.ensures.adds (before ++ take c.loop-fill.fill-index c.args.fills.now) (c.loop-fill.invariant before are))

pub returns : goal.returns
returns c = record {
  adds = λ before are.
      subst (λ (fs : List Fill). AreDues c.args.session.now (before ++ fs) c.loop-fill.self) (take_all c.loop-fill.fill-index c.args.fills.now c.loop-fill-test.false) (c.loop-fill.invariant before are);
}
