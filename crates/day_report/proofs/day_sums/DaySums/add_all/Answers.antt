use Rattle.std.proofs.Common.{List, ◌++◌, refl, sym, subst, take, append-nil}
use Rattle.std.proofs.lemmas.List.{take_all}
use Rattle.fx_rules.specs.declared.orders.Fill.{Fill}
use Rattle.day_report.specs.Sums.{AreVolumes, AreFlows}
use Rattle.day_report.specs.inside.Parts.{HasFills}
use Rattle.day_report.proofs.Bounds.{last-trade}
use Rattle.day_report.proofs.Following.{trades-at, one-more}
use Rattle.day_report.proofs.day_sums.DaySums.add_all.Goals as goal

pub loop-fill-init : goal.loop-fill-init
loop-fill-init c = record {
  lines = refl;
  adds = λ before has. subst (λ (fs : List Fill). HasFills c.args.session.now fs c.args.self.now) (sym (append-nil before)) has;
}

pub amounts_of-amounts-requires : goal.amounts_of-amounts-requires
amounts_of-amounts-requires c =
    let trades = trades-at c.args.session.now c.requires.0 c.args.fills.now c.loop-fill.fill-index c.fill-item.result c.requires.2 c.loop-fill-test.true c.fill-item.is in
    (last-trade c.args.session.now _ c.fill-item.result trades.each).pair

pub add_volume-requires : goal.add_volume-requires
add_volume-requires c = record {
  can = (
    c.requires.0 ++ take c.loop-fill.fill-index c.args.fills.now,
    (c.loop-fill.invariant.adds c.requires.0 c.requires.1).volumes_are,
    trades-at c.args.session.now c.requires.0 c.args.fills.now c.loop-fill.fill-index c.fill-item.result c.requires.2 c.loop-fill-test.true c.fill-item.is,
  );
  base = c.amounts_of-amounts.ensures.base;
  quote = c.amounts_of-amounts.ensures.quote;
}

pub add-requires : goal.add-requires
add-requires c = record {
  can = (
    c.requires.0 ++ take c.loop-fill.fill-index c.args.fills.now,
    (c.loop-fill.invariant.adds c.requires.0 c.requires.1).flows_are,
    trades-at c.args.session.now c.requires.0 c.args.fills.now c.loop-fill.fill-index c.fill-item.result c.requires.2 c.loop-fill-test.true c.fill-item.is,
  );
  base = c.amounts_of-amounts.ensures.base;
  quote = c.amounts_of-amounts.ensures.quote;
}

pub loop-fill-preserved : goal.loop-fill-preserved
loop-fill-preserved c = record {
  lines = c.loop-fill.invariant.lines;
  adds = λ before has.
      let so_far = c.loop-fill.invariant.adds before has in
      let all = before ++ take c.loop-fill.fill-index c.args.fills.now in
      let more = one-more before c.args.fills.now c.loop-fill.fill-index c.fill-item.result c.loop-fill-test.true c.fill-item.is in
      record {
        volumes_are = subst (λ (fs : List Fill). AreVolumes c.args.session.now fs c.add_volume.new.volumes.items) more (c.add_volume.ensures.adds all so_far.volumes_are);
        flows_are = subst (λ (fs : List Fill). AreFlows c.args.session.now fs c.add.new.self) more (c.add.ensures.adds all so_far.flows_are);
      };
}

pub returns : goal.returns
returns c = record {
  lines = c.loop-fill.invariant.lines;
  adds = λ before has.
      subst (λ (fs : List Fill). HasFills c.args.session.now (before ++ fs) c.loop-fill.self) (take_all c.loop-fill.fill-index c.args.fills.now c.loop-fill-test.false) (c.loop-fill.invariant.adds before has);
}
