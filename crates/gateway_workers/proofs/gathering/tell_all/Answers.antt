use Rattle.std.proofs.Common.{◌≡◌, ◌∙◌, List, refl, ap, subst, arith}
use mathlib.Core.List.{IsPrefix}
use Rattle.fx_rules.specs.declared.outcome.Entry.{Entry}
use Rattle.fx_chronicle.specs.Faces.{Witness}
use Rattle.gateway_workers.specs.inside.Gathering.{IsTold}
use Rattle.gateway_workers.proofs.Gathered.{each-none, each-next, each-all, told-lane}
use Rattle.gateway_workers.proofs.gathering.tell_all.Goals as goal

pub loop-lane-init : goal.loop-lane-init
loop-lane-init g c = record { same = refl; told = each-none (IsTold c.args.pass.now.seen) c.args.lanes.now }

pub loop-lane-preserved : goal.loop-lane-preserved
loop-lane-preserved g c =
    let before = c.loop-lane.invariant in
    let note_is : c.note.result ≡ c.args.pass.now.seen = c.note.ensures.note ∙ ap (λ (p : Witness Entry). p.seen) before.same in
    record {
      same = c.note.ensures.same ∙ before.same;
      told = each-next (IsTold c.args.pass.now.seen) c.args.lanes.now c.loop-lane.lanes c.loop-lane.lane-index c.lane-item.result _ before.told (omega (arith, c.loop-lane-test.true, before.told.long))
          (told-lane c.args.pass.now.seen _ _ c.learn.new.self
          (ap (λ (p : Witness Entry). p.key) c.learn.ensures.pass) (ap (λ (p : Witness Entry). p.met) c.learn.ensures.pass)
          (subst (λ (es : List Entry). IsPrefix es c.learn.new.self.seen) note_is c.learn.ensures.told)
          refl c.catch_up.ensures.bank c.catch_up.ensures.mine c.catch_up.ensures.own c.catch_up.ensures.begins);
    }

pub returns-clause-told : goal.returns-clause-told
returns-clause-told g c = each-all (IsTold c.args.pass.now.seen) c.args.lanes.now c.loop-lane.lanes c.loop-lane.lane-index c.loop-lane.invariant.told (omega (arith, c.loop-lane-test.false, c.loop-lane.invariant.told.long))
