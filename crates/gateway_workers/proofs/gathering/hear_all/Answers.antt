use Rattle.gateway_workers.proofs.Gathered.{heard-none, heard-next, heard-all}
use Rattle.gateway_workers.proofs.gathering.hear_all.Goals as goal

pub loop-lane-init : goal.loop-lane-init
loop-lane-init g c = heard-none c.args.pass.now c.args.lanes.now

pub loop-lane-preserved : goal.loop-lane-preserved
loop-lane-preserved g c =
    heard-next c.args.pass.now c.loop-lane.pass c.learn.new.self c.note.new.self c.note.result _ c.args.lanes.now c.loop-lane.lanes c.loop-lane.lane-index c.lane-item.result
    c.loop-lane.invariant c.loop-lane-test.true c.note.ensures.same c.note.ensures.note c.learn.ensures.pass c.learn.ensures.own c.learn.ensures.told

pub returns : goal.returns
returns g c =
    let heard = c.loop-lane.invariant in
    record {
      pass = heard.pass_is;
      begins = heard.begins;
      told = heard-all c.args.pass.now c.loop-lane.pass c.args.lanes.now c.loop-lane.lanes c.loop-lane.lane-index heard c.loop-lane-test.false;
      same = heard.same;
    }
