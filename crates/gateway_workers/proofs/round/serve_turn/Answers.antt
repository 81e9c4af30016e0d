use Rattle.std.proofs.Common.{arith}
use Rattle.gateway_workers.specs.inside.Serving.{IsUnderWay, HasTurned}
use Rattle.gateway_workers.proofs.Running.{next-kept, turned-next}
use Rattle.gateway_workers.proofs.round.serve_turn.Goals as goal

pub serve_command-requires-clause-under_way : goal.serve_command-requires-clause-under_way
serve_command-requires-clause-under_way g c κs within =
    let desk = g.D.Desk in
    next-kept desk.session desk.bank desk.seen desk.mine (IsUnderWay desk.session desk.bank desk.seen desk.mine) c.args.turn c.args.lanes.now c.loop-lane.lanes c.loop-lane.lane-index c.lane-item.result
    c.loop-lane.invariant c.loop-lane-test.true c.requires.under_way

pub serve_command-requires-clause-turned : goal.serve_command-requires-clause-turned
serve_command-requires-clause-turned g c κs within =
    let desk = g.D.Desk in
    next-kept desk.session desk.bank desk.seen desk.mine (HasTurned c.args.turn) c.args.turn c.args.lanes.now c.loop-lane.lanes c.loop-lane.lane-index c.lane-item.result
    c.loop-lane.invariant c.loop-lane-test.true c.requires.turned

pub loop-lane-preserved : goal.loop-lane-preserved
loop-lane-preserved g c =
    let desk = g.D.Desk in
    turned-next desk.session desk.bank desk.seen desk.mine c.args.turn c.args.lanes.now c.loop-lane.lanes c.loop-lane.lane-index c.lane-item.result c.serve_command.new.lane
    c.loop-lane.invariant c.loop-lane-test.true c.serve_command.ensures.runs_on c.serve_command.ensures.turned

pub returns-clause-run_on : goal.returns-clause-run_on
returns-clause-run_on g c i d within = c.loop-lane.invariant.so_far i d (omega (arith, c.loop-lane-test.false, within))
