use Rattle.std.proofs.Common.{◌∙◌, refl, arith}
use Rattle.gateway_workers.proofs.Running.{ready-turned, run-none, run-under_way, run-further, run-out}
use Rattle.gateway_workers.proofs.round.serve_all.Goals as goal

pub loop-turn-init : goal.loop-turn-init
loop-turn-init g c =
    let desk = g.D.Desk in
    record {
      long = refl;
      ran = run-none desk.session desk.bank desk.seen desk.mine c.args.lanes.now c.requires;
      turned = λ i d within. ready-turned desk.session desk.bank desk.seen desk.mine _ (c.requires i d within);
    }

pub serve_turn-requires-clause-under_way : goal.serve_turn-requires-clause-under_way
serve_turn-requires-clause-under_way g c κs within =
    run-under_way g.D.Desk.session g.D.Desk.bank g.D.Desk.seen g.D.Desk.mine c.args.lanes.now c.loop-turn.lanes c.loop-turn.invariant.long c.requires c.loop-turn.invariant.ran

pub loop-turn-preserved : goal.loop-turn-preserved
loop-turn-preserved g c = record {
  long = c.serve_turn.auto.lanes ∙ c.loop-turn.invariant.long;
  ran = run-further g.D.Desk.session g.D.Desk.bank g.D.Desk.seen g.D.Desk.mine c.args.lanes.now c.loop-turn.lanes c.serve_turn.new.lanes
      c.loop-turn.invariant.long c.requires c.loop-turn.invariant.ran c.serve_turn.ensures.run_on;
  turned = c.serve_turn.ensures.turned;
}

pub returns-clause-stopped : goal.returns-clause-stopped
returns-clause-stopped g c =
    run-out g.D.Desk.session g.D.Desk.bank g.D.Desk.seen g.D.Desk.mine c.args.lanes.now c.loop-turn.lanes c.loop-turn.turn c.longest-turn-end.result
    c.loop-turn.invariant.long c.loop-turn.invariant.ran c.loop-turn.invariant.turned c.longest-turn-end.ensures (omega (arith, c.loop-turn-test.false))
