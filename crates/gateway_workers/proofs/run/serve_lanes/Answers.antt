use Rattle.gateway_workers.proofs.Closing.{ready-lanes, some-lanes, served-on, served-part, none-part, ok_then, err_always}
use Rattle.gateway_workers.proofs.Gathered.{gathered-ran, gathered-same}
use Rattle.gateway_workers.proofs.run.serve_lanes.Goals as goal

pub run_round-requires-clause-ready : goal.run_round-requires-clause-ready
run_round-requires-clause-ready g c κs within =
    ready-lanes g.N.Naming.session c.args.sent.now c.args.lanes.now c.fill_lanes.new.lanes c.requires.can_serve c.in_ok-fill_lanes.ensures.filled

pub run_round-requires-clause-lanes : goal.run_round-requires-clause-lanes
run_round-requires-clause-lanes g c κs within =
    some-lanes g.N.Naming.session c.args.sent.now c.args.lanes.now c.fill_lanes.new.lanes c.requires.can_serve c.in_ok-fill_lanes.ensures.filled

-- where memory was wanting for the streams, the lanes are as they were
pub returns-in_err-fill_lanes-clause-memory : goal.returns-in_err-fill_lanes-clause-memory
returns-in_err-fill_lanes-clause-memory g c =
    err_always c.from_residual.result
    (λ so_far served. none-part g.N.Naming.session so_far c.args.sent.now c.args.lanes.now c.fill_lanes.new.lanes served c.in_err-fill_lanes.ensures.memory)

pub returns-in_err-fill_lanes-clause-gathered : goal.returns-in_err-fill_lanes-clause-gathered
returns-in_err-fill_lanes-clause-gathered g c = λ so_far count gathered. gathered-same so_far count c.args.lanes.now c.fill_lanes.new.lanes gathered c.in_err-fill_lanes.ensures.memory

pub returns : goal.returns
returns g c = record {
  served = ok_then c.run_round.result
      (λ done so_far served. served-on g.N.Naming.session so_far c.args.sent.now c.args.lanes.now c.fill_lanes.new.lanes c.run_round.new.lanes served c.requires.can_serve.valid c.in_ok-fill_lanes.ensures.filled c.run_round.ensures.ran done)
      c.run_round.ensures.done;
  memory = err_always c.run_round.result
      (λ so_far served. served-part g.N.Naming.session so_far c.args.sent.now c.args.lanes.now c.fill_lanes.new.lanes c.run_round.new.lanes served c.in_ok-fill_lanes.ensures.filled c.run_round.ensures.ran);
  gathered = λ so_far count gathered.
      gathered-ran g.N.Naming.session c.requires.can_serve.sent c.args.sent.now so_far count c.args.lanes.now c.fill_lanes.new.lanes c.run_round.new.lanes c.requires.can_serve.served gathered c.in_ok-fill_lanes.ensures.filled c.run_round.ensures.ran;
}
