use Rattle.std.proofs.Common.{sym, ◌∙◌}
use Rattle.gateway_workers.proofs.Running.{run-zip, run-done, first-behind}
use Rattle.gateway_workers.proofs.round.run_round.Goals as goal

pub returns-in-None-clause-ran : goal.returns-in-None-clause-ran
returns-in-None-clause-ran g c =
    run-zip g.D.Desk.session g.D.Desk.bank g.D.Desk.seen g.D.Desk.mine c.args.lanes.now c.serve_in_threads.new.lanes c.serve_in_threads.auto.lanes c.serve_in_threads.ensures.ran

pub returns-in-Some-clause-ran : goal.returns-in-Some-clause-ran
returns-in-Some-clause-ran g c =
    run-zip g.D.Desk.session g.D.Desk.bank g.D.Desk.seen g.D.Desk.mine c.args.lanes.now c.serve_in_threads.new.lanes c.serve_in_threads.auto.lanes c.serve_in_threads.ensures.ran

pub returns-in-None-clause-done : goal.returns-in-None-clause-done
returns-in-None-clause-done g c =
    run-done g.D.Desk.session g.D.Desk.bank g.D.Desk.seen g.D.Desk.mine c.args.lanes.now c.serve_in_threads.new.lanes c.serve_in_threads.auto.lanes c.serve_in_threads.ensures.ran
    c.serve_in_threads.ensures.stopped (sym c.first_stop.ensures.value ∙ c.in-None.is)

pub returns-in-Some-clause-behind : goal.returns-in-Some-clause-behind
returns-in-Some-clause-behind g c = first-behind c.serve_in_threads.new.lanes c.in-Some.memory c.serve_in_threads.ensures.stopped (sym c.first_stop.ensures.value ∙ c.in-Some.is)
