use Rattle.std.proofs.Common.{rules, sym, subst}
use Rattle.gateway_workers.specs.Lanes.{LaneRan}
use Rattle.gateway_workers.proofs.Running.{one-more, one-stopped}
use Rattle.gateway_workers.proofs.round.serve_command.Goals as goal
use Rattle.gateway_workers.proofs.round.serve_command.Goals.{in-Ok, in-Err}

-- a command more was carried out, or the lane stopped
pub returns-clause-runs_on : goal.returns-clause-runs_on
returns-clause-runs_on g c =
    let desk = g.D.Desk in
    let lane = c.args.lane.now in
    let pass = c.submit-answer.new.pass in
    λ begun ready ran.
    elim c.match-answer.branch [
      | in-Ok w ↦ subst (LaneRan desk.session desk.bank desk.seen desk.mine begun) (sym w.lane-is)
          (one-more desk.session desk.bank desk.seen desk.mine begun lane pass c.in-Some.command.now w.in-Ok.field-0 (search rules) (search rules) c.submit-answer.ensures.bank w.in-Ok.ensures.submitted ready ran)
      | in-Err w ↦ subst (LaneRan desk.session desk.bank desk.seen desk.mine begun) (sym w.lane-is)
          (one-stopped desk.session desk.bank desk.seen desk.mine begun lane pass w.in-Err.memory w.in-Err.ensures.memory ran)
    ]
