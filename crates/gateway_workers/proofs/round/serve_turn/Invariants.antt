use Rattle.gateway_workers.proofs.Running.{HaveTurned}
use Rattle.gateway_workers.proofs.round.serve_turn.Given as goal

-- the lanes so far have run on, and the others are as they were
abbrev pub invariant-loop-lane : goal.invariant-loop-lane
invariant-loop-lane g l = HaveTurned g.D.Desk.session g.D.Desk.bank g.D.Desk.seen g.D.Desk.mine l.turn l.fn.lanes l.lanes l.lane-index
