use Rattle.gateway_workers.proofs.Gathered.{HasHeard}
use Rattle.gateway_workers.proofs.gathering.hear_all.Given as goal

abbrev pub invariant-loop-lane : goal.invariant-loop-lane
invariant-loop-lane g l = HasHeard l.fn.pass l.pass l.fn.lanes l.lanes l.lane-index
