use Rattle.std.proofs.Common.{◌≡◌, drop}
use Rattle.gateway_workers.specs.Lanes.{first_stop}
use Rattle.gateway_workers.proofs.round.first_stop.Given as goal

-- none of the lanes so far stopped
abbrev pub invariant-loop-lane : goal.invariant-loop-lane
invariant-loop-lane g l = first_stop l.lanes ≡ first_stop (drop l.lane-index l.lanes)
