use Rattle.std.proofs.Common.{◌≤◌, length}
use Rattle.std.specs.List.{AllWithin}
use Rattle.gateway_workers.proofs.round.longest.Given as goal

-- no stream so far is longer
abbrev pub invariant-loop-lane : goal.invariant-loop-lane
invariant-loop-lane g l = AllWithin (λ lane. length lane.stream ≤ l.most) l.lanes 0 l.lane-index
