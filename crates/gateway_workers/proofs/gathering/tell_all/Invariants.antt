use Rattle.std.proofs.Common.{◌≡◌}
use Rattle.gateway_workers.specs.inside.Gathering.{IsTold}
use Rattle.gateway_workers.proofs.Gathered.{AreEachTo}
use Rattle.gateway_workers.proofs.gathering.tell_all.Given as goal

-- the lanes so far are told, and the others are as they were
abbrev pub invariant-loop-lane : goal.invariant-loop-lane
invariant-loop-lane g l = record {
  same : l.pass ≡ l.fn.pass;
  told : AreEachTo (IsTold l.fn.pass.seen) l.fn.lanes l.lanes l.lane-index;
}
