use Rattle.std.proofs.Common.{[], arith}
use Rattle.gateway_workers.proofs.Gathered.{some-lane}
use Rattle.gateway_workers.proofs.run.ThreadedRun.open.Goals as goal

pub invariant_of-result : goal.invariant_of-result
invariant_of-result g c = record { some = omega (arith, some-lane g.N.Naming.session [] c.in_ok-lanes.lanes.items c.in_ok-lanes.ensures.lanes, c.in_ok-lanes.lanes.ok.0) }
