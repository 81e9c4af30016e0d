use Rattle.std.proofs.Common.{take}
use Rattle.gateway_workers.specs.inside.Gathering.{AreResubmitted}
use Rattle.gateway_workers.proofs.replaying.submit_again.Given as goal

-- the entries so far are submitted
abbrev pub invariant-loop-entry : goal.invariant-loop-entry
invariant-loop-entry g l = AreResubmitted g.N.Naming.session (take l.entry-index l.entries) l.note l.lanes
