use Rattle.gateway_workers.proofs.Making.{AreFilledTo, AreLeft}
use Rattle.std.proofs.Common.{length}
use Rattle.gateway_workers.proofs.lanes.fill_lanes.Given as goal

-- the lanes so far have their streams, and the other streams are left
abbrev pub invariant-loop-lane : goal.invariant-loop-lane
invariant-loop-lane g l = record {
  filled : AreFilledTo g.N.Naming.session l.sent l.fn.lanes l.lanes l.lane-index;
  left : AreLeft g.N.Naming.session (length l.fn.lanes) l.lane-index l.sent l.streams.rest.items;
}
