use Rattle.std.proofs.Common.{[], take}
use Rattle.gateway_workers.specs.inside.SenderLanes.{AreStreams}
use Rattle.gateway_workers.proofs.lanes.streams_of.Given as goal

-- so many senders have a stream, with nothing in it yet
abbrev pub invariant-loop-sender : goal.invariant-loop-sender
invariant-loop-sender g l = AreStreams g.N.Naming.session l._sender [] l.streams.items

-- each stream has what was sent so far
abbrev pub invariant-loop-next : goal.invariant-loop-next
invariant-loop-next g l = AreStreams g.N.Naming.session l.count (take l.next-index l.sent) l.streams.items
