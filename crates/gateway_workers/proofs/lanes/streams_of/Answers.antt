use Rattle.std.proofs.Common.{arith}
use Rattle.fx_chronicle.proofs.Places.{some-senders}
use Rattle.gateway_workers.proofs.Making.{stream_pushed}
use Rattle.gateway_workers.proofs.lanes.streams_of.Goals as goal

pub place_among-requires : goal.place_among-requires
place_among-requires g c = record { some = omega (arith, c.requires.count, some-senders g.N.Naming.session c.requires.session) }

pub loop-next-preserved : goal.loop-next-preserved
loop-next-preserved g c =
    stream_pushed g.N.Naming.session c.args.count _ _ _ _ _ _ _ c.requires.session c.requires.count c.loop-next.invariant c.loop-next-test.true c.next-item.is c.place_among.ensures.place c.requires.valid c.index_mut-stream.ensures.value
    c.in_ok-push-2.ensures.items
