use Rattle.pair_host.proofs.Recording.{next-recorded, recorded-next}
use Rattle.pair_host.proofs.recorded.replay.Goals as goal

pub follow-requires : goal.follow-requires
follow-requires c = record {
  is_next = next-recorded c.args.session.now c.args.entries.now c.loop-entry.entry-index c.entry-item.result c.loop-entry.host c.requires.legal c.loop-entry-test.true c.entry-item.is
      c.loop-entry.invariant;
}

pub loop-entry-preserved : goal.loop-entry-preserved
loop-entry-preserved c =
    recorded-next c.args.session.now c.args.entries.now c.loop-entry.entry-index c.entry-item.result c.loop-entry.host c.follow.new.self c.requires.legal c.loop-entry-test.true c.entry-item.is
    c.loop-entry.invariant c.in_ok-follow.ensures.follows
