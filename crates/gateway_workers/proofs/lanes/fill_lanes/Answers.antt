use Rattle.std.proofs.Common.{rules, ◌≡◌, ◌∷◌, ◌∙◌, ap, subst, arith, length, get_or}
use Rattle.gateway_workers.specs.inside.SenderLanes.{next_lane}
use Rattle.gateway_workers.proofs.Making.{AreLeft, one_filled, first_left, all_filled}
use Rattle.gateway_workers.proofs.Closing.{next-numbers}
use Rattle.gateway_workers.proofs.lanes.fill_lanes.Goals as goal

pub streams_of-requires : goal.streams_of-requires
streams_of-requires g c =
    let can = c.requires.can_serve in
    record { session = can.served.session; count = search (rules, can.served.all); valid = can.valid }

pub next_round-requires : goal.next_round-requires
next_round-requires g c = record {
  numbers = next-numbers g.N.Naming.session c.args.sent.now c.args.lanes.now c.loop-lane.lanes c.loop-lane.lane-index c.lane-item.result c.requires.can_serve c.loop-lane.invariant.filled (search rules);
}

pub loop-lane-preserved : goal.loop-lane-preserved
loop-lane-preserved g c =
    let split : c.loop-lane.streams.rest.items ≡ c.unwrap-stream.result ∷ c.next.new.self.rest.items = search rules in
    let left = first_left g.N.Naming.session (length c.args.lanes.now) c.loop-lane.lane-index c.args.sent.now c.unwrap-stream.result c.next.new.self.rest.items
    (subst (λ streams. AreLeft g.N.Naming.session (length c.args.lanes.now) c.loop-lane.lane-index c.args.sent.now streams) split c.loop-lane.invariant.left) in
    record {
      filled = one_filled g.N.Naming.session c.args.sent.now c.args.lanes.now c.loop-lane.lanes c.loop-lane.lane-index c.lane-item.result c.next_round.new.self c.loop-lane.invariant.filled (search rules)
          (c.next_round.ensures.next ∙ ap (next_lane (get_or c.loop-lane.lanes c.loop-lane.lane-index c.lane-item.result)) (c.from_vec.ensures.items ∙ left.0));
      left = left.1;
    }

pub returns-clause-filled : goal.returns-clause-filled
returns-clause-filled g c = all_filled g.N.Naming.session c.args.sent.now c.args.lanes.now c.loop-lane.lanes c.loop-lane.lane-index c.loop-lane.invariant.filled (omega (arith, c.loop-lane-test.false))
