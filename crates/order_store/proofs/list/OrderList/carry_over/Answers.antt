use Rattle.std.proofs.Common.{length, sym}
use Rattle.order_store.proofs.Keeping.{kept-listed}
use Rattle.order_store.proofs.Packing.{bank-within, carried-last, order-seen, packed-lacks, packed-later, packed-none, packed-pushed, packed-reserved}
use Rattle.order_store.proofs.list.OrderList.carry_over.Goals as goal

pub returns-in-None : goal.returns-in-None
returns-in-None c = record {
  packed = packed-none c.self.inside.nodes.nodes _ c.args.self.now c.args.list.now c.args.place (length c.args.self.now.room) c.args.places.now c.self.view_is
      (kept-listed c.self.inside.nodes.nodes c.self.inside.count c.self.inside.rows.items _ c.args.self.now c.self.view_is c.self.invariant)
      c.requires.packed c.requires.within c.in-None.ensures.order;
}

pub reserve-requires : goal.reserve-requires
reserve-requires c = record {
  bank = bank-within c.self.inside.nodes.nodes c.self.inside.count c.self.inside.nodes.room c.self.inside.rows.items c.args.self.now c.args.list.now c.args.place c.in-Some.order c.self.view_is c.self.invariant
      (sym c.in-Some.ensures.order) c.requires.packed.banks_are;
}

pub push-requires-clause-absent : goal.push-requires-clause-absent
push-requires-clause-absent c =
    packed-lacks c.args.self.now c.reserve.new.self c.reserve.new.self c.args.place (length c.args.self.now.room) c.args.places.now
    (kept-listed c.self.inside.nodes.nodes c.self.inside.count c.self.inside.rows.items _ c.args.self.now c.self.view_is c.self.invariant)
    (packed-reserved c.args.self.now.slots c.args.place c.args.places.now c.args.list.now c.reserve.new.self (length c.args.self.now.room) c.requires.packed c.reserve.ensures.slots c.reserve.ensures.room.banks) c.in-Some.order
    (order-seen c.self.inside.nodes.nodes _ c.args.self.now c.args.place c.in-Some.order c.self.view_is c.in-Some.ensures.order)

pub push-requires-clause-later : goal.push-requires-clause-later
push-requires-clause-later c =
    packed-later c.args.self.now c.reserve.new.self c.reserve.new.self c.args.place (length c.args.self.now.room) c.args.places.now
    (kept-listed c.self.inside.nodes.nodes c.self.inside.count c.self.inside.rows.items _ c.args.self.now c.self.view_is c.self.invariant)
    (packed-reserved c.args.self.now.slots c.args.place c.args.places.now c.args.list.now c.reserve.new.self (length c.args.self.now.room) c.requires.packed c.reserve.ensures.slots c.reserve.ensures.room.banks) c.in-Some.order
    (order-seen c.self.inside.nodes.nodes _ c.args.self.now c.args.place c.in-Some.order c.self.view_is c.in-Some.ensures.order)

pub push-requires-clause-before : goal.push-requires-clause-before
push-requires-clause-before c =
    carried-last c.args.self.now c.reserve.new.self c.args.place (length c.args.self.now.room) c.args.places.now c.in-Some.order _ c.moved-before.result
    (kept-listed c.self.inside.nodes.nodes c.self.inside.count c.self.inside.rows.items _ c.args.self.now c.self.view_is c.self.invariant)
    (packed-reserved c.args.self.now.slots c.args.place c.args.places.now c.args.list.now c.reserve.new.self (length c.args.self.now.room) c.requires.packed c.reserve.ensures.slots c.reserve.ensures.room.banks)
    (order-seen c.self.inside.nodes.nodes _ c.args.self.now c.args.place c.in-Some.order c.self.view_is c.in-Some.ensures.order) c.before-in-Some.ensures.before c.moved-before.ensures

pub returns-in_ok-reserve-in-Some : goal.returns-in_ok-reserve-in-Some
returns-in_ok-reserve-in-Some c = record {
  packed = packed-pushed c.args.self.now c.reserve.new.self c.push.new.self c.args.place (length c.args.self.now.room) c.args.places.now
      (kept-listed c.self.inside.nodes.nodes c.self.inside.count c.self.inside.rows.items _ c.args.self.now c.self.view_is c.self.invariant)
      (packed-reserved c.args.self.now.slots c.args.place c.args.places.now c.args.list.now c.reserve.new.self (length c.args.self.now.room) c.requires.packed c.reserve.ensures.slots c.reserve.ensures.room.banks) c.in-Some.order
      (order-seen c.self.inside.nodes.nodes _ c.args.self.now c.args.place c.in-Some.order c.self.view_is c.in-Some.ensures.order) c.push.result c.push.ensures.place c.push.ensures.slots c.push.ensures.room.banks;
}
