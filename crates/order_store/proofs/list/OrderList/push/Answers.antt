use Rattle.std.proofs.Common.{◌∷◌, ◌++◌, [], Some, refl, ap, ◌∙◌, arith}
use Rattle.order_store.specs.inside.Chains.{slots_of}
use Rattle.order_store.specs.Orders.{Orders}
use Rattle.order_store.proofs.Keeping.{kept-listed, kept-pushed, pushed_is}
use Rattle.order_store.proofs.Listing.{pushed-slots}
use Rattle.order_store.proofs.Rooms.{has_places, takes_room, written-at, written_most}
use Rattle.order_store.proofs.list.OrderList.push.Goals as goal

pub push-requires-clause-room : goal.push-requires-clause-room
push-requires-clause-room c = (has_places c.self.inside.nodes.room c.self.inside.rows.items c.args.self.now c.args.order.bank (ap (λ (o : Orders). o.room) c.self.view_is) c.requires.room).in_places

pub invariant_of-self : goal.invariant_of-self
invariant_of-self c =
    let places = has_places c.self.inside.nodes.room c.self.inside.rows.items c.args.self.now c.args.order.bank (ap (λ (o : Orders). o.room) c.self.view_is) c.requires.room in
    kept-pushed c.self.inside.nodes.nodes c.set_behind.new.self.nodes c.self.inside.count c.self.inside.rows.items _ _ c.args.self.now c.args.order c.args.before c.len-place.result c.index_mut-row.result.now c.add.new.self
    c.self.view_is c.self.invariant
    (pushed_is c.self.inside.nodes.nodes c.push.new.self.nodes c.set_behind.new.self.nodes c.args.order c.args.before c.len-place.result c.push.ensures.nodes c.set_behind.ensures.nodes c.len-place.ensures.count)
    c.len-place.ensures.count c.push.ensures.few c.requires.absent c.requires.later c.requires.before
    (written-at c.self.inside.rows.items c.index.result c.args.order.bank c.index_mut-row.result.now c.add.new.self c.index.ensures.value (omega (arith, places.within, c.index.ensures.value)) c.index_mut-row.ensures.value)
    c.add.ensures.entries (omega (arith, c.index.ensures.value, c.index.ensures.most)) (omega arith)
    (omega (arith, c.count.ensures.least, c.count.ensures.value), omega (arith, c.count.ensures.most, c.count.ensures.value))

pub returns-clause-slots : goal.returns-clause-slots
returns-clause-slots c =
    ap slots_of (pushed_is c.self.inside.nodes.nodes c.push.new.self.nodes c.set_behind.new.self.nodes c.args.order c.args.before c.len-place.result c.push.ensures.nodes c.set_behind.ensures.nodes c.len-place.ensures.count)
    ∙ pushed-slots c.self.inside.nodes.nodes c.args.order c.args.before ∙ ap (λ (o : Orders). o.slots ++ Some c.args.order ∷ []) c.self.view_is

pub returns-clause-room : goal.returns-clause-room
returns-clause-room c =
    let places = has_places c.self.inside.nodes.room c.self.inside.rows.items c.args.self.now c.args.order.bank (ap (λ (o : Orders). o.room) c.self.view_is) c.requires.room in
    let written = written-at c.self.inside.rows.items c.index.result c.args.order.bank c.index_mut-row.result.now c.add.new.self c.index.ensures.value (omega (arith, places.within, c.index.ensures.value)) c.index_mut-row.ensures.value in
    takes_room c.self.inside.nodes.room c.set_behind.new.self.room c.self.inside.rows.items _ c.args.self.now _ (ap (λ (o : Orders). o.room) c.self.view_is) refl
    written.count (omega (arith, c.push.ensures.room, c.set_behind.ensures.room))
    (written_most 1 c.self.inside.rows.items _ c.args.order.bank c.index_mut-row.result.now c.add.new.self written c.add.ensures.room)

pub returns-clause-valid : goal.returns-clause-valid
returns-clause-valid c = kept-listed c.set_behind.new.self.nodes _ _ _ _ refl (invariant_of-self c)
