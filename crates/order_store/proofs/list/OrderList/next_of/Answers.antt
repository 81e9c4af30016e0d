use Rattle.std.proofs.Common.{ap, ◌∙◌, arith}
use Rattle.order_store.specs.Orders.{Orders, order_at}
use Rattle.order_store.proofs.Listing.{in_node-within}
use Rattle.order_store.proofs.list.OrderList.next_of.Goals as goal

pub returns-then-is_from : goal.returns-then-is_from
returns-then-is_from c = record { from_on = omega arith; is = c.is_from.ensures.0 c.if-is_from.true; first = λ other from below. c.loop-place.invariant other below }

pub returns : goal.returns
returns c = λ other from has.
    let within = in_node-within c.self.inside.nodes.nodes other has.order (ap (λ (o : Orders). order_at o other) c.self.view_is ∙ has.is) in
    c.loop-place.invariant other (omega (arith, within, c.len-place-end.ensures.count, c.loop-place-test.false)) has
