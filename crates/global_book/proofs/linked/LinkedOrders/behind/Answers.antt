use Rattle.std.proofs.Common.{ℕ, ◌+◌, Option, Some, subst, sym}
use Rattle.std.specs.Option.{IfSome}
use Rattle.order_store.specs.Linked.{IsFirstFrom, IsInLevel}
use Rattle.order_store.specs.Orders.{order_at}
use Rattle.global_book.specs.inside.Bests.{IsBestOf, is_own_behind, is_own_from}
use Rattle.global_book.specs.inside.Linked.{Linked}
use Rattle.global_book.proofs.Booking.{each-some, if-some, some-if}
use Rattle.global_book.proofs.Preferring.{next-found, next-level}
use Rattle.global_book.proofs.linked.LinkedOrders.behind.Goals as goal

pub returns-in-Some : goal.returns-in-Some
returns-in-Some c =
    subst (λ (l : Linked). IfSome (order_at l.orders c.args.place) (λ order. IsBestOf l.orders.slots (is_own_behind order) order.side (Some c.in-Some.next))) c.self.view_is
    (each-some (order_at c.self.inside.list c.args.place) (λ order. IsBestOf c.self.inside.list.slots (is_own_behind order) order.side (Some c.in-Some.next)) (λ order at.
    next-found c.self.inside.list.slots c.args.place order at c.self.invariant.listed.rising c.in-Some.next
    (subst (λ (f : Option ℕ). IsFirstFrom (IsInLevel (order_at c.self.inside.list) order) (c.args.place + 1) f) c.in-Some.is (if-some _ order _ at c.behind.ensures.behind))))

pub returns-in-None : goal.returns-in-None
returns-in-None c =
    subst (λ (l : Linked). IfSome (order_at l.orders c.args.place) (λ order. IsBestOf l.orders.slots (is_own_behind order) order.side c.first_from.result)) c.self.view_is
    (some-if (order_at c.self.inside.list c.args.place) c.order-order.result (λ order. IsBestOf c.self.inside.list.slots (is_own_behind order) order.side c.first_from.result) c.order-order.ensures.value
    (next-level c.self.inside.list.slots c.args.place c.order-order.result c.order-order.ensures.value c.self.invariant.listed.rising c.first_from.result c.self.invariant.linked.priced
    (subst (λ (f : Option ℕ). IsFirstFrom (IsInLevel (order_at c.self.inside.list) c.order-order.result) (c.args.place + 1) f) c.in-None.is (if-some _ c.order-order.result _ c.order-order.ensures.value c.behind.ensures.behind))
    (subst (λ r. IsBestOf c.self.inside.list.slots (is_own_from c.order-order.result.bank c.order-order.result.side (r + 1)) c.order-order.result.side c.first_from.result) c.rank_of-rank.ensures.rank
    (subst (λ (l : Linked). IsBestOf l.orders.slots (is_own_from c.order-order.result.bank c.order-order.result.side (c.rank_of-rank.result + 1)) c.order-order.result.side c.first_from.result) (sym c.self.view_is) c.first_from.ensures))))
