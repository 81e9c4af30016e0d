-- An order has fewer lots left.
use Rattle.std.proofs.Common.{ℕ, ◌≡◌, ◌-◌, ◌<◌, Option, Some, ap, subst, sym, ◌∙◌, arith}
use Rattle.std.specs.Option.{IfSome, IsSomeAnd}
use Rattle.order_store.specs.Orders.{order_at}
use Rattle.price_levels.specs.declared.level.Level.{Level}
use Rattle.access_index.specs.Ranked.{bank_level, with_bank_level}
use Rattle.global_book.specs.Room.{ladders_of}
use Rattle.global_book.specs.inside.Ends.{orders_of}
use Rattle.global_book.specs.inside.Linked.{AreLinked, Linked}
use Rattle.global_book.specs.inside.Owning.{AreOwnersOf}
use Rattle.global_book.proofs.Booking.{and-some, if-some}
use Rattle.global_book.proofs.Linking.{has-left, linked-lowered}
use Rattle.global_book.proofs.Owned.{owners-lowered}
use Rattle.global_book.proofs.linked.LinkedOrders.lower.Goals as goal

-- a value that is there
value-is : (found : Option ℕ) (value other : ℕ) → found ≡ Some value → IfSome found (λ v. v ≡ other) → value ≡ other
value-is found value other is tells = subst (λ (f : Option ℕ). IfSome f (λ v. v ≡ other)) is tells

pub lower-requires-clause-above : goal.lower-requires-clause-above
lower-requires-clause-above c =
    let less : c.args.left < c.order-order.result.left =
    and-some (order_at c.self.inside.list c.args.place) c.order-order.result (λ order. c.args.left < order.left) c.order-order.ensures.value
    (subst (λ (l : Linked). IsSomeAnd (order_at l.orders c.args.place) (λ order. c.args.left < order.left)) (sym c.self.view_is) c.requires.less) in
    let gone = value-is c.new.result c.unwrap-gone.result _ c.unwrap-gone.ensures c.new.ensures.value in
    let has = has-left c.self.inside.list.slots c.self.inside.ladders c.args.place c.order-order.result c.order-order.ensures.value c.self.invariant.linked in
    subst (λ r. c.unwrap-gone.result < (bank_level (ladders_of c.self.inside.ladders c.order-order.result.side) c.order-order.result.bank r).lots) (sym c.rank_of-rank.ensures.rank)
    (omega (arith, less, gone, has, c.count.ensures.value, c.count-2.ensures.value, c.count-2.ensures.least))

pub invariant_of-self : goal.invariant_of-self
invariant_of-self c =
    let less : c.args.left < c.order-order.result.left =
    and-some (order_at c.self.inside.list c.args.place) c.order-order.result (λ order. c.args.left < order.left) c.order-order.ensures.value
    (subst (λ (l : Linked). IsSomeAnd (order_at l.orders c.args.place) (λ order. c.args.left < order.left)) (sym c.self.view_is) c.requires.less) in
    let gone = value-is c.new.result c.unwrap-gone.result _ c.unwrap-gone.ensures c.new.ensures.value in
    let old : ℕ → ℕ → Level = bank_level (ladders_of c.self.inside.ladders c.order-order.result.side) in
    record {
      listed = c.lower-2.ensures.valid;
      linked = subst (λ ss. AreLinked ss c.lower.new.self) (sym (if-some _ c.order-order.result _ c.order-order.ensures.value c.lower-2.ensures.slots))
          (linked-lowered c.self.inside.list.slots c.self.inside.ladders c.args.place c.order-order.result c.order-order.ensures.value c.self.invariant.linked c.lower.new.self c.args.left c.unwrap-gone.result
          (omega (arith, c.count-2.ensures.value, c.count-2.ensures.least)) (omega (arith, less)) (omega (arith, gone, c.count.ensures.value, c.count-2.ensures.value))
          (λ other at. c.lower.ensures.levels other at
          ∙ ap (λ r. with_bank_level old c.order-order.result.bank r (record (old c.order-order.result.bank r) { lots = (old c.order-order.result.bank r).lots - c.unwrap-gone.result }) other at)
          c.rank_of-rank.ensures.rank)
          c.lower.ensures.other_side);
      owned = subst (λ ss. AreOwnersOf (orders_of ss) c.self.inside.owners) (sym (if-some _ c.order-order.result _ c.order-order.ensures.value c.lower-2.ensures.slots))
          (owners-lowered c.self.inside.list.slots c.args.place c.order-order.result c.order-order.ensures.value c.self.inside.owners c.args.left c.self.invariant.owned);
    }
