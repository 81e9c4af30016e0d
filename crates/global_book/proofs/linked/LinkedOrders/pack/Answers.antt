-- The orders move together.
use Rattle.std.proofs.Common.{ℕ, ◌<◌, List, Option, None, IsSome, get_or, length, subst, sym}
use Rattle.fx_rules.specs.Lists.{Among}
use Rattle.fx_rules.specs.declared.orders.Resting.{Resting}
use Rattle.global_book.specs.inside.Ends.{orders_of}
use Rattle.global_book.specs.inside.Owning.{AreOwnersOf}
use Rattle.global_book.proofs.Listing.{among-at, at-among}
use Rattle.global_book.proofs.Packing.{none-empty, orders-packed}
use Rattle.global_book.proofs.linked.LinkedOrders.pack.Goals as goal

pub ladders_for-requires-clause-full : goal.ladders_for-requires-clause-full
ladders_for-requires-clause-full c =
    subst (λ (ss : List (Option Resting)). (place : ℕ) → place < length ss → IsSome (get_or ss place None)) (sym c.in_ok-list.ensures.slots) (none-empty c.self.inside.list.slots)

pub ladders_for-requires-clause-priced : goal.ladders_for-requires-clause-priced
ladders_for-requires-clause-priced c = λ place order at.
    let there : Among order (orders_of c.self.inside.list.slots) =
    subst (Among order) (orders-packed c.self.inside.list.slots) (subst (λ ss. Among order (orders_of ss)) c.in_ok-list.ensures.slots (among-at c.in_ok-list.list.slots place order at)) in
    let was = at-among c.self.inside.list.slots order there in
    c.self.invariant.linked.priced was.0 order was.1

pub invariant_of-self : goal.invariant_of-self
invariant_of-self c = record {
  listed = c.ladders_for.ensures.valid;
  linked = c.in_ok-self-inside.ensures.linked;
  owned = subst (λ ss. AreOwnersOf (orders_of ss) c.self.inside.owners) (sym c.in_ok-list.ensures.slots)
      (subst (λ os. AreOwnersOf os c.self.inside.owners) (sym (orders-packed c.self.inside.list.slots)) c.self.invariant.owned);
}
