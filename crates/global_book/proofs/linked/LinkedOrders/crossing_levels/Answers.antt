use Rattle.std.proofs.Common.{ℕ, ◌+◌, All, IsSome, List, subst, sym, arith}
use Rattle.std.proofs.lemmas.List.Elements.{All-nil}
use Rattle.order_store.specs.Orders.{order_at}
use Rattle.global_book.specs.inside.Crossing.{FindsLevels}
use Rattle.global_book.proofs.Crossing.{find-begun, find-dear, find-ended, find-live, find-more}
use Rattle.global_book.proofs.linked.LinkedOrders.crossing_levels.Goals as goal

pub loop-head-init : goal.loop-head-init
loop-head-init c = record {
  finds = subst (λ (places : List ℕ). FindsLevels c.args.self.now.orders.slots c.args.bank c.args.side c.args.top places 0) (sym c.new-places.ensures.items)
      (find-begun c.args.self.now.orders.slots c.args.bank c.args.side c.args.top);
  live = subst (All (λ (place : ℕ). IsSome (order_at c.args.self.now.orders place))) (sym c.new-places.ensures.items) (All-nil (λ (place : ℕ). IsSome (order_at c.args.self.now.orders place)));
}

pub returns-then-head-limit-clause-levels : goal.returns-then-head-limit-clause-levels
returns-then-head-limit-clause-levels c =
    find-dear c.args.self.now.orders.slots c.args.bank c.args.side c.args.top c.rank_of-limit.ensures.price c.in-Some.ensures.linked.priced c.loop-head.from c.in-Some.head.place c.in-Some.ensures.best
    c.loop-head.places.items c.in-Some.head.rank c.in-Some.ensures.rank c.loop-head.invariant.finds (omega (arith, c.if-head-limit.true, c.rank_of-limit.ensures.rank))

pub loop-head-preserved : goal.loop-head-preserved
loop-head-preserved c = record {
  finds = subst (λ (places : List ℕ). FindsLevels c.args.self.now.orders.slots c.args.bank c.args.side c.args.top places (c.in-Some.head.rank + 1)) (sym c.in_ok-push.ensures.items)
      (find-more c.args.self.now.orders.slots c.args.bank c.args.side c.args.top c.rank_of-limit.ensures.price c.in-Some.ensures.linked.priced c.loop-head.from c.in-Some.head.place c.in-Some.ensures.best
      c.loop-head.places.items c.in-Some.head.rank c.in-Some.ensures.rank c.loop-head.invariant.finds (omega (arith, c.if-head-limit.false, c.rank_of-limit.ensures.rank)));
  live = subst (All (λ (place : ℕ). IsSome (order_at c.args.self.now.orders place))) (sym c.in_ok-push.ensures.items)
      (find-live c.args.self.now.orders.slots c.args.bank c.args.side c.args.top c.rank_of-limit.ensures.price c.in-Some.ensures.linked.priced c.loop-head.from c.in-Some.head.place c.in-Some.ensures.best
      c.loop-head.places.items c.in-Some.head.rank c.in-Some.ensures.rank c.loop-head.invariant.live);
}

pub returns-clause-levels : goal.returns-clause-levels
returns-clause-levels c =
    find-ended c.args.self.now.orders.slots c.args.bank c.args.side c.args.top c.loop-head.places.items c.loop-head.from c.loop-head.invariant.finds c.in_default.ensures.best
