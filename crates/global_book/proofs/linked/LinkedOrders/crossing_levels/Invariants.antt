use Rattle.std.proofs.Common.{ℕ, ◌+◌, ◌-◌, All, IsSome}
use Rattle.order_store.specs.Orders.{order_at}
use Rattle.global_book.specs.inside.Crossing.{FindsLevels}
use Rattle.global_book.proofs.linked.LinkedOrders.crossing_levels.Given as goal

-- the places of the levels before a rank are found, and an order stands at each
abbrev pub invariant-loop-head : goal.invariant-loop-head
invariant-loop-head l = record {
  finds : FindsLevels l.self.orders.slots l.bank l.side l.fn.top l.places.items l.from;
  live : All (λ (place : ℕ). IsSome (order_at l.self.orders place)) l.places.items;
}

abbrev pub decreases-loop-head : goal.decreases-loop-head
decreases-loop-head l = l.limit + 1 - l.from
