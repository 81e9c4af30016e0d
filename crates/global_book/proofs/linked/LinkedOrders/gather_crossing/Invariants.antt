use Rattle.std.proofs.Common.{ℕ, ◌≡◌, ◌+◌, ◌++◌, All, IsSome, List, drop, length}
use Rattle.fx_rules.specs.declared.orders.Resting.{Resting}
use Rattle.order_store.specs.Orders.{order_at}
use Rattle.global_book.specs.inside.Crossing.{TakesLevels, levels_from}
use Rattle.global_book.proofs.linked.LinkedOrders.gather_crossing.Given as goal

-- what was put behind the orders that there were is taken, and an order stands at each place of the queue
abbrev pub invariant-loop-at : goal.invariant-loop-at
invariant-loop-at g l = record {
  takes : (taken : List Resting) × (l.orders.items ≡ l.fn.orders.items ++ taken) × TakesLevels l.self.orders.slots l.fn.bank l.fn.side l.fn.top taken (drop l.at l.places.items);
  live : All (λ (place : ℕ). IsSome (order_at l.self.orders place)) l.places.items;
  steps : l.steps + length l.fn.orders.items ≡ l.fn.steps + 1 + length l.orders.items;
}

abbrev pub decreases-loop-at : goal.decreases-loop-at
decreases-loop-at g l = length (levels_from l.self.orders.slots (drop l.at l.places.items))
