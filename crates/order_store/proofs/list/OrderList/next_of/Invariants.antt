use Rattle.std.proofs.Common.{ℕ, ◌<◌}
use Rattle.order_store.specs.Linked.{HasFrom}
use Rattle.order_store.specs.Orders.{order_at}
use Rattle.order_store.proofs.list.OrderList.next_of.Given as goal

-- none of the places so far has such an order
abbrev pub invariant-loop-place : goal.invariant-loop-place
invariant-loop-place l = (other : ℕ) → other < l.place → HasFrom (order_at l.self) l.bank l.after other → ⊥
