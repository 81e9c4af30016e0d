use Rattle.std.proofs.Common.{length}
use Rattle.order_store.specs.inside.Packed.{IsPacked}
use Rattle.order_store.proofs.list.OrderList.packed.Given as goal

-- the orders before the place have gone to the new list
abbrev pub invariant-loop-place : goal.invariant-loop-place
invariant-loop-place l = IsPacked l.self.slots l.place l.places.items l.list (length l.self.room)
