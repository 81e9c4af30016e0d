use Rattle.std.proofs.Common.{ℕ, ◌≡◌, ◌<◌, false, slice_index_or}
use Rattle.fx_rules.specs.declared.orders.ActiveOrder.{ActiveOrder}
use Rattle.fx_rules.specs.Sweep.{is_order}
use Rattle.flat_host.proofs.credit.place_of.Given as goal

-- none of the orders that were passed is the one
abbrev pub invariant-loop-at : goal.invariant-loop-at
invariant-loop-at l = (k : ℕ) (a : ActiveOrder) → k < l.at → is_order l.bank l.number (slice_index_or l.orders k a).order ≡ false
