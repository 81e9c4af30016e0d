use Rattle.std.proofs.Common.{ℕ, ◌≡◌, ◌<◌, false, slice_index_or}
use Rattle.fx_rules.specs.declared.orders.Resting.{Resting}
use Rattle.fx_rules.specs.Sweep.{is_order}
use Rattle.credit_raise.proofs.waiting.place_in.Given as goal

-- none of the orders that were passed is the one
abbrev pub invariant-loop-at : goal.invariant-loop-at
invariant-loop-at l = (at : ℕ) (order : Resting) → at < l.at → is_order l.bank l.number (slice_index_or l.orders at order) ≡ false
