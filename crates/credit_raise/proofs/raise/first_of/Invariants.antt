use Rattle.std.proofs.Common.{◌≡◌, ◌≤◌, take}
use Rattle.fx_rules.specs.Lists.{Each}
use Rattle.credit_raise.proofs.raise.first_of.Given as goal

-- none of the bank's orders that were passed arrived before
abbrev pub invariant-loop-order : goal.invariant-loop-order
invariant-loop-order l = Each (λ order. order.bank ≡ l.bank → l.first ≤ order.arrival) (take l.order-index l.orders)
