use Rattle.std.proofs.Common.{◌≡◌, ◌≤◌, filter, take}
use Rattle.fx_rules.specs.Lists.{Each}
use Rattle.credit_raise.specs.inside.Playing.{is_early, is_late}
use Rattle.credit_raise.proofs.raise.part.Given as goal

-- the orders that were passed are parted, and each has lots left
abbrev pub invariant-loop-order : goal.invariant-loop-order
invariant-loop-order l = record {
  early : l.early.items ≡ filter (is_early l.from) (take l.order-index l.orders);
  late : l.late.items ≡ filter (is_late l.from) (take l.order-index l.orders);
  lots : Each (λ order. 1 ≤ order.left) (take l.order-index l.orders);
}
