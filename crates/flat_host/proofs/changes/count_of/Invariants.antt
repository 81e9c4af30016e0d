use Rattle.std.proofs.Common.{◌≡◌, ◌-◌, ◌^◌, eqb, min, length, take}
use Rattle.std.specs.List.{filter}
use Rattle.fx_rules.specs.State.{orders_in}
use Rattle.flat_host.proofs.changes.count_of.Given as goal

-- the count of the orders that were passed
abbrev pub invariant-loop-active : goal.invariant-loop-active
invariant-loop-active l =
    l.count ≡ min (length (filter (λ order. eqb order.bank l.bank) (orders_in l.pair (take l.active-index l.orders)))) (2 ^ 32 - 1)
