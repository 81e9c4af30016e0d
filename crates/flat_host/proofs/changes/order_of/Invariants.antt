use Rattle.std.proofs.Common.{◌≡◌, drop, find}
use Rattle.fx_rules.specs.State.{orders_in}
use Rattle.fx_rules.specs.Sweep.{is_order}
use Rattle.flat_host.proofs.changes.order_of.Given as goal

-- the order is sought in what is left of the list
abbrev pub invariant-loop-active : goal.invariant-loop-active
invariant-loop-active l =
    find (λ order. is_order l.bank l.number order) (orders_in l.pair (drop l.active-index l.orders)) ≡ find (λ order. is_order l.bank l.number order) (orders_in l.pair l.orders)
