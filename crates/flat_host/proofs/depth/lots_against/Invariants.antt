use Rattle.std.proofs.Common.{◌≡◌, ◌≤◌, ◌*◌, ◌^◌, take}
use Rattle.std.specs.List.{filter}
use Rattle.fx_rules.specs.Lists.{total}
use Rattle.fx_rules.specs.State.{orders_in}
use Rattle.fx_rules.specs.Sweep.{is_opposite}
use Rattle.flat_host.proofs.depth.lots_against.Given as goal

-- the lots of the orders that were passed
abbrev pub invariant-loop-active : goal.invariant-loop-active
invariant-loop-active l = record {
  lots : l.lots ≡ total (λ order. order.left) (filter (λ order. is_opposite l.side order.side) (orders_in l.pair (take l.active-index l.orders)));
  most : l.lots ≤ l.active-index * 10 ^ 6;
}
