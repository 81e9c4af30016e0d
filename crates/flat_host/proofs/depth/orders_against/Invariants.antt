use Rattle.std.proofs.Common.{◌≡◌, take}
use Rattle.flat_host.specs.inside.Walks.{against_in}
use Rattle.flat_host.proofs.depth.orders_against.Given as goal

-- those of the orders that were passed
abbrev pub invariant-loop-active : goal.invariant-loop-active
invariant-loop-active l = l.against.items ≡ against_in l.pair l.side (take l.active-index l.orders)
