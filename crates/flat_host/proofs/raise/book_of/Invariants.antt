use Rattle.std.proofs.Common.{◌≡◌, take}
use Rattle.fx_rules.specs.inside.Orders.{in_pair}
use Rattle.flat_host.proofs.raise.book_of.Given as goal

-- the pair's orders of those that were passed
abbrev pub invariant-loop-active : goal.invariant-loop-active
invariant-loop-active l = l.book.items ≡ in_pair l.pair (take l.active-index l.orders)
