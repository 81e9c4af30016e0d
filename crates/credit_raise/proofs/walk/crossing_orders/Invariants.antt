use Rattle.std.proofs.Common.{[], take}
use Rattle.credit_raise.specs.inside.Prices.{Gathers}
use Rattle.credit_raise.proofs.Crossing.{crosses_of}
use Rattle.credit_raise.proofs.walk.crossing_orders.Given as goal

-- what crosses of the banks that were passed
abbrev pub invariant-loop-bank : goal.invariant-loop-bank
invariant-loop-bank g l = Gathers (crosses_of l.tops (take l.bank-index l.owners)) l.book.orders [] l.orders.items
