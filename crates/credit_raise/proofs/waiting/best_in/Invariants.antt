use Rattle.std.proofs.Common.{None, take}
use Rattle.fx_amounts.specs.Side.{opposite}
use Rattle.global_book.specs.Behind.{owned_behind}
use Rattle.credit_raise.specs.inside.Playing.{IsBestOf}
use Rattle.credit_raise.proofs.waiting.best_in.Given as goal

-- the best of those that were passed
abbrev pub invariant-loop-order : goal.invariant-loop-order
invariant-loop-order l = IsBestOf (opposite l.side) (owned_behind l.side l.bank l.before None (take l.order-index l.orders)) l.best
