use Rattle.std.proofs.Common.{take}
use Rattle.flat_host.specs.inside.Search.{candidates, IsBestOf}
use Rattle.flat_host.proofs.sweep.best_behind.Given as goal

-- the best so far is the best of the orders that were passed
abbrev pub invariant-loop-active : goal.invariant-loop-active
invariant-loop-active l =
    IsBestOf l.taker.side (candidates l.weight l.lines l.taker l.last (take l.active-index l.orders)) l.best
