use Rattle.flat_host.proofs.Walking.{Went}
use Rattle.flat_host.proofs.sweep.plan_sweep.Given as goal

-- the fills are those of the walk so far
abbrev pub invariant-loop-fill : goal.invariant-loop-fill
invariant-loop-fill l = Went l.weight l.orders l.fn.lines l.fn.taker l.walk l.fills.items

abbrev pub decreases-loop-fill : goal.decreases-loop-fill
decreases-loop-fill l = l.walk.taker.left
