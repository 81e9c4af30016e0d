use Rattle.flat_host.proofs.Walking.{WentBy}
use Rattle.flat_host.proofs.depth.levels_among.Given as goal

-- the levels are those of the fills of the walk so far
abbrev pub invariant-loop-walk : goal.invariant-loop-walk
invariant-loop-walk l = WentBy l.weight l.orders l.fn.lines l.fn.taker l.walk l.levels.items

abbrev pub decreases-loop-walk : goal.decreases-loop-walk
decreases-loop-walk l = l.walk.taker.left
