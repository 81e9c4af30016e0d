use Rattle.std.proofs.Common.{◌≤◌, ◌+◌, ◌*◌, length}
use Rattle.match_sweep.specs.inside.Heads.{CameBefore}
use Rattle.match_sweep.proofs.Walking.{Gone}
use Rattle.match_sweep.proofs.sweeping.walk_along.Given as goal

-- the fills are those of the walk so far, two steps for each
abbrev pub invariant-loop-fill : goal.invariant-loop-fill
invariant-loop-fill g l = record {
  gone : Gone l.book l.lines l.weight l.order l.walk l.fills.items;
  steps : CameBefore l.book.orders l.order.arrival → l.steps ≤ l.initial.steps + 2 * length l.fills.items;
}

abbrev pub decreases-loop-fill : goal.decreases-loop-fill
decreases-loop-fill g l = l.walk.order.left
