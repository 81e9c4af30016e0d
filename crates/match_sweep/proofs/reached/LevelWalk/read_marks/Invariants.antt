use Rattle.std.proofs.Common.{◌≤◌, ◌+◌}
use Rattle.fx_amounts.specs.Side.{opposite}
use Rattle.match_sweep.specs.inside.Near.{AreSeen}
use Rattle.match_sweep.proofs.reached.LevelWalk.read_marks.Given as goal

-- the banks that were passed are seen
abbrev pub invariant-loop-at : goal.invariant-loop-at
invariant-loop-at g l = record {
  seen : AreSeen l.book (opposite l.self.taker) l.from l.banks l.marks l.at l.all;
  steps : l.steps ≤ l.fn.steps + l.at;
}
