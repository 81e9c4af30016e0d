use Rattle.std.proofs.Common.{List, ◌≤◌, ◌+◌, ◌*◌, ◌-◌, length}
use Rattle.fx_rules.specs.declared.orders.Level.{Level}
use Rattle.match_sweep.specs.inside.Reaches.{AreRanked, AreReached, BeginsAt, IsLowest}
use Rattle.match_sweep.proofs.Cutting.{AreCut}
use Rattle.match_sweep.proofs.LevelSteps.{OnTheWay}
use Rattle.match_sweep.proofs.reached.levels_in_reach.Given as goal

-- the levels so far are the first ones of every such order's sweep by the lines, up to the lots that the total pays for
abbrev pub invariant-loop-banks : goal.invariant-loop-banks
invariant-loop-banks g l = record {
  whole : List Level;
  cut : AreCut l.initial.most l.most whole l.levels.items;
  way : (begins : BeginsAt l.book l.lines l.weight l.fn.bank l.fn.side l.initial.walk) → OnTheWay l.book begins.valid l.initial.walk l.walk l.fn.bank whole;
  ranked : AreRanked l.walk;
  reached : (begins : BeginsAt l.book l.lines l.weight l.fn.bank l.fn.side l.initial.walk) → AreReached l.book l.walk l.banks;
  lowest : IsLowest l.walk l.banks l.rank;
  steps : l.steps ≤ l.fn.steps + (length l.levels.items + 1) * l.book.banks;
}

abbrev pub decreases-loop-banks : goal.decreases-loop-banks
decreases-loop-banks g l = 10 - length l.levels.items
