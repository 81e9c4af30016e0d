use Rattle.std.proofs.Common.{◌≤◌, ◌-◌, length}
use Rattle.fx_edges.specs.Reading.{Took}
use Rattle.program_calls.specs.Check.{output_limit}
use Rattle.program_calls.proofs.checking.read_all.Given as goal

-- what was taken so far
abbrev pub invariant-loop-piece : goal.invariant-loop-piece
invariant-loop-piece g l = record {
  took : Took g.S.Source.left g.S.Source.faults l.initial.source l.source l.bytes.items;
  within : length l.bytes.items ≤ output_limit;
}

abbrev pub decreases-loop-piece : goal.decreases-loop-piece
decreases-loop-piece g l = output_limit - length l.bytes.items
