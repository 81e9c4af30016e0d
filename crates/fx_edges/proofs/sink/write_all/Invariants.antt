use Rattle.std.proofs.Common.{length, ◌-◌, ◌≤◌, take}
use Rattle.fx_edges.specs.Writing.{Appended}
use Rattle.fx_edges.proofs.sink.write_all.Given as goal

abbrev pub invariant-loop-at : goal.invariant-loop-at
invariant-loop-at g l = record {
  within : l.at ≤ length l.piece;
  so_far : Appended g.K.Sink.written g.K.Sink.faults l.initial.sink l.sink (take l.at l.piece);
}

abbrev pub decreases-loop-at : goal.decreases-loop-at
decreases-loop-at g l = length l.piece - l.at
