use Rattle.std.proofs.Common.{◌≡◌, List, ◌++◌, length}
use Rattle.fx_text.specs.declared.line.Line.{Line}
use Rattle.fx_text.proofs.FirstLines.{CutsOn}
use Rattle.fx_text.proofs.cutter.cut.Given as goal

-- the lines so far, and those of what is held and of what follows, are all lines
abbrev pub invariant-loop-behind : goal.invariant-loop-behind
invariant-loop-behind l = (lines : List Line) × (l.out.items ≡ l.fn.out.items ++ lines) × CutsOn l.fn.held l.piece l.held l.rest lines

abbrev pub decreases-loop-behind : goal.decreases-loop-behind
decreases-loop-behind l = length l.rest
