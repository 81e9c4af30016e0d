use Rattle.fx_text.proofs.CutFields.{IsCut}
use Rattle.fx_text.proofs.field.Fields.read.Given as goal

abbrev pub invariant-loop-at : goal.invariant-loop-at
invariant-loop-at l = IsCut l.line l.at l.start l.self-inside.kept
