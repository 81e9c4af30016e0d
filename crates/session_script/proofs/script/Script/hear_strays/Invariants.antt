use Rattle.std.proofs.Common.{length}
use Rattle.session_script.specs.inside.Stage.{AddsFront}
use Rattle.session_script.proofs.script.Script.hear_strays.Given as goal

-- the lines before the rest are those that were added
abbrev pub invariant-loop-line : goal.invariant-loop-line
invariant-loop-line l = AddsFront l.fn.self l.self l.text l.rest

abbrev pub decreases-loop-line : goal.decreases-loop-line
decreases-loop-line l = length l.rest
