use Rattle.std.proofs.Common.{length}
use Rattle.session_script.specs.inside.Stage.{AddsLines}
use Rattle.session_script.proofs.front.push_spelled.Given as goal

-- the commands so far are those of the lines before the rest
abbrev pub invariant-loop-next : goal.invariant-loop-next
invariant-loop-next l = AddsLines l.session l.initial.sent.items l.sent.items l.text l.rest

abbrev pub decreases-loop-next : goal.decreases-loop-next
decreases-loop-next l = length l.rest
