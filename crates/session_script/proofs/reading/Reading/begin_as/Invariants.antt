use Rattle.std.proofs.Common.{◌-◌, ℕ, ◌≡◌, [], List, None}
use Rattle.session_script.specs.Input.{input_limit}
use Rattle.session_script.specs.Stage.{no_past, session_at}
use Rattle.session_script.specs.inside.Rounds.{ReadsOn}
use Rattle.session_script.proofs.reading.Reading.begin_as.Given as goal

-- START was not read so far
abbrev pub invariant-loop-end : goal.invariant-loop-end
invariant-loop-end g l = record {
  reads : (input : List ℕ) × ReadsOn [] g.S.Source.left g.S.Source.faults l.fn.source l.source l.intake (no_past l.fn.keeps) input;
  none : session_at l.intake.stage ≡ None;
}

abbrev pub decreases-loop-end : goal.decreases-loop-end
decreases-loop-end g l = input_limit - l.intake.taken
