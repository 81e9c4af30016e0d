use Rattle.fx_rules.specs.Session.{Header}
use Rattle.program_calls.specs.inside.Rounds.{IsServing}
use Rattle.session_script.proofs.RoundLaws.{to_read}
use Rattle.program_calls.proofs.serial_run.serve_rounds.Given as goal

-- what was read in former rounds is served
abbrev pub invariant-loop-count : goal.invariant-loop-count
invariant-loop-count g l = record {
  serving : (before : _) (h : Header) → IsServing g.S.Source.left g.S.Source.faults before l.fn.source l.fn.reading h l.fn.run l.fn.count → IsServing g.S.Source.left g.S.Source.faults before l.source l.reading h l.run l.count;
}

abbrev pub decreases-loop-count : goal.decreases-loop-count
decreases-loop-count g l = to_read l.reading.end l.reading.intake.taken
