use Rattle.fx_rules.specs.Session.{Header}
use Rattle.session_script.proofs.RoundLaws.{to_read}
use Rattle.client_day.specs.inside.Rounds.{IsServing}
use Rattle.client_day.proofs.rounds.serve_rounds.Given as goal

-- what was heard in former rounds is served
abbrev pub invariant-loop-reading : goal.invariant-loop-reading
invariant-loop-reading g l = record {
  serving : (before : _) (h : Header) → IsServing g.S.Source.left g.S.Source.faults before l.fn.source l.fn.reading h l.fn.day → IsServing g.S.Source.left g.S.Source.faults before l.source l.reading h l.day;
}

abbrev pub decreases-loop-reading : goal.decreases-loop-reading
decreases-loop-reading g l = to_read l.reading.end l.reading.intake.taken
