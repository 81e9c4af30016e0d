use Rattle.std.proofs.Common.{◌++◌, List}
use Rattle.fx_rules.specs.declared.command.Sent.{Sent}
use Rattle.session_script.specs.Stage.{sent_at}
use Rattle.session_script.specs.Rounds.{HasRead}
use Rattle.gateway_workers.specs.SenderLanes.{HaveServed}
use Rattle.session_script.proofs.RoundLaws.{to_read}
use Rattle.program_calls.proofs.running.serve_rounds.Given as goal

-- what was read in former rounds is served
abbrev pub invariant-loop-reading : goal.invariant-loop-reading
invariant-loop-reading g l = record {
  serving : (before : _) (all : List Sent) → HasRead g.S.Source.left g.S.Source.faults before l.fn.source l.fn.reading g.N.Naming.session (all ++ sent_at l.fn.reading.intake.stage) → HaveServed g.N.Naming.session all l.fn.run.lanes.items
      → (sent : List Sent) × HasRead g.S.Source.left g.S.Source.faults before l.source l.reading g.N.Naming.session (sent ++ sent_at l.reading.intake.stage) × HaveServed g.N.Naming.session sent l.run.lanes.items;
}

abbrev pub decreases-loop-reading : goal.decreases-loop-reading
decreases-loop-reading g l = to_read l.reading.end l.reading.intake.taken
