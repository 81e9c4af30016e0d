use Rattle.std.proofs.Common.{◌-◌, ℕ, ◌≡◌, ◌≤◌, List, Some}
use Rattle.fx_rules.specs.Session.{Header}
use Rattle.session_script.specs.Stage.{Past, session_at}
use Rattle.session_script.specs.inside.Stage.{past_behind}
use Rattle.session_script.specs.inside.Rounds.{ReadsOn}
use Rattle.session_script.proofs.ScriptReading.{InRound}
use Rattle.session_script.proofs.intake.Intake.read_round.Given as goal

-- what was taken so far does not end the text
abbrev pub invariant-loop-self : goal.invariant-loop-self
invariant-loop-self g l = record {
  round : (front : List ℕ) (before : _) (former : Past) (input : List ℕ) → ReadsOn front g.S.Source.left g.S.Source.faults before l.fn.source l.fn.self former input
      → InRound front g.S.Source.left g.S.Source.faults before l.source l.self (past_behind former l.fn.self.stage) input;
  session : (h : Header) → session_at l.fn.self.stage ≡ Some h → session_at l.self.stage ≡ Some h;
  within : l.self.taken ≤ l.end;
}

abbrev pub decreases-loop-self : goal.decreases-loop-self
decreases-loop-self g l = l.end - l.self.taken
