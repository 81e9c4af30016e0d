use Rattle.std.proofs.Common.{◌≡◌, List, ◌++◌, length}
use Rattle.std.specs.Prelude.{IsTrue, Some}
use Rattle.fx_rules.specs.Session.{Header}
use Rattle.fx_text.specs.Lines.{lines_of, rest_of}
use Rattle.fx_text.specs.declared.line.Line.{Line}
use Rattle.session_script.specs.Stage.{Past, StandsAt, session_at}
use Rattle.session_script.specs.inside.Stage.{is_open}
use Rattle.session_script.proofs.intake.stage.Stage.take_all.Given as goal

-- the stage is that of the lines so far, and those of the rest are what is left of all
abbrev pub invariant-loop-line : goal.invariant-loop-line
invariant-loop-line l = record {
  taken : (lines : List Line) (former : Past) → StandsAt l.fn.self lines former
      → (done : List Line) × (lines_of l.text ≡ done ++ lines_of l.rest) × StandsAt l.self (lines ++ done) former;
  behind : rest_of l.text ≡ rest_of l.rest;
  readable : IsTrue (is_open l.self);
  session : (h : Header) → session_at l.fn.self ≡ Some h → session_at l.self ≡ Some h;
}

abbrev pub decreases-loop-line : goal.decreases-loop-line
decreases-loop-line l = length l.rest
