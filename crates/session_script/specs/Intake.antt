-- What an intake stands for.
use Rattle.std.specs.Prelude.{ℕ, ◌≡◌, List}
use Rattle.fx_text.specs.Lines.{lines_of, held_of}
use Rattle.session_script.specs.Stage.{Past, StandsAt}
use Rattle.session_script.specs.declared.intake.Intake.{Intake}

-- the intake stands behind this text, however it was cut, and gave this of it in former rounds
pub record StandsFor (intake : Intake) (text : List ℕ) (former : Past) : Type 0 where
  pub held : intake.cutter ≡ held_of text
  pub stage : StandsAt intake.stage (lines_of text) former
