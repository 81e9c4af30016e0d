-- What private functions and proofs alone say of it, beside `specs/Rounds.antt`.
use Rattle.std.specs.Prelude.{ℕ, ◌≡◌, ◌≤◌, List, ◌++◌, length, Option, Some, Result, Ok, OnOk}
use Rattle.fx_edges.specs.Faults.{Rose}
use Rattle.fx_edges.specs.Reading.{Took}
use Rattle.session_script.specs.Input.{input_limit}
use Rattle.session_script.specs.Stage.{Past}
use Rattle.session_script.specs.Intake.{StandsFor}
use Rattle.session_script.specs.Reading.{GoesOn, IsPromptBehind}
use Rattle.session_script.specs.inside.Reading.{RoundCame}
use Rattle.session_script.specs.declared.ends.EarlyEnd.TheVariants.{ReadFault}
use Rattle.session_script.specs.declared.ends.TextEnd.{TextEnd}
use Rattle.session_script.specs.declared.ends.TextEnd.TheVariants.{Early}
use Rattle.session_script.specs.declared.ends.Stop.{Stop}
use Rattle.session_script.specs.declared.intake.Intake.{Intake}

module _ (front : List ℕ) {S : Type 0} (left : S → Option (List ℕ)) (faults : S → ℕ) (before now : S) where
  -- the intake took this input, and stands behind the front and it; the text goes on
  pub record ReadsOn (intake : Intake) (former : Past) (input : List ℕ) : Type 0 where
    pub took : Took left faults before now input
    pub stands : StandsFor intake (front ++ input) former
    pub taken : intake.taken ≡ length input
    pub goes_on : GoesOn (front ++ input)

  -- a round took more of it, and came to this; a read fault is the source's
  pub record TookRound (intake : Intake) (former : Past) (begun : List ℕ) (result : Result (Option TextEnd) Stop) : Type 0 where
    pub more : List ℕ
    pub took : Took left faults before now (begun ++ more)
    pub within : length (begun ++ more) ≤ input_limit
    pub prompt : IsPromptBehind front (begun ++ more)
    pub stands : OnOk result (StandsFor intake (front ++ (begun ++ more)) former)
    pub taken : OnOk result (intake.taken ≡ length (begun ++ more))
    pub came : RoundCame front (left now) (begun ++ more) result
    pub cause : result ≡ Ok (Some (Early ReadFault)) → Rose (faults before) (faults now)
