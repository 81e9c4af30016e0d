-- What the top call does with the word `check`, and with `payments`: `IsAnswer` tells what text is written of an output.
use Rattle.std.specs.Prelude.{ℕ, ◌≡◌, ◌<◌, ◌⊎◌, List, [], ◌∷◌, length, Option, IfSome}
use Rattle.fx_amounts.specs.OutOfMemory.{refused}
use Rattle.fx_edges.specs.Faults.{Rose}
use Rattle.fx_rules.specs.Lists.{Among}
use Rattle.journal_check.specs.Verdict.{yes, IsSomeOutput}
use Rattle.journal_check.specs.declared.check.Verdict.TheVariants.{No}
use Rattle.program_calls.specs.Check.{KindOfAnswer, output_limit, WroteVerdict, WrotePartOf}
use Rattle.session_script.specs.Input.{TookAtMost, OfTaken}
use Rattle.program_calls.specs.TopCall.{EndsExactly, GotNothing, WritesNothing}
use Rattle.program_calls.specs.declared.status.Status.{Status}
use Rattle.program_calls.specs.declared.status.Status.TheVariants.{Done, ReadFault, WriteFault, Memory, TooMuch, Differs}

-- the bytes that were taken are all that the source had, and are not the output of a legal history
pub record IsOther (input rest : List ℕ) : Type 0 where
  pub whole : rest ≡ []
  pub short : length input < output_limit
  pub other : ¬ (IsSomeOutput input)

pub record DidCheck (IsAnswer : KindOfAnswer) {S K : Type 0} (left : S → Option (List ℕ)) (failed : S → ℕ) (written : K → Option (List ℕ)) (faults : K → ℕ)
    (source source' : S) (out out' : K) (status : Status) : Type 0 where
  -- the source: how much is taken of it, and why the reading stopped before its end
  pub taken : TookAtMost output_limit left failed source source'
  pub too_much : OfTaken left source source' (λ input _. EndsExactly status TooMuch [] (length input ≡ output_limit))
  pub read_fault : status ≡ ReadFault → Rose (failed source) (failed source')
  -- the verdict on all bytes of the source, behind which a read met its end
  pub done : status ≡ Done → OfTaken left source source' (λ input rest. (rest ≡ []) × IsSomeOutput input × WroteVerdict IsAnswer written faults out out' input yes)
  pub differs : OfTaken left source source' (λ input rest. EndsExactly status Differs (ReadFault ∷ WriteFault ∷ []) (IsOther input rest))
  pub offset : status ≡ Differs → OfTaken left source source' (λ input _. (offset : ℕ) × WroteVerdict IsAnswer written faults out out' input (No offset))
  -- standard output where the verdict was not written whole
  pub write_fault : status ≡ WriteFault → Rose (faults out) (faults out')
  pub part : status ≡ WriteFault → OfTaken left source source' (λ input _. WrotePartOf IsAnswer written faults out out' input)
  pub memory : status ≡ Memory refused → OfTaken left source source' (λ input _. GotNothing written faults out out' ⊎ WrotePartOf IsAnswer written faults out out' input)
  pub nothing : WritesNothing status → GotNothing written faults out out'
  -- no other status comes; and over ends without faults every source below the limit gets its verdict
  pub answers : Among status (Done ∷ Differs ∷ ReadFault ∷ WriteFault ∷ TooMuch ∷ Memory refused ∷ [])
  pub complete : IfSome (left source) (λ bytes. length bytes < output_limit
      → ¬ (Rose (failed source) (failed source')) → ¬ (Rose (faults out) (faults out')) → Among status (Done ∷ Differs ∷ Memory refused ∷ []))
