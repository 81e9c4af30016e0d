-- What the top call does with a word that runs a session, in parts: what it took of the source, with the causes that follow from
-- that; what standard output got; and the statuses that come. `IsTextOf` tells what text is written of an input: an output by
-- `IsOutputOf`, whose history is the headline with `run`, and with `serial` the one in the order of the lines.
use Rattle.std.specs.Prelude.{ℕ, ◌≡◌, ◌⊎◌, List, [], ◌∷◌, Option, Some, IfSome}
use Rattle.fx_amounts.specs.OutOfMemory.{refused}
use Rattle.fx_edges.specs.Faults.{Rose}
use Rattle.fx_rules.specs.Lists.{Among}
use Rattle.session_head.specs.declared.reason.HeadReason.{HeadReason}
use Rattle.session_script.specs.Input.{input_limit, TookAtMost, OfTaken}
use Rattle.session_script.specs.Reading.{HasNoFault, IsPrompt, EndedEarly}
use Rattle.session_script.specs.Script.{HasFault, HasEnd}
use Rattle.session_script.specs.declared.ends.EarlyEnd.{EarlyEnd}
use Rattle.session_script.specs.declared.ends.EarlyEnd.TheVariants as early
use Rattle.session_script.specs.declared.ends.TextEnd.TheVariants.{EndLine, Early}
use Rattle.program_calls.specs.Status.{status_at}
use Rattle.program_calls.specs.TopCall.{KindOfText, EndsExactly, GotWhole, GotPart, GotSoFar, GotNothing, IsSessionText}
use Rattle.program_calls.specs.declared.status.Status.{Status}
use Rattle.program_calls.specs.declared.status.Status.TheVariants.{Done, Header, Cut, ReadFault, WriteFault, Memory, TooMuch}

-- How much is taken of the source, by reads that stop where the text ends, and why they stop before that. The causes of `earlier`
-- come before these: such a status may stand in the place of each.
pub record SourceCauses (earlier : List Status) {S : Type 0} (left : S → Option (List ℕ)) (failed : S → ℕ) (source source' : S) (status : Status) : Type 0 where
  pub taken : TookAtMost input_limit left failed source source'
  pub prompt : OfTaken left source source' (λ input _. IsPrompt input)
  pub header : OfTaken left source source' (λ input _. (line : ℕ) (reason : HeadReason) → EndsExactly status (Header line reason) earlier (HasFault input line reason))
  pub cut : OfTaken left source source' (λ input rest. EndsExactly status Cut (ReadFault ∷ WriteFault ∷ earlier) (EndedEarly (Some rest) input early.Cut))
  pub too_much : OfTaken left source source' (λ input rest. EndsExactly status TooMuch (WriteFault ∷ earlier) (EndedEarly (Some rest) input early.TooMuch))
  pub read_fault : status ≡ ReadFault → Rose (failed source) (failed source')
  pub read_before : status ≡ ReadFault → OfTaken left source source' (λ input _. HasNoFault input × ¬ (HasEnd input))

-- Standard output: the whole text of the input, which has reached its END line; that of its whole lines so far, where it ended
-- early; a prefix of one; or nothing.
pub record GotText (IsTextOf : KindOfText) {S K : Type 0} (left : S → Option (List ℕ)) (written : K → Option (List ℕ)) (faults : K → ℕ)
    (source source' : S) (out out' : K) (status : Status) : Type 0 where
  pub done : status ≡ Done → OfTaken left source source' (λ input rest. GotWhole IsTextOf written faults out out' EndLine input (Some rest))
  pub so_far : (end : EarlyEnd) → status ≡ status_at (Early end) → OfTaken left source source' (λ input rest. GotSoFar IsTextOf written faults out out' end input (Some rest))
  pub write_fault : status ≡ WriteFault → Rose (faults out) (faults out')
  pub part : status ≡ WriteFault → OfTaken left source source' (λ input rest. GotPart IsTextOf written faults out out' input (Some rest))
  pub memory : status ≡ Memory refused → OfTaken left source source' (λ input rest. GotNothing written faults out out' ⊎ GotPart IsTextOf written faults out out' input (Some rest))
  pub nothing : (line : ℕ) (reason : HeadReason) → status ≡ Header line reason → GotNothing written faults out out'

-- a fault of the header, in some line and for some reason
abbrev pub IsHeader : Status → Type 0
IsHeader status = (line : ℕ) × (reason : HeadReason) × (status ≡ Header line reason)

pub record DidSession (IsTextOf : KindOfText) {S K : Type 0} (left : S → Option (List ℕ)) (failed : S → ℕ) (written : K → Option (List ℕ)) (faults : K → ℕ)
    (source source' : S) (out out' : K) (status : Status) : Type 0 where
  pub causes : SourceCauses [] left failed source source' status
  pub got : GotText IsTextOf left written faults source source' out out' status
  -- no other status comes; and the text of a session, over ends without faults, is served
  pub answers : IsHeader status ⊎ Among status (Done ∷ Cut ∷ ReadFault ∷ WriteFault ∷ Memory refused ∷ TooMuch ∷ [])
  pub complete : IfSome (left source) (λ bytes. IsSessionText bytes
      → ¬ (Rose (failed source) (failed source')) → ¬ (Rose (faults out) (faults out')) → Among status (Done ∷ Memory refused ∷ []))
