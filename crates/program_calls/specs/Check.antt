-- The check of an output: what was read, the verdict, and what was written. With the payments of an output it is the same, but for
-- the text that is written where it is one.
use Rattle.std.specs.Prelude.{ℕ, ◌≡◌, ◌≤◌, ◌<◌, ◌^◌, ◌⊎◌, List, [], ◌∷◌, ◌++◌, length, codes, Option, Result, Ok, Err}
use Rattle.std.specs.declared.alloc.Global.{Global}
use Rattle.std.specs.declared.vec.Vec.{Vec}
use Rattle.std.specs.Io.KnownBytes.{IsAtEnd}
use Rattle.fx_amounts.specs.Numeral.{numeral}
use Rattle.fx_edges.specs.Faults.{Rose}
use Rattle.fx_edges.specs.Reading.{Took}
use Rattle.fx_edges.specs.Writing.{Appended, AppendedPart}
use Rattle.journal_check.specs.Verdict.{yes, IsVerdict, IsSomeOutput}
use Rattle.journal_check.specs.declared.check.Verdict.{Verdict}
use Rattle.journal_check.specs.declared.check.Verdict.TheVariants.{Yes, No}
use Rattle.program_calls.specs.declared.checking.Halt.{Halt}
use Rattle.program_calls.specs.declared.checking.Halt.TheVariants as halts
use Rattle.program_calls.specs.declared.status.Status.{Status}
use Rattle.program_calls.specs.declared.status.Status.TheVariants.{Done, Differs, ReadFault, WriteFault, TooMuch, Memory}

-- fewer bytes than these can be checked
abbrev pub output_limit : ℕ
output_limit = 2 ^ 28

-- What is said to be written of bytes that are an output: the bytes and the text.
abbrev pub KindOfAnswer : Type 1
KindOfAnswer = List ℕ → List ℕ → Type 0

-- by `check`: that they are one
abbrev pub SaysYes : KindOfAnswer
SaysYes bytes text = text ≡ codes "YES\n"

-- of bytes that are none: where they are none
unfoldable pub no_line : ℕ → List ℕ
no_line offset = codes "NO " ++ numeral offset ++ 10 ∷ []

-- and by the verdict on them
abbrev pub IsAnswerAt : KindOfAnswer → List ℕ → Verdict → List ℕ → Type 0
IsAnswerAt IsAnswer bytes (Yes passed) text = IsAnswer bytes text
IsAnswerAt IsAnswer bytes (No offset) text = text ≡ no_line offset

-- the status where the source was not read to its end
abbrev pub halted : Halt → Status
halted halts.ReadFault = ReadFault
halted halts.TooMuch = TooMuch
halted (halts.Memory memory) = Memory memory

-- how the reading ended, by the bytes that it took and what the source has left then
abbrev pub Halted : Option (List ℕ) → List ℕ → Result (Vec ℕ Global) Halt → Type 0
Halted known bytes (Ok all) = (all.items ≡ bytes) × IsAtEnd known × (length bytes < output_limit)
Halted known bytes (Err halts.ReadFault) = length bytes < output_limit
Halted known bytes (Err halts.TooMuch) = length bytes ≡ output_limit
Halted known bytes (Err (halts.Memory memory)) = Unit {0}

-- the reading took some bytes, at most the limit, and ended so; a read fault is the source's
pub record HasTaken {S : Type 0} (left : S → Option (List ℕ)) (faults : S → ℕ) (before now : S) (result : Result (Vec ℕ Global) Halt) : Type 0 where
  pub bytes : List ℕ
  pub took : Took left faults before now bytes
  pub within : length bytes ≤ output_limit
  pub ended : Halted (left now) bytes result
  pub cause : result ≡ Err halts.ReadFault → Rose (faults before) (faults now)

module _ (IsAnswer : KindOfAnswer) {K : Type 0} (written : K → Option (List ℕ)) (faults : K → ℕ) (before now : K) where
  -- a sink got the text that goes with the bytes' verdict, or a prefix of it
  pub record WroteVerdict (bytes : List ℕ) (verdict : Verdict) : Type 0 where
    pub is_verdict : IsVerdict bytes verdict
    pub text : List ℕ
    pub is_text : IsAnswerAt IsAnswer bytes verdict text
    pub all : Appended written faults before now text

  pub record WrotePartOf (bytes : List ℕ) : Type 0 where
    pub verdict : Verdict
    pub is_verdict : IsVerdict bytes verdict
    pub text : List ℕ
    pub is_text : IsAnswerAt IsAnswer bytes verdict text
    pub part : AppendedPart written faults before now text

  -- what the check of some bytes did to standard output, by the status that it ended with
  abbrev pub ToldVerdict : List ℕ → Status → Type 0
  ToldVerdict bytes Done = IsSomeOutput bytes × WroteVerdict bytes yes
  ToldVerdict bytes Differs = ¬ (IsSomeOutput bytes) × ((offset : ℕ) × WroteVerdict bytes (No offset))
  ToldVerdict bytes WriteFault = WrotePartOf bytes × Rose (faults before) (faults now)
  ToldVerdict bytes (Memory memory) = (now ≡ before) ⊎ WrotePartOf bytes
  ToldVerdict bytes _ = ⊥

  -- what came of the reading
  abbrev pub ThenTold : Result (Vec ℕ Global) Halt → Status → Type 0
  ThenTold (Ok all) status = ToldVerdict all.items status
  ThenTold (Err halt) status = (status ≡ halted halt) × (now ≡ before)

-- what the check of a source did, by the status that it ended with
pub record Checked (IsAnswer : KindOfAnswer) {S K : Type 0} (left : S → Option (List ℕ)) (taken : S → ℕ) (written : K → Option (List ℕ)) (faults : K → ℕ)
    (source source' : S) (out out' : K) (status : Status) : Type 0 where
  pub read : Result (Vec ℕ Global) Halt
  pub has_taken : HasTaken left taken source source' read
  pub told : ThenTold IsAnswer written faults out out' read status
