-- What the top call does with the words `keep` and `restart`, and with all others.
use Rattle.std.specs.Prelude.{ℕ, ◌≡◌, List, map, Option, Some, None, String, string_bytes}
use Rattle.std.specs.declared.alloc.Global.{Global}
use Rattle.kept_call.specs.Call.{DidKeep, DidRestart}
use Rattle.program_calls.specs.Forms.{kept_task_of}
use Rattle.program_calls.specs.declared.kept.KeptTask.{KeptTask}
use Rattle.program_calls.specs.declared.kept.KeptTask.TheVariants.{Keep, Restart}
use Rattle.fx_cli.specs.Answered.{Answered}
use Rattle.program_calls.specs.KeptCall.{DidKept}
use Rattle.program_calls.specs.TopCall.{ToldErr}
use Rattle.program_calls.specs.declared.status.Status.{Status}

-- what the words ask for of a kept session, if anything
abbrev pub asked_kept : List (String Global) → Option KeptTask
asked_kept words = kept_task_of (map string_bytes words)

-- the words were answered with this status
pub record AnsweredTop {D S K E : Type 0} (bytes : D → Option (List ℕ)) (may_leave : D → List ℕ → Type 0) (moment : D → ℕ) (left_since : D → ℕ → List ℕ → Type 0) (disk_faults : D → ℕ)
    (left : S → Option (List ℕ)) (failed : S → ℕ) (written : K → Option (List ℕ)) (faults : K → ℕ) (told : E → Option (List ℕ)) (untold : E → ℕ)
    (words : List (String Global)) (disk disk' : D) (source source' : S) (out out' : K) (err err' : E) (status : Status) : Type 0 where
  -- for all words but the two the disk is not touched
  pub others : asked_kept words ≡ None → Answered left failed written faults told untold words source source' out out' err err' status × (disk' ≡ disk)
  pub keep : asked_kept words ≡ Some Keep → DidKept (DidKeep bytes may_leave moment left_since disk_faults written faults left failed disk disk' out out' source source') status
  pub restart : asked_kept words ≡ Some Restart → DidKept (DidRestart bytes may_leave moment left_since disk_faults written faults left failed disk disk' out out' source source') status
  -- standard error: the line of the status
  pub standard_error : ToldErr told untold err err' status
