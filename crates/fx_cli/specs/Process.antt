-- What the process does with its arguments, and the exit status that it ends with.
use Rattle.std.specs.Prelude.{ℕ, ◌≡◌, ◌≢◌, ◌⊎◌, List, Option, String}
use Rattle.std.specs.declared.alloc.Global.{Global}
use Rattle.std.specs.declared.io.ErrorKind.{ErrorKind}
use Rattle.std.specs.declared.io.ErrorKind.TheVariants.{OutOfMemory}
use Rattle.fx_amounts.specs.OutOfMemory.{refused}
use Rattle.fx_cli.specs.KeptCall.{AnsweredTop}
use Rattle.program_calls.specs.Status.{status_code}
use Rattle.program_calls.specs.declared.status.Status.{Status}
use Rattle.program_calls.specs.declared.status.Status.TheVariants.{Usage, Memory}

-- it ended before it began
pub record IsUntouched {D S K E : Type 0} (disk disk' : D) (source source' : S) (out out' : K) (err err' : E) : Type 0 where
  pub unkept : disk' ≡ disk
  pub unread : source' ≡ source
  pub unwritten : out' ≡ out
  pub untold : err' ≡ err

-- the exit status is that of the answer to the words, or of a refusal of memory for a list of them
pub record EndsBy {D S K E : Type 0} (bytes : D → Option (List ℕ)) (may_leave : D → List ℕ → Type 0) (moment : D → ℕ) (left_since : D → ℕ → List ℕ → Type 0) (disk_faults : D → ℕ)
    (left : S → Option (List ℕ)) (failed : S → ℕ) (written : K → Option (List ℕ)) (faults : K → ℕ) (told : E → Option (List ℕ)) (untold : E → ℕ)
    (words : List (String Global)) (disk disk' : D) (source source' : S) (out out' : K) (err err' : E) (code : ℕ) : Type 0 where
  pub status : Status
  pub code_is : code ≡ status_code status
  pub answered : AnsweredTop bytes may_leave moment left_since disk_faults left failed written faults told untold words disk disk' source source' out out' err err' status
      ⊎ ((status ≡ Memory refused) × IsUntouched disk disk' source source' out out' err err')

-- the arguments could not be read: memory was refused, or there was another reason
pub record EndsUnread {D S K E : Type 0} (kind : ErrorKind) (disk disk' : D) (source source' : S) (out out' : K) (err err' : E) (code : ℕ) : Type 0 where
  pub memory : kind ≡ OutOfMemory → code ≡ status_code (Memory refused)
  pub other : kind ≢ OutOfMemory → code ≡ status_code Usage
  pub untouched : IsUntouched disk disk' source source' out out' err err'
