-- What the top call does for its words.
use Rattle.std.specs.Prelude.{ℕ, ◌≡◌, List, [], map, Option, Some, None, String, string_bytes}
use Rattle.std.specs.declared.alloc.Global.{Global}
use Rattle.net_settle.specs.declared.form.Form.{Form}
use Rattle.program_calls.specs.Forms.{task_of}
use Rattle.program_calls.specs.declared.task.Task.{Task}
use Rattle.program_calls.specs.declared.task.Task.TheVariants.{Run, Serial, Check, Load, Clients, Payments, Watch}
use Rattle.program_calls.specs.TopCall.{EndsExactly, IsOutputOf, ToldErr}
use Rattle.program_calls.specs.Headline.{IsHeadline, IsSerial}
use Rattle.program_calls.specs.SessionCall.{DidSession}
use Rattle.program_calls.specs.Check.{SaysYes}
use Rattle.program_calls.specs.CheckCall.{DidCheck}
use Rattle.program_calls.specs.Payments.{IsPaymentsOf}
use Rattle.program_calls.specs.LoadCall.{DidLoad}
use Rattle.program_calls.specs.Clients.{IsClientsTextOf}
use Rattle.program_calls.specs.Watch.{IsWatchedOf}
use Rattle.program_calls.specs.declared.status.Status.{Status}
use Rattle.program_calls.specs.declared.status.Status.TheVariants.{Usage}

-- what the words ask for, if anything
abbrev pub asked : List (String Global) → Option Task
asked words = task_of (map string_bytes words)

-- the words were answered with this status
pub record Answered {S K E : Type 0} (left : S → Option (List ℕ)) (failed : S → ℕ) (written : K → Option (List ℕ)) (faults : K → ℕ) (told : E → Option (List ℕ)) (untold : E → ℕ)
    (words : List (String Global)) (source source' : S) (out out' : K) (err err' : E) (status : Status) : Type 0 where
  -- words in none of the forms are refused before anything is read or written
  pub usage : EndsExactly status Usage [] (asked words ≡ None)
  pub untouched : asked words ≡ None → (source' ≡ source) × (out' ≡ out)
  -- what came of a session, on threads and in the order of its lines, of the check of an output, of a load, of a session with clients,
  -- of an output's payments, and of a session that is watched: what was read and written, and the cause of each status
  pub run : (workers : ℕ) → asked words ≡ Some (Run workers) → DidSession (IsOutputOf IsHeadline) left failed written faults source source' out out' status
  pub serial : asked words ≡ Some Serial → DidSession (IsOutputOf IsSerial) left failed written faults source source' out out' status
  pub check : asked words ≡ Some Check → DidCheck SaysYes left failed written faults source source' out out' status
  pub load : (seed banks pairs commands workers : ℕ) → asked words ≡ Some (Load seed banks pairs commands workers) →
      DidLoad written faults seed banks pairs commands source source' out out' status
  pub clients : asked words ≡ Some Clients → DidSession IsClientsTextOf left failed written faults source source' out out' status
  pub payments : (form : Form) → asked words ≡ Some (Payments form) → DidCheck (IsPaymentsOf form) left failed written faults source source' out out' status
  pub watch : asked words ≡ Some Watch → DidSession IsWatchedOf left failed written faults source source' out out' status
  -- standard error: the line of the status
  pub standard_error : ToldErr told untold err err' status
