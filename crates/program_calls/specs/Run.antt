-- What a run does to its source and to standard output. In all of these `IsTextOf` tells what text is written of an input.
use Rattle.std.specs.Prelude.{ℕ, ◌≡◌, ◌≤◌, List, length, Option, Result, Ok, Err, ◌⊎◌}
use Rattle.fx_amounts.specs.OutOfMemory.{refused}
use Rattle.fx_edges.specs.Faults.{Rose}
use Rattle.fx_edges.specs.Reading.{Took}
use Rattle.fx_edges.specs.Writing.{AppendedPart}
use Rattle.session_script.specs.Input.{input_limit}
use Rattle.session_script.specs.Reading.{HasStarted, IsPrompt, TextEnded, Stopped}
use Rattle.session_script.specs.declared.ends.TextEnd.{TextEnd}
use Rattle.session_script.specs.declared.ends.Stop.{Stop}
use Rattle.program_calls.specs.Status.{status_at, status_of}
use Rattle.program_calls.specs.TopCall.{KindOfText, GotWhole}
use Rattle.program_calls.specs.declared.status.Status.{Status}
use Rattle.program_calls.specs.declared.status.Status.TheVariants.{WriteFault, Memory, ReadFault}

-- a sink got a prefix of the text of an input that ended so
abbrev pub GotPartOf : (IsTextOf : KindOfText) {K : Type 0} (written : K → Option (List ℕ)) (faults : K → ℕ) (before now : K) → TextEnd → List ℕ → Option (List ℕ) → Type 0
GotPartOf IsTextOf written faults before now end input left = (text : List ℕ) × IsTextOf end input left text × AppendedPart written faults before now text

-- What was done to standard output for an input that ended so, by the status: its text was written whole, or a prefix of it,
-- or, out of memory, nothing.
abbrev pub RanText : (IsTextOf : KindOfText) {K : Type 0} (written : K → Option (List ℕ)) (faults : K → ℕ) (before now : K) → TextEnd → List ℕ → Option (List ℕ) → Status → Type 0
RanText IsTextOf written faults before now end input left status =
    ((status ≡ status_at end) × GotWhole IsTextOf written faults before now end input left)
    ⊎ ((status ≡ WriteFault) × GotPartOf IsTextOf written faults before now end input left × Rose (faults before) (faults now))
    ⊎ ((status ≡ Memory refused) × ((now ≡ before) ⊎ GotPartOf IsTextOf written faults before now end input left))

-- how the reading went: behind START the text ended so, or the reading stopped before
abbrev pub ReadCame : Option (List ℕ) → List ℕ → Result TextEnd Stop → Type 0
ReadCame left input (Ok end) = HasStarted input × TextEnded left input end
ReadCame left input (Err stop) = Stopped left input stop

-- the status that it asks for
abbrev pub status_read : Result TextEnd Stop → Status
status_read (Ok end) = status_at end
status_read (Err stop) = status_of stop

-- what came of it: the session is run, or nothing is written and the status tells why the reading stopped
abbrev pub Followed : (IsTextOf : KindOfText) {K : Type 0} (written : K → Option (List ℕ)) (faults : K → ℕ) (before now : K) → List ℕ → Option (List ℕ) → Result TextEnd Stop → Status → Type 0
Followed IsTextOf written faults before now input left (Ok end) status = RanText IsTextOf written faults before now end input left status
Followed IsTextOf written faults before now input left (Err stop) status = (status ≡ status_of stop) × (now ≡ before)

-- what a run whose words are accepted did, by the status that it ended with
pub record Ran (IsTextOf : KindOfText) {S K : Type 0} (left : S → Option (List ℕ)) (failed : S → ℕ) (written : K → Option (List ℕ)) (faults : K → ℕ)
    (source source' : S) (out out' : K) (status : Status) : Type 0 where
  pub input : List ℕ
  pub took : Took left failed source source' input
  pub within : length input ≤ input_limit
  pub prompt : IsPrompt input
  pub read : Result TextEnd Stop
  pub came : ReadCame (left source') input read
  pub cause : status_read read ≡ ReadFault → Rose (failed source) (failed source')
  pub followed : Followed IsTextOf written faults out out' input (left source') read status
