-- What the top call says of its status and of what the streams got.
use Rattle.std.specs.Prelude.{◌≡◌, ℕ, List, [], ◌∷◌, map, Option, Ok, ◌⊎◌}
use Rattle.fx_amounts.specs.OutOfMemory.{refused}
use Rattle.fx_edges.specs.Faults.{Rose}
use Rattle.fx_edges.specs.Writing.{Appended, AppendedPart, CutShort}
use Rattle.fx_rules.specs.declared.outcome.Entry.{Entry}
use Rattle.fx_rules.specs.declared.command.Sent.{Sent}
use Rattle.fx_rules.specs.Lists.{Among}
use Rattle.fx_rules.specs.Sending.{sent_by}
use Rattle.fx_rules.specs.Session.{Header}
use Rattle.reply_lines.specs.Output.{IsOutput}
use Rattle.journal_check.specs.Listed.{listed}
use Rattle.session_script.specs.Reading.{HasStarted, HasNotStarted, TextEnded}
use Rattle.session_script.specs.Script.{HasSession, sent_in, strays_of}
use Rattle.session_script.specs.declared.ends.EarlyEnd.{EarlyEnd}
use Rattle.session_script.specs.declared.ends.TextEnd.{TextEnd}
use Rattle.session_script.specs.declared.ends.TextEnd.TheVariants.{Early}
use Rattle.kept_call.specs.Ending.{ending_of}
use Rattle.kept_call.specs.Text.{IsSessionTextBehind}
use Rattle.program_calls.specs.Status.{err_text}
use Rattle.program_calls.specs.declared.status.Status.{Status}
use Rattle.program_calls.specs.declared.status.Status.TheVariants.{Done, Differs, WriteFault, Memory, DiskFault}

-- The run ended with this status exactly where the cause stands, unless it ended with one of `earlier`, whose causes
-- come first, or out of memory.
pub record EndsExactly (result status : Status) (earlier : List Status) (cause : Type 0) : Type 0 where
  pub only : result ≡ status → cause
  pub always : cause → Among result (status ∷ Memory refused ∷ earlier)

-- The headline. The input that was taken, where the source has `left` still, ended so: at status 0 it reached its END line.
-- And a text is exactly the output of one history: one of the session of the input's own header and of its commands, those
-- of its whole lines where it has no END line, when the last line names the early end. What `IsRight` says of that
-- history is `IsHeadline`: it is legal and has each bank's commands once and in its order, and what this says of replies,
-- fills, lines and resting orders; or `IsSerial`, where the commands went in the order of their lines besides. Session and
-- history are those that the text itself lists, and that a check of it reads: no other was run than is printed.
pub record IsOutputOf (IsRight : Header → List Sent → List Entry → Type 0) (end : TextEnd) (input : List ℕ) (left : Option (List ℕ)) (text : List ℕ) : Type 0 where
  pub at_its_end : TextEnded left input end
  pub session : Header
  pub of_its_header : HasSession input session
  pub history : List Entry
  pub of_its_commands : IsRight session (sent_in session input) history
  pub exactly : IsOutput session history (strays_of session input) (ending_of end) text
  pub as_listed : listed text ≡ Ok (record { session = session; commands = map sent_by history })

-- What a text is said to be of an input that ended so, where the source has `left` still: the end, the input, `left` and the text.
abbrev pub KindOfText : Type 1
KindOfText = TextEnd → List ℕ → Option (List ℕ) → List ℕ → Type 0

-- a sink got exactly that text
abbrev pub GotWhole : (IsTextOf : KindOfText) {K : Type 0} (written : K → Option (List ℕ)) (faults : K → ℕ) (before now : K) → TextEnd → List ℕ → Option (List ℕ) → Type 0
GotWhole IsTextOf written faults before now end input left = (text : List ℕ) × IsTextOf end input left text × Appended written faults before now text

-- a sink got a prefix of it, however the input ended
abbrev pub GotPart : (IsTextOf : KindOfText) {K : Type 0} (written : K → Option (List ℕ)) (faults : K → ℕ) (before now : K) → List ℕ → Option (List ℕ) → Type 0
GotPart IsTextOf written faults before now input left = (end : TextEnd) × (text : List ℕ) × IsTextOf end input left text × AppendedPart written faults before now text

-- a sink got nothing
abbrev pub GotNothing : {K : Type 0} (written : K → Option (List ℕ)) (faults : K → ℕ) (before now : K) → Type 0
GotNothing written faults before now = Appended written faults before now []

-- Where an input ended before its END line: a sink got the text of its whole lines so far, or nothing where START was not
-- read.
abbrev pub GotSoFar : (IsTextOf : KindOfText) {K : Type 0} (written : K → Option (List ℕ)) (faults : K → ℕ) (before now : K) → EarlyEnd → List ℕ → Option (List ℕ) → Type 0
GotSoFar IsTextOf written faults before now end input left =
    (HasStarted input × GotWhole IsTextOf written faults before now (Early end) input left) ⊎ (HasNotStarted input × GotNothing written faults before now)

-- the statuses at which a check writes nothing on standard output
abbrev pub WritesNothing : Status → Type 0
WritesNothing Done = ⊥
WritesNothing Differs = ⊥
WritesNothing WriteFault = ⊥
WritesNothing (Memory memory) = ⊥
WritesNothing DiskFault = ⊥
WritesNothing _ = Unit {0}

-- the text of a session, with nothing in front of it
abbrev pub IsSessionText : List ℕ → Type 0
IsSessionText bytes = IsSessionTextBehind [] bytes

-- Standard error got the text of the status, or where its count of faults rose a prefix of it. Out of memory, it got the text that
-- says so, or the beginning of some status' text and not all of it: the one that was being written.
abbrev pub ToldErr : {E : Type 0} (written : E → Option (List ℕ)) (faults : E → ℕ) (before now : E) → Status → Type 0
ToldErr written faults before now (Memory memory) = Appended written faults before now (err_text (Memory memory)) ⊎ ((status : Status) × CutShort written faults before now (err_text status))
ToldErr written faults before now status = AppendedPart written faults before now (err_text status)
    × (Appended written faults before now (err_text status) ⊎ Rose (faults before) (faults now))
