-- What the lines of a text have come to, as they are taken one after another.
use Rattle.std.specs.Prelude.{ℕ, ◌≡◌, ◌-◌, ◌^◌, min, Bool, List, [], ◌++◌, Option, Some, None}
use Rattle.fx_rules.specs.Lists.{Each}
use Rattle.fx_rules.specs.Session.{Header}
use Rattle.fx_text.specs.declared.line.Line.{Line}
use Rattle.session_head.specs.Head as heads
use Rattle.session_head.specs.Head.{read_head, session_of}
use Rattle.session_script.specs.Script.{spoken_of, up_to_end, has_end, sent_among, strays_in}
use Rattle.fx_rules.specs.Sending.{IsSentOf}
use Rattle.fx_rules.specs.declared.command.Sent.{Sent}
use Rattle.session_script.specs.Heard.{heard_of, IsHeardOf}
use Rattle.session_script.specs.Heard.{Heard}
use Rattle.session_script.specs.Journal.{sent_lines}
use Rattle.session_script.specs.declared.script.Keeps.{Keeps}
use Rattle.session_script.specs.declared.script.Keeps.TheVariants.{Journal, Strays}
use Rattle.session_script.specs.declared.script.Script.{Script}
use Rattle.session_script.specs.declared.intake.stage.Stage.{Stage}
use Rattle.session_script.specs.declared.intake.stage.Stage.TheVariants.{Heading, Commanding, Faulted}

-- a count of strays stands still at the largest number of 64 bits
abbrev pub most_strays : ℕ
most_strays = 2 ^ 64 - 1

-- the lines have a header with START, and behind it, up to END, these commands and so many strays
pub record Tells (lines : List Line) (h : Header) (sent : List Sent) (strays : ℕ) (ended : Bool) : Type 0 where
  pub session : session_of (read_head lines) ≡ Some h
  pub commands : sent ≡ sent_among (up_to_end (spoken_of h lines))
  pub count : strays ≡ min (strays_in (up_to_end (spoken_of h lines))) most_strays
  pub end : ended ≡ has_end (spoken_of h lines)
  pub valid : Each (IsSentOf h) sent

-- What a reading gave in former rounds: the commands; what it keeps, and where that is the strays, the commands and the strays too.
pub record Past : Type 0 where
  pub sent : List Sent
  pub keeps : Keeps
  pub heard : List Heard

-- nothing yet
abbrev pub no_past : Keeps → Past
no_past keeps = record { sent = []; keeps = keeps; heard = [] }

-- the session of a text whose START was read, the commands of the last round, and the strays so far
abbrev pub session_at : Stage → Option Header
session_at (Heading reader keeps) = None
session_at (Commanding script ended) = Some script.session
session_at (Faulted line reason) = None

abbrev pub sent_at : Stage → List Sent
sent_at (Heading reader keeps) = []
sent_at (Commanding script ended) = script.sent.items
sent_at (Faulted line reason) = []

abbrev pub strays_at : Stage → ℕ
strays_at (Heading reader keeps) = 0
strays_at (Commanding script ended) = script.strays
strays_at (Faulted line reason) = 0

-- the journal of all rounds, where it is kept
abbrev pub journal_at : Stage → List ℕ
journal_at (Heading reader keeps) = []
journal_at (Commanding script ended) = script.journal.items
journal_at (Faulted line reason) = []

-- the commands and the strays of the last round, where strays are kept
abbrev pub heard_at : Stage → List Heard
heard_at (Heading reader keeps) = []
heard_at (Commanding script ended) = script.heard
heard_at (Faulted line reason) = []

-- a script keeps what the past does: the journal has the lines of all commands, or behind the past is heard what there is to hear
-- of these lines
pub record Hears (lines : List Line) (former : Past) (script : Script) : Type 0 where
  pub keeps : script.keeps ≡ former.keeps
  pub journal : former.keeps ≡ Journal → script.journal.items ≡ sent_lines script.session (former.sent ++ script.sent.items)
  pub heard : former.keeps ≡ Strays → former.heard ++ script.heard ≡ heard_of script.session lines
  pub valid : former.keeps ≡ Strays → Each (IsHeardOf script.session) (former.heard ++ script.heard)

-- these lines lead to the stage, where this was given in former rounds
abbrev pub StandsAt : Stage → List Line → Past → Type 0
StandsAt (Heading reader keeps) lines former = (reader ≡ read_head lines) × (former ≡ no_past keeps)
StandsAt (Commanding script ended) lines former = Tells lines script.session (former.sent ++ script.sent.items) script.strays ended × Hears lines former script
StandsAt (Faulted line reason) lines former = read_head lines ≡ heads.Faulted line reason
