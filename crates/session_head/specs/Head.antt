-- A header as its lines are read, one after another.
use Rattle.std.specs.Prelude.{ℕ, ◌+◌, ◌-◌, ◌^◌, min, if◌then◌else◌, List, [], ◌∷◌, Option, Some, None, Result, Ok, Err}
use Rattle.fx_rules.specs.Session.{Header}
use Rattle.fx_text.specs.Fields.{fields_of}
use Rattle.fx_text.specs.Lines.{is_passed_over}
use Rattle.fx_text.specs.declared.line.Line.{Line}
use Rattle.fx_text.specs.declared.line.Line.TheVariants.{Whole, Long}
use Rattle.session_head.specs.Draft.{Draft, empty_draft, header_of}
use Rattle.session_head.specs.Statement.{version_of, statement_of, with_statement}
use Rattle.session_head.specs.declared.reason.HeadReason.{HeadReason}
use Rattle.session_head.specs.declared.reason.HeadReason.TheVariants as reasons
use Rattle.session_head.specs.declared.reason.HeadStep.{HeadStep}
use Rattle.session_head.specs.declared.reason.HeadStep.TheVariants.{More, Start}
use Rattle.session_head.specs.declared.reason.HeadStop.{HeadStop}
use Rattle.session_head.specs.declared.reason.HeadStop.TheVariants.{Fault, Memory}
use Rattle.session_head.specs.declared.statement.Statement.{Statement}
use Rattle.session_head.specs.declared.statement.Statement.TheVariants as statements

-- what some lines are as a header. `lines` counts them, those that are ignored included; once a header has started or has
-- a fault, it is the number of the line that did it, and further lines change nothing
pub data Head : Type 0 where
  -- all were ignored
  Begun : (lines : ℕ) → Head
  -- the first was the version's, and START has not come
  Drafting : (lines : ℕ) (draft : Draft) → Head
  Started : (lines : ℕ) (header : Header) → Head
  Faulted : (line : ℕ) (reason : HeadReason) → Head

-- the number of the line behind so many. It stands still at the largest number of 64 bits
abbrev pub next : ℕ → ℕ
next lines = min (lines + 1) (2 ^ 64 - 1)

-- a statement, or a fault, in the line of that number
abbrev pub judged : ℕ → Draft → Result Statement HeadReason → Head
judged number draft (Ok statements.Start) = Started number (header_of draft)
judged number draft (Ok statement) = Drafting number (with_statement draft statement)
judged number draft (Err reason) = Faulted number reason

-- the header begins with a version, or with a line that names none
abbrev pub begun : ℕ → Option ℕ → Head
begun number (Some version) = Drafting number (empty_draft version)
begun number None = Faulted number reasons.Version

-- the first line that is not ignored
abbrev pub first_line : ℕ → Line → Head
first_line number (Whole text) = begun number (version_of (fields_of text))
first_line number (Long field) = Faulted number reasons.Long

-- a further line that is not ignored
abbrev pub further_line : ℕ → Draft → Line → Head
further_line number draft (Whole text) = judged number draft (statement_of draft (fields_of text))
further_line number draft (Long field) = Faulted number reasons.Long

-- one line more
abbrev pub with_line : Head → Line → Head
with_line (Begun lines) line = if is_passed_over line then Begun (next lines) else first_line (next lines) line
with_line (Drafting lines draft) line = if is_passed_over line then Drafting (next lines) draft else further_line (next lines) draft line
with_line (Started lines header) line = Started lines header
with_line (Faulted number reason) line = Faulted number reason

abbrev pub with_lines : Head → List Line → Head
with_lines head [] = head
with_lines head (line ∷ lines) = with_lines (with_line head line) lines

-- what the lines of a text are as a header, the first of them first
abbrev pub read_head : List Line → Head
read_head lines = with_lines (Begun 0) lines

-- what is answered to the last of some lines
abbrev pub answer_to : Head → Result HeadStep HeadStop
answer_to (Begun lines) = Ok More
answer_to (Drafting lines draft) = Ok More
answer_to (Started lines header) = Ok Start
answer_to (Faulted number reason) = Err (Fault number reason)

-- a fact that holds of every answer but `Memory`
abbrev pub UnlessMemory : Result HeadStep HeadStop → Type 0 → Type 0
UnlessMemory (Ok step) fact = fact
UnlessMemory (Err (Fault number reason)) fact = fact
UnlessMemory (Err (Memory memory)) fact = Unit {0}

-- START was read
abbrev pub IsStarted : Head → Type 0
IsStarted (Started lines header) = Unit {0}
IsStarted _ = ⊥

-- the session's header, where START was read
abbrev pub session_of : Head → Option Header
session_of (Started lines header) = Some header
session_of _ = None
