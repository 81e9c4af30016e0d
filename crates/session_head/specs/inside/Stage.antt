-- The header that a reader stands at.
use Rattle.std.specs.Prelude.{ℕ, ◌≡◌, Bool, true, false, Result, Ok, Err}
use Rattle.fx_text.specs.declared.line.Line.{Line}
use Rattle.session_head.specs.Head.{Head, first_line, further_line, answer_to}
use Rattle.session_head.specs.Head as heads
use Rattle.session_head.specs.declared.reason.HeadStep.{HeadStep}
use Rattle.session_head.specs.declared.reason.HeadStop.{HeadStop}
use Rattle.session_head.specs.declared.reason.HeadStop.TheVariants.{Fault, Memory}
use Rattle.session_head.specs.declared.reader.Stage.{Stage}
use Rattle.session_head.specs.declared.reader.Stage.TheVariants as stages

-- the header of a reader that has read so many lines
abbrev pub head_of : ℕ → Stage → Head
head_of lines stages.Begun = heads.Begun lines
head_of lines (stages.Drafting draft) = heads.Drafting lines draft
head_of lines (stages.Started header) = heads.Started lines header
head_of lines (stages.Faulted line reason) = heads.Faulted line reason

-- whether further lines can change the header
abbrev pub is_open : Stage → Bool
is_open stages.Begun = true
is_open (stages.Drafting draft) = true
is_open (stages.Started header) = false
is_open (stages.Faulted line reason) = false

-- the header with the line of that number, which is not ignored
abbrev pub taken : ℕ → Stage → Line → Head
taken number stages.Begun line = first_line number line
taken number (stages.Drafting draft) line = further_line number draft line
taken number (stages.Started header) line = heads.Started number header
taken number (stages.Faulted fault reason) line = heads.Faulted fault reason

-- a line was taken, with this answer: the header is at the new stage, or the line has the fault, or memory ran out
abbrev pub IsTaken : ℕ → Result HeadStep HeadStop → Stage → Head → Type 0
IsTaken number (Ok step) stage head = (head_of number stage ≡ head) × (answer_to head ≡ Ok step)
IsTaken number (Err (Fault line reason)) stage head = (head ≡ heads.Faulted line reason) × (line ≡ number)
IsTaken number (Err (Memory memory)) stage head = Unit {0}
