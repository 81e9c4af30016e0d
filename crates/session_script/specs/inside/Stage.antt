-- What private functions and proofs alone say of it, beside `specs/Stage.antt`.
use Rattle.std.specs.Prelude.{ℕ, ◌≡◌, ◌≤◌, ◌+◌, min, Bool, true, false, List, [], ◌∷◌, ◌++◌, length}
use Rattle.fx_rules.specs.Lists.{Each}
use Rattle.fx_rules.specs.Session.{Header}
use Rattle.fx_rules.specs.declared.command.Sent.{Sent}
use Rattle.fx_text.specs.declared.line.Line.{Line}
use Rattle.fx_text.specs.Lines.{lines_of, rest_of}
use Rattle.session_head.specs.Head as heads
use Rattle.session_head.specs.Head.{Head}
use Rattle.order_lines.specs.declared.spoken.Spoken.{Spoken}
use Rattle.order_lines.specs.declared.spoken.Spoken.TheVariants.{Of, Stray, End, Passed}
use Rattle.session_script.specs.Journal.{sent_lines}
use Rattle.session_script.specs.Script.{has_end, sent_among}
use Rattle.fx_rules.specs.Sending.{IsSentOf}
use Rattle.session_script.specs.declared.script.Keeps.TheVariants.{Journal, Strays}
use Rattle.session_script.specs.declared.script.Script.{Script}
use Rattle.session_script.specs.declared.intake.stage.Stage.{Stage}
use Rattle.session_script.specs.declared.intake.stage.Stage.TheVariants.{Heading, Commanding, Faulted}
use Rattle.session_script.specs.Heard.{heard_as}
use Rattle.session_script.specs.Stage.{Past, Tells, Hears, StandsAt, most_strays, sent_at, heard_at}

-- what was given before, once the stage's round is a former one
abbrev pub past_behind : Past → Stage → Past
past_behind former stage = record { sent = former.sent ++ sent_at stage; keeps = former.keeps; heard = former.heard ++ heard_at stage }

-- a count of strays, once this is said too
abbrev pub counted : ℕ → Spoken → ℕ
counted strays Stray = min (strays + 1) most_strays
counted strays (Of bank command) = strays
counted strays End = strays
counted strays Passed = strays

-- a line that says this makes a script of another
pub record Adds (old new : Script) (line : Line) (said : Spoken) (is_end : Bool) : Type 0 where
  pub session : new.session ≡ old.session
  pub sent : new.sent.items ≡ old.sent.items ++ sent_among (said ∷ [])
  pub strays : new.strays ≡ counted old.strays said
  pub ended : is_end ≡ has_end (said ∷ [])
  pub valid : Each (IsSentOf old.session) (sent_among (said ∷ []))
  pub keeps : new.keeps ≡ old.keeps
  pub journal : old.keeps ≡ Journal → new.journal.items ≡ old.journal.items ++ sent_lines old.session (sent_among (said ∷ []))
  pub heard : old.keeps ≡ Strays → new.heard ≡ old.heard ++ heard_as line said

-- but for what is kept, a script is as it was
pub record SaysAsBefore (old new : Script) : Type 0 where
  pub session : new.session ≡ old.session
  pub sent : new.sent.items ≡ old.sent.items
  pub strays : new.strays ≡ old.strays
  pub keeps : new.keeps ≡ old.keeps

-- the first lines of a text are commands in their one spelling, each of which is added; this is what stands behind them
pub record AddsLines (h : Header) (old new : List Sent) (text rest : List ℕ) : Type 0 where
  pub done : List Line
  pub lines : lines_of text ≡ done ++ lines_of rest
  pub behind : rest_of text ≡ rest_of rest
  pub shorter : length rest ≤ length text
  pub more : List Sent
  pub added : new ≡ old ++ more
  pub spelled : text ≡ sent_lines h more ++ rest
  pub tells : (lines : List Line) (former : List Sent) (strays : ℕ) → Tells lines h (former ++ old) strays false
      → Tells (lines ++ done) h (former ++ new) strays false

-- the first lines of a text make a script of another, and none of them is the END line; this is what stands behind them
pub record AddsFront (old new : Script) (text rest : List ℕ) : Type 0 where
  pub done : List Line
  pub lines : lines_of text ≡ done ++ lines_of rest
  pub behind : rest_of text ≡ rest_of rest
  pub shorter : length rest ≤ length text
  pub session : new.session ≡ old.session
  pub tells : (lines : List Line) (former : List Sent) → Tells lines old.session (former ++ old.sent.items) old.strays false
      → Tells (lines ++ done) new.session (former ++ new.sent.items) new.strays false
  pub hears : (lines : List Line) (former : Past) → Tells lines old.session (former.sent ++ old.sent.items) old.strays false → Hears lines former old → Hears (lines ++ done) former new

-- the first lines of a text were taken; this is what stands behind them
pub record TakesFront (old new : Stage) (text rest : List ℕ) : Type 0 where
  pub done : List Line
  pub lines : lines_of text ≡ done ++ lines_of rest
  pub behind : rest_of text ≡ rest_of rest
  pub shorter : length rest ≤ length text
  pub stands : (lines : List Line) (former : Past) → StandsAt old lines former → StandsAt new (lines ++ done) former

-- the header goes on: neither START nor a fault has come
abbrev pub goes_on : Head → Bool
goes_on (heads.Begun lines) = true
goes_on (heads.Drafting lines draft) = true
goes_on (heads.Started lines header) = false
goes_on (heads.Faulted line reason) = false

-- a reader that is kept can read on
abbrev pub is_open : Stage → Bool
is_open (Heading reader keeps) = goes_on reader
is_open (Commanding script ended) = true
is_open (Faulted line reason) = true
