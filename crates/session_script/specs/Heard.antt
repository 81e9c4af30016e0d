-- The lines behind START as a run hears them that knows more kinds of lines: the commands, and the lines that are strays without those kinds.
use Rattle.std.specs.Prelude.{ℕ, List, [], ◌∷◌, ◌++◌}
use Rattle.fx_rules.specs.declared.command.Sent.{Sent}
use Rattle.fx_rules.specs.Session.{Header}
use Rattle.fx_rules.specs.Sending.{IsSentOf}
use Rattle.fx_text.specs.declared.line.Line.{Line}
use Rattle.fx_text.specs.Lines.{line_seen, lines_of}
use Rattle.session_head.specs.Head as heads
use Rattle.order_lines.specs.Grammar.{command_line}
use Rattle.order_lines.specs.declared.spoken.Spoken.{Spoken}
use Rattle.order_lines.specs.declared.spoken.Spoken.TheVariants as says
use Rattle.session_script.specs.Script.{lines_behind}
use Rattle.session_script.specs.declared.heard.HeardView.{HeardView}
use Rattle.session_script.specs.declared.heard.HeardView.TheVariants as views

-- a command of a bank, or a line that is a stray without those kinds
pub data Heard : Type 0 where
  Command : Sent → Heard
  Stray : Line → Heard

-- what is held somewhere
abbrev pub heard_seen : HeardView → Heard
heard_seen (views.Command sent) = Command sent
heard_seen (views.Stray line) = Stray (line_seen line)

-- a command that is heard may be sent
abbrev pub IsHeardOf : Header → Heard → Type 0
IsHeardOf h (Command sent) = IsSentOf h sent
IsHeardOf h (Stray line) = Unit {0}

-- what is heard of a line that says this
abbrev pub heard_as : Line → Spoken → List Heard
heard_as line (says.Of bank command) = Command (record { bank = bank; command = command }) ∷ []
heard_as line says.Stray = Stray line ∷ []
heard_as line says.End = []
heard_as line says.Passed = []

-- and of those behind it: nothing behind the END line
abbrev pub heard_then : Line → Spoken → List Heard → List Heard
heard_then line says.End more = []
heard_then line said more = heard_as line said ++ more

-- what is heard of some lines behind START
abbrev pub heard_among : Header → List Line → List Heard
heard_among h [] = []
heard_among h (line ∷ lines) = heard_then line (command_line h line) (heard_among h lines)

-- of those behind the START of their header
abbrev pub heard_of : Header → List Line → List Heard
heard_of h lines = heard_among h (lines_behind (heads.Begun 0) lines)

-- of a text, in the order of its lines, up to the END line
unfoldable pub heard_in : Header → List ℕ → List Heard
heard_in h text = heard_of h (lines_of text)
