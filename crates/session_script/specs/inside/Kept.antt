-- What is heard as it is held: the commands, the texts of the strays one behind the other, and of each line which of these it is.
use Rattle.std.specs.Prelude.{ℕ, ◌<◌, ◌≤◌, ◌+◌, ◌-◌, List, length, slice_index_or, take, drop}
use Rattle.fx_rules.specs.declared.command.Command.TheVariants as commands
use Rattle.fx_rules.specs.declared.command.Sent.{Sent}
use Rattle.fx_text.specs.declared.line.Line.{Line}
use Rattle.fx_text.specs.declared.line.Line.TheVariants as lines
use Rattle.session_script.specs.Heard.{Heard}
use Rattle.session_script.specs.Heard.Heard.{Command as HeardCommand, Stray as HeardStray}
use Rattle.session_script.specs.declared.heard.Kept.{Kept}
use Rattle.session_script.specs.declared.heard.Kept.TheVariants.{Command, Whole, Long}

-- any command, for a place past the end
abbrev pub no_command : Sent
no_command = record { bank = 0; command = commands.Book 0 }

-- the bytes from one place to another
abbrev pub between : List ℕ → ℕ → ℕ → List ℕ
between bytes from to = take (to - from) (drop from bytes)

abbrev pub heard_in : List Sent → List ℕ → Kept → Heard
heard_in sent bytes (Command at) = HeardCommand (slice_index_or sent at no_command)
heard_in sent bytes (Whole from to) = HeardStray (lines.Whole (between bytes from to))
heard_in sent bytes (Long from to) = HeardStray (lines.Long (between bytes from to))

-- it is among so many commands, or its text among so many bytes
abbrev pub IsAmong : ℕ → ℕ → Kept → Type 0
IsAmong count size (Command at) = at < count
IsAmong count size (Whole from to) = (from ≤ to) × (to ≤ size)
IsAmong count size (Long from to) = (from ≤ to) × (to ≤ size)

-- the text of a line, and how it is held behind so many bytes
abbrev pub text_of : Line → List ℕ
text_of (lines.Whole text) = text
text_of (lines.Long field) = field

abbrev pub kept_at : ℕ → Line → Kept
kept_at from (lines.Whole text) = Whole from (from + length text)
kept_at from (lines.Long field) = Long from (from + length field)
