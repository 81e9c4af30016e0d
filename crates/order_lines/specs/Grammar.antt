-- What a line after the header's START says, and what a line of a journal says.
use Rattle.std.specs.Prelude.{ℕ, ◌==◌, ◌&&◌, Bool, true, false, Option, Some, None, unwrap_or, option_map, option_and_then, Result, Ok, Err, List, length, bytes_eq, if◌then◌else◌}
use Rattle.fx_text.specs.Fields.{fields_of, field_at, first_field, is_end}
use Rattle.fx_text.specs.Lines.{is_passed_over}
use Rattle.fx_text.specs.Number.{number_of}
use Rattle.fx_text.specs.declared.line.Line.{Line}
use Rattle.fx_text.specs.declared.line.Line.TheVariants.{Whole, Long}
use Rattle.fx_rules.specs.Session.{Header}
use Rattle.fx_rules.specs.declared.command.Command.{Command}
use Rattle.fx_rules.specs.declared.command.Command.TheVariants.{Bad}
use Rattle.fx_rules.specs.declared.command.Reject.{Reject}
use Rattle.fx_rules.specs.declared.command.Reject.TheVariants as reject
use Rattle.order_lines.specs.Words.{bad_word, fault_of, last_fault, sender_named}
use Rattle.order_lines.specs.Reading.{command_said}
use Rattle.order_lines.specs.declared.spoken.Spoken.{Spoken}
use Rattle.order_lines.specs.declared.spoken.Spoken.TheVariants.{Of, Stray, End, Passed}

-- what holds of a line's sender and command, where it is a sender's
abbrev pub IfSent : Spoken → (ℕ → Command → Type 0) → Type 0
IfSent (Of sender command) P = P sender command
IfSent Stray P = Unit {0}
IfSent End P = Unit {0}
IfSent Passed P = Unit {0}

-- the command, or the bad line of the first fault
abbrev pub or_bad : Result Command Reject → Command
or_bad (Ok command) = command
or_bad (Err fault) = Bad fault

-- a line after START. One that is ignored says nothing; `END` alone ends the session; a line whose first field is a
-- sender's name is that sender's command, which is bad with its first fault; any other is a stray. A long line is bad with
-- that fault first, and is never the end.
unfoldable pub command_line : Header → Line → Spoken
command_line h (Whole text) = if is_passed_over (Whole text) then Passed else if is_end (fields_of text) then End
    else unwrap_or (option_map (λ sender. Of sender (or_bad (command_said h sender (fields_of text)))) (sender_named h (first_field text))) Stray
command_line h (Long first) = if is_passed_over (Long first) then Passed
    else unwrap_or (option_map (λ sender. Of sender (Bad reject.Long)) (sender_named h first)) Stray

-- the fault that a journal's line gives a sender: three fields, of which the second is `BAD` and the third its number
abbrev pub fault_in : Header → ℕ → List (List ℕ) → Option Reject
fault_in h sender fields =
    if length fields == 3 && bytes_eq (field_at fields 1) bad_word then option_and_then fault_of (number_of 1 (last_fault h sender) (field_at fields 2)) else None

abbrev pub bad_said : Header → ℕ → Line → Option Reject
bad_said h sender (Whole text) = fault_in h sender (fields_of text)
bad_said h sender (Long first) = None

abbrev pub is_bad : Command → Bool
is_bad (Bad fault) = true
is_bad _ = false

-- a line of a journal: as a line after START, but that a bad command stands as `sender BAD number` alone
abbrev pub recorded : Header → Line → Spoken → Option (ℕ × Command)
recorded h line (Of sender command) = if is_bad command then option_map (λ fault. (sender, Bad fault)) (bad_said h sender line) else Some (sender, command)
recorded _ _ _ = None

unfoldable pub journal_line : Header → Line → Option (ℕ × Command)
journal_line h line = recorded h line (command_line h line)
