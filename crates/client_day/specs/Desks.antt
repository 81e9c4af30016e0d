-- The clients' desks, as they are gathered.
use Rattle.std.specs.Prelude.{◌+◌, List, [], ◌∷◌, ◌++◌}
use Rattle.fx_rules.specs.Session.{Header}
use Rattle.reply_lines.specs.Desks.{DeskSoFar, desk_with}
use Rattle.client_day.specs.Notes.{Note, note_line}

-- a desk with one note more
abbrev pub with_note : Header → DeskSoFar → Note → DeskSoFar
with_note h desk note = desk_with (desk.count + 1) (desk.lines ++ note_line h (desk.count + 1) note)

-- and with some, in order
abbrev pub with_notes : Header → DeskSoFar → List Note → DeskSoFar
with_notes h desk [] = desk
with_notes h desk (note ∷ more) = with_notes h (with_note h desk note) more
