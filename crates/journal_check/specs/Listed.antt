-- What a text lists: the session of its header, and the commands of its journal. Where it cannot be read, the offset of the
-- line that is wrong, or the text's length where a line is missing. No line of more than 256 bytes in front of its line
-- feed is read.
use Rattle.std.specs.Prelude.{ℕ, zero, suc, ◌^◌, ◌==◌, ◌&&◌, if◌then◌else◌, List, [], ◌∷◌, ◌++◌, length, codes, bytes_eq, Option, None, option_map, ok_or, Result, Ok, Err}
use Rattle.fx_text.specs.Faults.{◌>>=◌}
use Rattle.fx_text.specs.Fields.{fields_of, field_at}
use Rattle.fx_text.specs.Lines.{line_of}
use Rattle.fx_text.specs.Number.{number_of}
use Rattle.fx_text.specs.declared.line.Line.{Line}
use Rattle.fx_text.specs.declared.line.Line.TheVariants.{Whole, Long}
use Rattle.fx_rules.specs.Session.{Header}
use Rattle.fx_rules.specs.declared.command.Sent.{Sent}
use Rattle.fx_rules.specs.Sending.{sent_of}
use Rattle.session_head.specs.Head.{Head, Begun, Started, Faulted, with_line}
use Rattle.order_lines.specs.Grammar.{journal_line}
use Rattle.journal_check.specs.Lines.{LineAt, behind, is_long, lines_from}
use Rattle.journal_check.specs.declared.header.Headed.{Headed}
use Rattle.journal_check.specs.declared.journal.Counted.{Counted}

-- The header

-- a line of a header, which is `head` with it. Where the header goes on, the lines behind it decide
abbrev pub headed : LineAt → Head → Result Headed ℕ → Result Headed ℕ
headed line (Started lines header) on = Ok (record { session = header; next = behind line })
headed line (Faulted number reason) on = Err line.at
headed line _ on = on

-- the session that lines declare up to START, and where the line behind START begins
unfoldable pub header_among : ℕ → Head → List LineAt → Result Headed ℕ
header_among end head [] = Err end
header_among end head (line ∷ more) =
    if is_long line then Err line.at
    else headed line (with_line head (line_of line.part)) (header_among end (with_line head (line_of line.part)) more)

-- The journal

-- the most entries of a history whose output can be checked
abbrev pub most_entries : ℕ
most_entries = 2 ^ 28

-- the number of entries that a line `JOURNAL n` tells: it has these two fields
abbrev pub count_told : Line → Option ℕ
count_told (Whole text) = let fields = fields_of text in
    if (length fields == 2) && bytes_eq (field_at fields 0) (codes "JOURNAL") then number_of 0 most_entries (field_at fields 1) else None
count_told (Long first) = None

-- how many entries the first of lines tells, and where the journal's first entry begins
unfoldable pub count_among : ℕ → List LineAt → Result Counted ℕ
count_among end [] = Err end
count_among end (line ∷ more) = if is_long line then Err line.at else do
  entries ← ok_or (count_told (line_of line.part)) line.at
  Ok (record { entries = entries; next = behind line })

-- what a line of a journal says: a bank, and its command
abbrev pub sent_on : Header → LineAt → Result Sent ℕ
sent_on h line = if is_long line then Err line.at else ok_or (option_map sent_of (journal_line h (line_of line.part))) line.at

-- the commands of so many lines, behind those before them
unfoldable pub commands_among : Header → ℕ → List Sent → ℕ → List LineAt → Result (List Sent) ℕ
commands_among h end before zero lines = Ok before
commands_among h end before (suc count) [] = Err end
commands_among h end before (suc count) (line ∷ more) = sent_on h line >>= (λ sent. commands_among h end (before ++ sent ∷ []) count more)

-- The text

-- a session and commands
pub record Listed : Type 0 where
  pub session : Header
  pub commands : List Sent

-- what a text lists: the header up to START, behind it the line that tells how many entries there are, and behind that their lines
unfoldable pub listed : List ℕ → Result Listed ℕ
listed text = do
  header ← header_among (length text) (Begun 0) (lines_from text 0)
  count ← count_among (length text) (lines_from text header.next)
  commands ← commands_among header.session (length text) [] count.entries (lines_from text count.next)
  Ok (record { session = header.session; commands = commands })
