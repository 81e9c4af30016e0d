-- What the bytes of a session's text say: its header's session, the commands behind START in the order of their lines, the
-- strays, and whether the text is whole.
use Rattle.std.specs.Prelude.{ℕ, ◌≡◌, ◌+◌, Bool, true, false, IsTrue, if◌then◌else◌, List, [], ◌∷◌, map, Some, is_some}
use Rattle.fx_rules.specs.Session.{Header}
use Rattle.fx_text.specs.declared.line.Line.{Line}
use Rattle.fx_text.specs.Lines.{lines_of, rest_of, is_end_rest}
use Rattle.session_head.specs.Head as heads
use Rattle.session_head.specs.Head.{Head, read_head, with_line, session_of}
use Rattle.session_head.specs.declared.reason.HeadReason.{HeadReason}
use Rattle.order_lines.specs.Grammar.{command_line}
use Rattle.order_lines.specs.declared.spoken.Spoken.{Spoken}
use Rattle.order_lines.specs.declared.spoken.Spoken.TheVariants.{Of, Stray, End}
use Rattle.fx_rules.specs.declared.command.Sent.{Sent}

-- Lines

-- the lines behind the one that starts the session, where those before them are a header's so far
abbrev pub lines_behind : Head → List Line → List Line
lines_behind head [] = []
lines_behind head (line ∷ lines) = if is_some (session_of (with_line head line)) then lines else lines_behind (with_line head line) lines

-- what is said up to END, without it; nothing behind it is looked at
abbrev pub up_to_end : List Spoken → List Spoken
up_to_end [] = []
up_to_end (End ∷ more) = []
up_to_end (said ∷ more) = said ∷ up_to_end more

-- whether END is said
abbrev pub has_end : List Spoken → Bool
has_end [] = false
has_end (End ∷ more) = true
has_end (said ∷ more) = has_end more

-- the commands with their senders, in order
abbrev pub sent_among : List Spoken → List Sent
sent_among [] = []
sent_among (Of bank command ∷ more) = record { bank = bank; command = command } ∷ sent_among more
sent_among (said ∷ more) = sent_among more

-- how many strays there are
abbrev pub strays_in : List Spoken → ℕ
strays_in [] = 0
strays_in (Stray ∷ more) = strays_in more + 1
strays_in (said ∷ more) = strays_in more

-- what each of some lines says behind START, in the session of their header
abbrev pub spoken_of : Header → List Line → List Spoken
spoken_of h lines = map (command_line h) (lines_behind (heads.Begun 0) lines)

-- Texts

-- what each line of a text says behind START
unfoldable pub spoken_in : Header → List ℕ → List Spoken
spoken_in h text = spoken_of h (lines_of text)

-- the text has a header with START, and this is its session
unfoldable pub HasSession : List ℕ → Header → Type 0
HasSession text h = session_of (read_head (lines_of text)) ≡ Some h

-- this line of the text is its header's first fault, for this reason
unfoldable pub HasFault : List ℕ → ℕ → HeadReason → Type 0
HasFault text line reason = read_head (lines_of text) ≡ heads.Faulted line reason

-- the commands of a text in the order of their lines, and its strays, up to the END line
unfoldable pub sent_in : Header → List ℕ → List Sent
sent_in h text = sent_among (up_to_end (spoken_in h text))

unfoldable pub strays_of : Header → List ℕ → ℕ
strays_of h text = strays_in (up_to_end (spoken_in h text))

-- the END line is among the text's lines
abbrev pub HasEnd : List ℕ → Type 0
HasEnd text = (h : Header) × HasSession text h × IsTrue (has_end (spoken_in h text))

-- what follows the last line feed of the text is its END line, if the text ends there
abbrev pub EndsWithEnd : List ℕ → Type 0
EndsWithEnd text = (h : Header) × HasSession text h × IsTrue (is_end_rest (rest_of text))
