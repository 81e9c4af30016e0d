-- The output of a history: header, journal, desks, local books, report, strays, ending.
use Rattle.std.specs.Prelude.{ℕ, ◌≡◌, List, [], ◌∷◌, ◌++◌, length, codes}
use Rattle.std.specs.List.{flat_map}
use Rattle.fx_amounts.specs.Numeral.{numeral}
use Rattle.fx_rules.specs.declared.outcome.Entry.{Entry}
use Rattle.fx_rules.specs.Session.{Header, senders}
use Rattle.fx_rules.specs.History.{state}
use Rattle.session_head.specs.HeadText.{head_text_of}
use Rattle.order_lines.specs.Spelling.{command_text_of}
use Rattle.reply_lines.specs.Rows.{row}
use Rattle.reply_lines.specs.Notices.{desk_text}
use Rattle.reply_lines.specs.Books.{LocalBook, AreBooks, books_text}
use Rattle.reply_lines.specs.Report.{report_text}
use Rattle.reply_lines.specs.declared.output.Ending.{Ending}
use Rattle.reply_lines.specs.declared.output.Ending.TheVariants.{End, Cut, Read, Much}

-- the line of an entry in the journal
abbrev pub entry_line : Header → Entry → List ℕ
entry_line h entry = command_text_of h entry.bank entry.command ++ 10 ∷ []

-- how many entries there are, and these
unfoldable pub journal_text : Header → List Entry → List ℕ
journal_text h entries = row (codes "JOURNAL") (numeral (length entries) ∷ []) ++ flat_map (entry_line h) entries

-- the desks of all senders: those of the banks in header order, and in version 2 then the operator's
unfoldable pub desks_text : Header → List Entry → List ℕ
desks_text h entries = flat_map (desk_text h entries) (senders h)

-- all but the last lines, which a history has no part in: header, journal, desks, the local books at the end, and the report
unfoldable pub day_text : Header → List Entry → (ℕ → ℕ → LocalBook) → List ℕ
day_text h entries books =
    head_text_of h ++ (journal_text h entries ++ (desks_text h entries ++ (books_text h books ++ report_text h (state h entries))))

unfoldable pub strays_line : ℕ → List ℕ
strays_line strays = row (codes "STRAYS") (numeral strays ∷ [])

-- the word of an ending
unfoldable pub ending_line : Ending → List ℕ
ending_line End = codes "END\n"
ending_line Cut = codes "CUT\n"
ending_line Read = codes "READ\n"
ending_line Much = codes "MUCH\n"

-- the last lines
unfoldable pub last_text : ℕ → Ending → List ℕ
last_text strays ending = strays_line strays ++ ending_line ending

-- A text is the output of a history: the day up to the report, and the last lines.
pub record IsOutput (h : Header) (entries : List Entry) (strays : ℕ) (ending : Ending) (text : List ℕ) : Type 0 where
  pub books : ℕ → ℕ → LocalBook
  pub at_the_end : AreBooks h (state h entries) books
  pub exactly : text ≡ day_text h entries books ++ last_text strays ending

-- A text is all but the last lines of a history's output.
pub record IsDayText (h : Header) (entries : List Entry) (text : List ℕ) : Type 0 where
  pub books : ℕ → ℕ → LocalBook
  pub at_the_end : AreBooks h (state h entries) books
  pub exactly : text ≡ day_text h entries books

-- A text is what the output of a history has from its line `BOOKS` on: the local books at the end, the report, and the last
-- lines.
pub record IsRestOfOutput (h : Header) (entries : List Entry) (strays : ℕ) (ending : Ending) (text : List ℕ) : Type 0 where
  pub books : ℕ → ℕ → LocalBook
  pub at_the_end : AreBooks h (state h entries) books
  pub exactly : text ≡ (books_text h books ++ report_text h (state h entries)) ++ last_text strays ending
