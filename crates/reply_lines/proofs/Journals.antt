-- The journal's lines, entry by entry.
use Rattle.std.proofs.Common.{ℕ, ◌≡◌, ◌≤◌, List, [], ◌∷◌, ◌++◌, ap, ap₂, sym, ◌∙◌, arith, length, length-append}
use Rattle.std.specs.List.{flat_map}
use Rattle.fx_rules.specs.declared.outcome.Entry.{Entry}
use Rattle.fx_rules.specs.Session.{Header}
use Rattle.order_lines.specs.Spelling.{command_text_of}
use Rattle.reply_lines.specs.Day.{AreLinesOf, IsJournalOf}
use Rattle.reply_lines.specs.Output.{entry_line, journal_text}
use Rattle.reply_lines.specs.inside.Journals.{count_line}
use Rattle.reply_lines.specs.declared.journal.JournalLines.{JournalLines}
use Rattle.reply_lines.specs.declared.journal.JournalText.{JournalText}
use Rattle.reply_lines.proofs.Items.{flat_last}

-- one entry's line behind the others
pub journal-more : (h : Header) (entries : List Entry) (e : Entry) {before after : List ℕ} → before ≡ flat_map (entry_line h) entries → after ≡ before ++ entry_line h e → after ≡ flat_map (entry_line h) (entries ++ e ∷ [])
journal-more h entries e are is = is ∙ ap (λ text. text ++ entry_line h e) are ∙ sym (flat_last (entry_line h) entries e)

-- each entry has a line, and a line has its line feed at least
pub lines-counted : (h : Header) (entries : List Entry) → length entries ≤ length (flat_map (entry_line h) entries)
lines-counted h [] = omega arith
lines-counted h (e ∷ entries) =
    omega (arith, lines-counted h entries, length-append (entry_line h e) (flat_map (entry_line h) entries), length-append (command_text_of h e.bank e.command) (10 ∷ []))

-- so many lines are the journal of entries of which there are so many
pub journal-told : (h : Header) (entries : List Entry) {count : ℕ} {lines : List ℕ} → count ≡ length entries → lines ≡ flat_map (entry_line h) entries → count_line count ++ lines ≡ journal_text h entries
unfolding journal_text count_line
journal-told h entries counted are = ap₂ (λ n text. count_line n ++ text) counted are

-- the lines of a journal, where they stand
pub lines-stand : (h : Header) (entries : List Entry) (journal : JournalText) (lines : JournalLines) → IsJournalOf h entries journal → lines.count ≡ journal.count → lines.lines.now ≡ journal.lines.items → AreLinesOf h entries lines
lines-stand h entries journal lines is count same = record { count = count ∙ is.count; lines = same ∙ is.lines }
