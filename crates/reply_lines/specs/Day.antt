-- What the output tells of a day so far.
use Rattle.std.specs.Prelude.{◌≡◌, List, length}
use Rattle.std.specs.List.{flat_map}
use Rattle.fx_rules.specs.declared.outcome.Entry.{Entry}
use Rattle.fx_rules.specs.Session.{Header}
use Rattle.fx_rules.specs.History.{state}
use Rattle.day_report.specs.Sums.{AreSumsOf}
use Rattle.reply_lines.specs.Desks.{AreDesksOf}
use Rattle.reply_lines.specs.Output.{entry_line}
use Rattle.reply_lines.specs.declared.day.DayText.{DayText}
use Rattle.reply_lines.specs.declared.day_notices.DayNotices.{DayNotices}
use Rattle.reply_lines.specs.declared.journal.JournalLines.{JournalLines}
use Rattle.reply_lines.specs.declared.journal.JournalText.{JournalText}

-- each sender's desk has its notices of these entries, and the sums are those of the state after them
pub record AreNoticesOf (h : Header) (entries : List Entry) (told : DayNotices) : Type 0 where
  pub desks : AreDesksOf h entries told.desks.items
  pub sums : AreSumsOf h (state h entries) told.sums

-- the journal has the number of these entries, and their lines
pub record IsJournalOf (h : Header) (entries : List Entry) (journal : JournalText) : Type 0 where
  pub count : journal.count ≡ length entries
  pub lines : journal.lines.items ≡ flat_map (entry_line h) entries

-- these are the lines of these entries, of which there are so many
pub record AreLinesOf (h : Header) (entries : List Entry) (journal : JournalLines) : Type 0 where
  pub count : journal.count ≡ length entries
  pub lines : journal.lines.now ≡ flat_map (entry_line h) entries

-- the day tells of these entries: it has their journal, and what they give notice of
pub record IsTextOf (h : Header) (entries : List Entry) (day : DayText) : Type 0 where
  pub journal : IsJournalOf h entries day.journal
  pub notices : AreNoticesOf h entries day.notices
