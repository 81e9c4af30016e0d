-- A piece of a journal: commands that are read one after another, and then served.
use Rattle.std.specs.Prelude.{ℕ, ◌≡◌, ◌≤◌, ◌+◌, Bool, List, ◌++◌, drop, length, map, Result, Ok, Err}
use Rattle.std.specs.List.{flat_map}
use Rattle.fx_rules.specs.Lists.{Each}
use Rattle.fx_rules.specs.Session.{Header}
use Rattle.fx_rules.specs.declared.command.Sent.{Sent}
use Rattle.fx_rules.specs.declared.outcome.Entry.{Entry}
use Rattle.fx_rules.specs.Sending.{IsSentOf, sent_by}
use Rattle.market_run.specs.Ran.{Ran}
use Rattle.market_run.specs.Running.{HasServed}
use Rattle.pair_host.specs.Standing.{HostState, stands}
use Rattle.reply_lines.specs.Day.{AreNoticesOf}
use Rattle.reply_lines.specs.declared.day_notices.DayNotices.{DayNotices}
use Rattle.journal_check.specs.Lines.{lines_from}
use Rattle.journal_check.specs.Listed.{commands_among}
use Rattle.journal_check.specs.declared.kept.Kept.{Kept}
use Rattle.journal_check.specs.declared.lines.ReadLines.{ReadLines}
use Rattle.journal_check.specs.declared.stop.Stop.{Stop}
use Rattle.journal_check.specs.declared.stop.Stop.TheVariants.{Wrong, Memory}
use Rattle.journal_check.specs.inside.Stops.{IsKept, lines_of, sent_line}

-- what stands behind the lines that were read is what stands in a text behind so many bytes
pub record StandsBehind (text : List ℕ) (at : ℕ) (lines : ReadLines) : Type 0 where
  pub within : lines.len ≤ length lines.rest.now
  pub same : drop lines.len lines.rest.now ≡ drop at text

-- the lines of a journal between two offsets say these commands, and were added to the lines in front of them
pub record HasReadPiece (h : Header) (text : List ℕ) (from : ℕ) (was : ReadLines) (sent : List Sent) (now : ReadLines) (at : ℕ) : Type 0 where
  pub within : at ≤ length text
  pub behind : StandsBehind text at now
  pub valid : Each (IsSentOf h) sent
  pub lines : lines_of now ≡ lines_of was ++ flat_map (sent_line h) sent
  pub goes_on : (before : List Sent) (left : ℕ) → commands_among h (length text) before (length sent + left) (lines_from text from)
      ≡ commands_among h (length text) (before ++ sent) left (lines_from text at)

-- the answer of a reading of so many commands
abbrev pub ReadsPiece : Header → List ℕ → ℕ → ReadLines → ℕ → List Sent → ReadLines → Result ℕ Stop → Type 0
ReadsPiece h text from was count sent now (Ok at) = HasReadPiece h text from was sent now at × (length sent ≡ count)
ReadsPiece h text from was count sent now (Err (Wrong offset)) = (before : List Sent) (left : ℕ) → commands_among h (length text) before (count + left) (lines_from text from) ≡ Err offset
ReadsPiece h text from was count sent now (Err (Memory memory)) = Unit {0}

-- each history that was served went on by the same entries of these commands, and each that was kept, all or none
pub record HasServedPiece (h : Header) (whole : Bool) (was : Ran HostState DayNotices) (kept_was : Kept) (sent : List Sent) (now : Ran HostState DayNotices) (kept_now : Kept) : Type 0 where
  pub more : List Entry
  pub sent_is : map sent_by more ≡ sent
  pub goes_on : (entries : List Entry) → HasServed stands AreNoticesOf h entries was → HasServed stands AreNoticesOf h (entries ++ more) now
  pub keeps : (entries : List Entry) → IsKept whole entries kept_was → IsKept whole (entries ++ more) kept_now
