-- What a reading of a text answers.
use Rattle.std.specs.Prelude.{ℕ, suc, ◌≡◌, ◌≤◌, ◌<◌, ◌+◌, Bool, true, if◌then◌else◌, List, [], ◌∷◌, ◌++◌, drop, length, map, take, Option, Some, None, Result, Ok, Err}
use Rattle.std.specs.List.{flat_map}
use Rattle.fx_text.specs.Lines.{line_of, line_seen}
use Rattle.fx_rules.specs.Session.{Header}
use Rattle.fx_rules.specs.declared.command.Sent.{Sent}
use Rattle.fx_rules.specs.declared.outcome.Entry.{Entry}
use Rattle.fx_rules.specs.Sending.{sent_by}
use Rattle.order_lines.specs.Spelling.{command_text_of}
use Rattle.pair_host.specs.Standing.{stands}
use Rattle.market_run.specs.Running.{HasServed}
use Rattle.reply_lines.specs.Day.{AreNoticesOf}
use Rattle.reply_lines.specs.Output.{IsDayText, entry_line}
use Rattle.journal_check.specs.Lines.{lines_from}
use Rattle.journal_check.specs.Compared.{beginning}
use Rattle.journal_check.specs.Verdict.{yes, IsVerdict}
use Rattle.journal_check.specs.Reading.{IsReadOf}
use Rattle.journal_check.specs.declared.judging.Judged.{Judged}
use Rattle.journal_check.specs.declared.kept.Kept.{Kept}
use Rattle.journal_check.specs.declared.lines.ReadLines.{ReadLines}
use Rattle.journal_check.specs.declared.journal.ReadSent.{ReadSent}
use Rattle.journal_check.specs.declared.journal.ServedJournal.{ServedJournal}
use Rattle.journal_check.specs.Listed.{commands_among}
use Rattle.journal_check.specs.declared.check.Verdict.TheVariants.{No}
use Rattle.journal_check.specs.declared.line.ReadLine.{ReadLine}
use Rattle.journal_check.specs.declared.stop.Stop.{Stop}
use Rattle.journal_check.specs.declared.stop.Stop.TheVariants.{Wrong, Memory}

-- unless memory ran out, the answer is what is there
abbrev pub Answers : {A : Type 0} → Result A Stop → Result A ℕ → Type 0
Answers (Ok found) there = there ≡ Ok found
Answers (Err (Wrong offset)) there = there ≡ Err offset
Answers (Err (Memory memory)) there = Unit {0}

-- the line of a text at an offset, and the lines behind it
pub record IsLineAt (text : List ℕ) (at : ℕ) (line : List ℕ) : Type 0 where
  pub within : at + length line + 1 ≤ length text
  pub lines : lines_from text at ≡ record { at = at; part = line } ∷ lines_from text (at + length line + 1)

-- the line of a text at an offset is not long and reads as this one
pub record IsReadAt (text : List ℕ) (at : ℕ) (read : ReadLine) : Type 0 where
  pub part : List ℕ
  pub there : IsLineAt text at part
  pub short : length part ≤ 256
  pub line_is : line_seen read.line ≡ line_of part
  pub next_is : read.next ≡ at + length part + 1

-- no line of a text can be read at an offset: there is none, or a long one
pub data IsStopAt (text : List ℕ) (at offset : ℕ) : Type 0 where
  Missing : lines_from text at ≡ [] → offset ≡ length text → IsStopAt text at offset
  TooLong : (part : List ℕ) → IsLineAt text at part → 256 < length part → offset ≡ at → IsStopAt text at offset

-- the answer of a reading of one line, which takes no memory
abbrev pub ReadsLine : List ℕ → ℕ → Result ReadLine Stop → Type 0
ReadsLine text at (Ok read) = IsReadAt text at read
ReadsLine text at (Err (Wrong offset)) = IsStopAt text at offset
ReadsLine text at (Err (Memory memory)) = ⊥

-- what is kept of entries: all of them, or none
pub record IsKept (whole : Bool) (entries : List Entry) (kept : Kept) : Type 0 where
  pub same : kept.whole ≡ whole
  pub items : kept.entries.items ≡ (if whole then entries else [])

-- the line of a command, with its line feed, in its one spelling
abbrev pub sent_line : Header → Sent → List ℕ
sent_line h sent = command_text_of h sent.bank sent.command ++ 10 ∷ []

-- where a line was read as the one spelling of its command, it is that
abbrev pub IsSpelling : Header → ReadSent → Type 0
IsSpelling h read = read.spelled ≡ true → read.line.now ≡ sent_line h read.sent

-- the line stands in a text behind so many bytes
pub record StandsIn (text : List ℕ) (at : ℕ) (read : ReadSent) : Type 0 where
  pub within : at + length read.line.now ≤ length text
  pub same : read.line.now ≡ take (length read.line.now) (drop at text)

-- where the line behind begins
abbrev pub next_of : ℕ → ReadSent → ℕ
next_of at read = at + length read.line.now

-- the line of a journal at an offset says this command, and the lines behind it follow
pub record SaysAt (h : Header) (text : List ℕ) (at : ℕ) (read : ReadSent) : Type 0 where
  pub there : StandsIn text at read
  pub goes_on : (before : List Sent) (count : ℕ) → commands_among h (length text) before (suc count) (lines_from text at)
      ≡ commands_among h (length text) (before ++ read.sent ∷ []) count (lines_from text (next_of at read))
  pub spelled : IsSpelling h read

-- the answer of a reading of one command, which takes no memory
abbrev pub ReadsSent : Header → List ℕ → ℕ → Result ReadSent Stop → Type 0
ReadsSent h text at (Ok read) = SaysAt h text at read
ReadsSent h text at (Err (Wrong offset)) = (before : List Sent) (count : ℕ) → commands_among h (length text) before (suc count) (lines_from text at) ≡ Err offset
ReadsSent h text at (Err (Memory memory)) = ⊥

-- the lines that were read of a journal, each in its one spelling
abbrev pub lines_of : ReadLines → List ℕ
lines_of lines = if lines.is_made then lines.made.items else take lines.len lines.rest.now

-- the lines of these entries were read
pub record HaveReadLines (h : Header) (entries : List Entry) (lines : ReadLines) : Type 0 where
  pub within : lines.len ≤ length lines.rest.now
  pub are : lines_of lines ≡ flat_map (entry_line h) entries

-- the commands of a history were served, and the lines are those of its entries, of which there are so many
pub record HasServedJournal (h : Header) (entries : List Entry) (served : ServedJournal) : Type 0 where
  pub run : HasServed stands AreNoticesOf h entries served.run
  pub count : served.count ≡ length entries
  pub lines : HaveReadLines h entries served.lines

-- a history of these commands was served, whose entries are kept, all or none
pub record IsRunOf (h : Header) (there : Result (List Sent) ℕ) (whole : Bool) (kept : Kept) (served : ServedJournal) : Type 0 where
  pub entries : List Entry
  pub has_served : HasServedJournal h entries served
  pub in_order : there ≡ Ok (map sent_by entries)
  pub is_kept : IsKept whole entries kept

-- the answer of a reading of commands that serves them
abbrev pub ReadsEntries : Header → Bool → Kept → Result ServedJournal Stop → Result (List Sent) ℕ → Type 0
ReadsEntries h whole kept (Ok served) there = IsRunOf h there whole kept served
ReadsEntries h whole kept (Err (Wrong offset)) there = there ≡ Err offset
ReadsEntries h whole kept (Err (Memory memory)) there = Unit {0}

-- a text was compared with the output of a history, up to its last lines
pub record IsComparedWith (h : Header) (entries : List Entry) (text : List ℕ) (result : Result ℕ Stop) : Type 0 where
  pub day : List ℕ
  pub is_day : IsDayText h entries day
  pub compared : Answers result (beginning 0 day text)

-- where a comparison came to
abbrev pub end_of : ℕ → Option ℕ → Result ℕ Stop
end_of at None = Ok at
end_of at (Some byte) = Err (Wrong at)

-- A text was judged: where it is an output whose entries were to be kept, its session and its history are there.
pub record IsJudgedAs (text : List ℕ) (whole : Bool) (judged : Judged) : Type 0 where
  pub is_verdict : IsVerdict text judged.verdict
  pub read : whole ≡ true → judged.verdict ≡ yes → IsReadOf text judged.session judged.entries.items

-- the answer of a judgement
abbrev pub Judges : List ℕ → Bool → Result Judged Stop → Type 0
Judges text whole (Ok judged) = IsJudgedAs text whole judged
Judges text whole (Err (Wrong offset)) = IsVerdict text (No offset)
Judges text whole (Err (Memory memory)) = Unit {0}
