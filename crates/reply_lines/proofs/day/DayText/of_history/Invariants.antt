use Rattle.std.proofs.Common.{take}
use Rattle.reply_lines.specs.Day.{IsTextOf}
use Rattle.reply_lines.proofs.day.DayText.of_history.Given as goal

-- the day tells of the entries so far
abbrev pub invariant-loop-entry : goal.invariant-loop-entry
invariant-loop-entry l = IsTextOf l.session (take l.entry-index l.entries) l.day
