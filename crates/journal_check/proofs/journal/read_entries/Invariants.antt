use Rattle.std.proofs.Common.{◌≡◌, ◌≤◌, [], length}
use Rattle.journal_check.specs.Lines.{lines_from}
use Rattle.journal_check.specs.Listed.{commands_among}
use Rattle.journal_check.specs.inside.Pieces.{StandsBehind}
use Rattle.journal_check.proofs.Pieces.{HasReadSome}
use Rattle.journal_check.proofs.journal.read_entries.Given as goal

abbrev pub invariant-loop-left : goal.invariant-loop-left
invariant-loop-left l = record {
  within : l.at ≤ length l.text;
  behind : StandsBehind l.text l.at l.lines;
  read : HasReadSome l.session l.text (commands_among l.session (length l.text) [] l.counted.entries (lines_from l.text l.counted.next)) l.fn.kept.whole l.kept l.run l.lines l.counted.entries l.left l.at;
  same : l.kept.whole ≡ l.fn.kept.whole;
}

-- with each piece fewer are left
abbrev pub decreases-loop-left : goal.decreases-loop-left
decreases-loop-left l = l.left
