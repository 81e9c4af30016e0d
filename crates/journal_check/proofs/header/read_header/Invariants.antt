use Rattle.std.proofs.Common.{◌≡◌, ◌≤◌, ◌-◌, length}
use Rattle.session_head.specs.Head.{Begun, IsStarted}
use Rattle.journal_check.specs.Lines.{lines_from}
use Rattle.journal_check.specs.Listed.{header_among}
use Rattle.journal_check.proofs.header.read_header.Given as goal

abbrev pub invariant-loop-read : goal.invariant-loop-read
invariant-loop-read l = record {
  within : l.at ≤ length l.text;
  not_yet : ¬ (IsStarted l.reader);
  reads : header_among (length l.text) (Begun 0) (lines_from l.text 0) ≡ header_among (length l.text) l.reader (lines_from l.text l.at);
}

abbrev pub decreases-loop-read : goal.decreases-loop-read
decreases-loop-read l = length l.text - l.at
