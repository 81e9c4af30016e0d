use Rattle.std.proofs.Common.{◌≡◌, ◌≤◌, length, take}
use Rattle.journal_check.proofs.compare.agreeing_by_bytes.Given as goal

abbrev pub invariant-loop-at : goal.invariant-loop-at
invariant-loop-at l = record {
  in_text : l.at ≤ length l.text;
  same : take l.at l.text ≡ take l.at l.piece;
}
