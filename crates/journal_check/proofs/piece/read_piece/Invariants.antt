use Rattle.std.proofs.Common.{◌≡◌, ◌≤◌, length}
use Rattle.journal_check.specs.inside.Pieces.{HasReadPiece}
use Rattle.journal_check.proofs.piece.read_piece.Given as goal

-- so many commands were read
abbrev pub invariant-loop-line : goal.invariant-loop-line
invariant-loop-line l = record {
  few : l._line ≤ l.count;
  size : length l.sent.items ≡ l._line;
  read : HasReadPiece l.session l.text l.from l.initial.lines l.sent.items l.lines l.at;
}
