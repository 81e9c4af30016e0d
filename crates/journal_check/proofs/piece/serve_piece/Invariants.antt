use Rattle.std.proofs.Common.{◌≡◌, take}
use Rattle.journal_check.specs.inside.Pieces.{HasServedPiece}
use Rattle.journal_check.proofs.piece.serve_piece.Given as goal

-- those so far were served
abbrev pub invariant-loop-next : goal.invariant-loop-next
invariant-loop-next l = record {
  whole : l.kept.whole ≡ l.fn.kept.whole;
  served : HasServedPiece l.session l.fn.kept.whole l.fn.run l.fn.kept (take l.next-index l.sent) l.run l.kept;
}
