use Rattle.std.proofs.Common.{◌≡◌, take}
use Rattle.watched_run.proofs.publishing.publish_piece.Given as goal

-- the entries so far are appended, and nothing else changed
abbrev pub invariant-loop-entry : goal.invariant-loop-entry
invariant-loop-entry g l = l.feed ≡ record l.fn.feed { pending = take l.entry-index l.piece }
