use Rattle.std.proofs.Common.{take}
use Rattle.global_book.specs.inside.Linked.{AreLinked}
use Rattle.global_book.proofs.linked.ladders_for.Given as goal

-- the ladders are those of the orders so far
abbrev pub invariant-loop-place : goal.invariant-loop-place
invariant-loop-place l = AreLinked (take l.place l.list.slots) l.ladders
