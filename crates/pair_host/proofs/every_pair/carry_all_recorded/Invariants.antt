use Rattle.pair_host.specs.inside.Books.{IsRecorded}
use Rattle.pair_host.proofs.Holding.{HaveTurned}
use Rattle.pair_host.proofs.every_pair.carry_all_recorded.Given as goal

-- in the pairs so far all is made, and the others are as they were
abbrev pub invariant-loop-book : goal.invariant-loop-book
invariant-loop-book l = HaveTurned (IsRecorded l.fills) l.fn.books l.books l.book-index
