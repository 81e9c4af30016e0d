use Rattle.pair_host.specs.inside.Books.{IsCarried}
use Rattle.pair_host.proofs.Holding.{HaveTurned}
use Rattle.pair_host.proofs.every_pair.carry_turns.Given as goal

-- the pairs so far are carried, and the others are as they were
abbrev pub invariant-loop-book : goal.invariant-loop-book
invariant-loop-book l = HaveTurned (IsCarried l.change) l.fn.books l.books l.book-index
