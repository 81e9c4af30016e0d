use Rattle.std.proofs.Common.{◌+◌, ◌≤◌}
use Rattle.std.specs.Option.{option_copied}
use Rattle.global_book.specs.Book.{AreInTime, AreOwners, IsBook}
use Rattle.global_book.specs.inside.Reaching.{IsBestYet}
use Rattle.global_book.proofs.book.PairBook.best.Given as goal

-- the best of the banks that were passed
abbrev pub invariant-loop-bank : goal.invariant-loop-bank
invariant-loop-bank g l = record {
  yet : IsBestYet l.self.orders l.side l.reach l.before (option_copied l.past) l.bank-items l.bank-index l.best;
  owners : AreOwners l.self l.bank-items;
  steps : AreInTime l.side l.before l.self.orders → l.steps ≤ l.fn.steps + l.bank-index;
  valid : IsBook l.self;
}
