use Rattle.std.proofs.Common.{◌+◌, ◌<◌, ◌≤◌}
use Rattle.std.specs.Option.{IfSome, option_copied}
use Rattle.global_book.specs.Book.{AreInTime, IsBook}
use Rattle.global_book.specs.inside.Late.{PassesLate, still_to_come}
use Rattle.global_book.proofs.book.PairBook.best_of.Given as goal

-- all that were passed arrived too late; where there are no such orders, none is passed
abbrev pub invariant-loop-next : goal.invariant-loop-next
invariant-loop-next g l = record {
  passes : PassesLate l.self.orders l.bank l.side l.before (option_copied l.past) l.next;
  early : AreInTime l.side l.before l.self.orders → (l.steps ≤ l.fn.steps + 1) × IfSome l.next (λ order. order.arrival < l.before);
  valid : IsBook l.self;
}

abbrev pub decreases-loop-next : goal.decreases-loop-next
decreases-loop-next g l = still_to_come l.self.orders l.bank l.side l.next
