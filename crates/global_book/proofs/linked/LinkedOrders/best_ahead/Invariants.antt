use Rattle.std.proofs.Common.{◌+◌, ◌≤◌}
use Rattle.std.specs.Option.{option_copied}
use Rattle.global_book.specs.Book.{AreInTime}
use Rattle.global_book.specs.inside.Ahead.{SeeksAhead, still_ahead}
use Rattle.global_book.specs.inside.Linked.{orders_in}
use Rattle.global_book.proofs.linked.LinkedOrders.best_ahead.Given as goal

-- none that is sought was passed, and where all arrived in time, none was passed as too late
abbrev pub invariant-loop-next : goal.invariant-loop-next
invariant-loop-next g l = record {
  seeks : SeeksAhead l.self.orders.slots l.fn.bank l.side l.before (option_copied l.past) l.next;
  early : AreInTime l.side l.before (orders_in l.self) → l.steps ≤ l.fn.steps + 1;
}

abbrev pub decreases-loop-next : goal.decreases-loop-next
decreases-loop-next g l = still_ahead l.self.orders.slots l.next
