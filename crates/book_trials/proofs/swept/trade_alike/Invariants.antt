use Rattle.std.proofs.Common.{◌≡◌}
use Rattle.book_trials.proofs.swept.trade_alike.Given as goal

abbrev pub invariant-loop-at : goal.invariant-loop-at
invariant-loop-at g l = l.pair.book.banks ≡ l.banks
