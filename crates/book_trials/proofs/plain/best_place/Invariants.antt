use Rattle.std.proofs.Common.{◌<◌, length, IfSome}
use Rattle.book_trials.proofs.plain.best_place.Given as goal

abbrev pub invariant-loop-at : goal.invariant-loop-at
invariant-loop-at l = IfSome l.best (λ best. best.0 < length l.orders)
