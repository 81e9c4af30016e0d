use Rattle.std.proofs.Common.{◌≡◌}
use Rattle.book_trials.proofs.swept.take_all.Given as goal

abbrev pub invariant-loop-fill : goal.invariant-loop-fill
invariant-loop-fill l = l.lines.banks ≡ l.banks
