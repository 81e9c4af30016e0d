use Rattle.std.proofs.Common.{◌≡◌}
use Rattle.book_trials.proofs.drawn.set_row.Given as goal

abbrev pub invariant-loop-number : goal.invariant-loop-number
invariant-loop-number l = l.lines.banks ≡ l.banks
