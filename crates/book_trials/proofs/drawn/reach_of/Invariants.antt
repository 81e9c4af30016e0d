use Rattle.std.proofs.Common.{◌≡◌, length}
use Rattle.book_trials.proofs.drawn.reach_of.Given as goal

abbrev pub invariant-loop-place : goal.invariant-loop-place
invariant-loop-place l = length l.reach.items ≡ l.place
