use Rattle.std.proofs.Common.{◌≡◌}
use Rattle.watched_run.proofs.look.look.Given as goal

-- a look that met a fault left the reader as it was
abbrev pub invariant-loop : goal.invariant-loop
invariant-loop g l = record {
  waits : (goal.iterator-loop g).can_next l.iterator' × (goal.iterator-loop g).is_finite l.iterator';
  same : l.reader ≡ l.fn.reader;
}
