use mathlib.Core.List.{IsPrefix}
use Rattle.watched_run.specs.inside.Watching.{IsOfFeed}
use Rattle.watched_run.proofs.look.look_behind.Given as goal

-- looks so far went on from what was seen and known
abbrev pub invariant-loop : goal.invariant-loop
invariant-loop g l = record {
  waits : (goal.iterator-loop g).can_next l.iterator' × (goal.iterator-loop g).is_finite l.iterator';
  feed : IsOfFeed l.fn.reader l.reader;
  seen : IsPrefix l.fn.reader.seen l.reader.seen;
  known : IsPrefix l.fn.reader.known l.reader.known;
}
