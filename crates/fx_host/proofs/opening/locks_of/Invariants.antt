use Rattle.std.proofs.Common.{◌≡◌, ◌+◌, length, vec_len}
use Rattle.fx_host.specs.inside.Locking.{AreInOrder}
use Rattle.fx_host.specs.inside.Opening.{ArePairFronts}
use Rattle.fx_host.proofs.opening.locks_of.Given as goal

-- each front so far has its shard, and those that are left are of the pairs behind
abbrev pub invariant-loop-front : goal.invariant-loop-front
invariant-loop-front g l = record {
  can : (goal.iterator-loop-front g).can_next l.front-iterator;
  ends : (goal.iterator-loop-front g).is_finite l.front-iterator;
  count : vec_len l.locks + length l.front-iterator.rest.items ≡ length l.initial.front-iterator.rest.items;
  in_order : AreInOrder l.locks.items;
  fronts : ArePairFronts (length l.locks.items) l.front-iterator.rest.items;
}
