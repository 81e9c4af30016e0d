use Rattle.std.proofs.Common.{◌≡◌, ◌≤◌, ◌+◌, length, vec_len, vec_capacity}
use Rattle.fx_rules.specs.Lists.{Each}
use Rattle.fx_host.specs.Closing.{HasSeenAll}
use Rattle.fx_host.proofs.closing.taken_out.Given as goal

-- the shards so far have seen all, and there is room for those that are left
abbrev pub invariant-loop-lock : goal.invariant-loop-lock
invariant-loop-lock g l = record {
  can : (goal.iterator-loop-lock g).can_next l.lock-iterator;
  ends : (goal.iterator-loop-lock g).is_finite l.lock-iterator;
  credit : l.credit ≡ l.fn.credit;
  count : vec_len l.closed + length l.lock-iterator.rest.items ≡ length l.initial.lock-iterator.rest.items;
  room : vec_len l.closed + length l.lock-iterator.rest.items ≤ vec_capacity l.closed;
  each : Each (HasSeenAll g.N.Naming.session l.fn.credit.history.entries) l.closed.items;
}
