use Rattle.std.proofs.Common.{◌≡◌, ◌≤◌, ◌+◌}
use Rattle.std.specs.Prelude.{vec_len, vec_capacity}
use Rattle.credit_raise.specs.inside.UnderWay.{with_idle}
use Rattle.credit_raise.proofs.change.add_idle.Given as goal

-- so many plans stand behind those that were there, and there is room for the others and one more
abbrev pub invariant-loop : goal.invariant-loop
invariant-loop l = record {
  added : l.plans.items ≡ with_idle l.fn.plans.items l.counter;
  room : vec_len l.plans + l.idle + 1 ≤ vec_capacity l.plans + l.counter;
}
