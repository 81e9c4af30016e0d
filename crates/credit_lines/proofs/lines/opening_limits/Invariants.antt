use Rattle.std.proofs.Common.{◌≡◌, ◌≤◌, ◌*◌, take, vec_len}
use Rattle.std.specs.Vec.{vec_capacity}
use Rattle.credit_lines.proofs.lines.opening_limits.Given as goal

-- the limits before `at`, and room for all
abbrev pub invariant-loop-at : goal.invariant-loop-at
invariant-loop-at l = record {
  limits : l.limits.items ≡ take l.at l.session.limits;
  count : vec_len l.limits ≡ l.at;
  room : l.banks * l.banks ≤ vec_capacity l.limits;
}
