use Rattle.std.proofs.Common.{◌≡◌, ◌≤◌, ◌<◌, ◌+◌, ◌%◌, ℕ, get_or}
use Rattle.fx_rules.proofs.session.are_valid_limits.Given as goal

-- the limits before `at` are in range, and 0 where they are a bank's own
abbrev pub invariant-loop-at : goal.invariant-loop-at
invariant-loop-at l =
    (k : ℕ) → k < l.at → (get_or l.limits k 0 ≤ 1000000000000000) × (k % (l.banks + 1) ≡ 0 → get_or l.limits k 0 ≡ 0)
