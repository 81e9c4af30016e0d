use Rattle.std.proofs.Common.{ℕ, ◌≡◌, ◌≤◌, ◌<◌, ◌^◌, ◌-◌}
use Rattle.price_levels.specs.inside.Far.{far_level}
use Rattle.price_levels.proofs.far_levels.FarLevels.next.Given as goal

-- the ranks that were passed have no orders
abbrev pub invariant-loop-rank : goal.invariant-loop-rank
invariant-loop-rank l = (l.fn.from ≤ l.start) × ((other : ℕ) → l.fn.from ≤ other → other < l.start → (far_level l.self other).lots ≡ 0)

abbrev pub decreases-loop-rank : goal.decreases-loop-rank
decreases-loop-rank l = 2 ^ 32 - l.start
