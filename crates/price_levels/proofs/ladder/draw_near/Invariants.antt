use Rattle.std.proofs.Common.{ℕ, ◌≡◌, ◌≤◌, ◌<◌, ◌^◌, ◌-◌, None, length}
use Rattle.price_levels.specs.Ticks.{Covers}
use Rattle.price_levels.specs.Rungs.{kept_at, either_level}
use Rattle.price_levels.proofs.ladder.draw_near.Given as goal

-- each rank has the level that it had; the window lies where it lay, and no rank of it that was passed is kept apart
abbrev pub invariant-loop-rank : goal.invariant-loop-rank
invariant-loop-rank l =
    ((rank : ℕ) → either_level l.near l.far rank ≡ either_level l.initial.near l.initial.far rank)
    × (l.near.base ≡ l.initial.near.base)
    × (l.near.base ≤ l.from)
    × (length l.near.levels ≡ length l.initial.near.levels)
    × ((rank : ℕ) → Covers l.near rank → rank < l.from → kept_at l.far rank ≡ None)

abbrev pub decreases-loop-rank : goal.decreases-loop-rank
decreases-loop-rank l = 2 ^ 32 - l.from
