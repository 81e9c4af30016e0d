-- The levels of one owner and side in a window of ranks, as contracts see them.
use Rattle.std.specs.Prelude.{ℕ, ◌+◌, ◌-◌, ◌*◌, ◌/◌, ◌≤◌, ◌<◌, ◌==◌, max, min, nat_le, if◌then◌else◌, List, length, Option, Some, None, slice_index_or, slice_set}
use Rattle.std.specs.List.{sum_by}
use Rattle.price_levels.specs.declared.level.Level.{Level}

-- no orders
abbrev pub no_level : Level
no_level = record { lots = 0; first = 0; last = 0 }

-- a level for each rank from `base` on
pub record Ticks : Type 0 where
  pub base : ℕ
  pub levels : List Level

-- the level of a rank; none outside of the window
abbrev pub level_of : Ticks → ℕ → Level
level_of ticks rank = if nat_le ticks.base rank then slice_index_or ticks.levels (rank - ticks.base) no_level else no_level

-- a rank is in the window
pub record Covers (ticks : Ticks) (rank : ℕ) : Type 0 where
  pub from_on : ticks.base ≤ rank
  pub within : rank < ticks.base + length ticks.levels

-- 1 for a level with orders, 0 for one without
abbrev pub mark_of : Level → ℕ
mark_of level = if level.lots == 0 then 0 else 1

-- how many ranks of the window have orders
abbrev pub used_of : Ticks → ℕ
used_of ticks = sum_by mark_of ticks.levels

-- so many blocks of 64 ranks, and a quarter more of them
abbrev pub with_quarter : ℕ → ℕ
with_quarter blocks = 64 * (blocks + blocks / 4)

-- how many ranks a window may have once a rank is in it too: a block, where it had none, or the blocks from its first to its last with
-- a quarter more
abbrev pub span_of : Ticks → ℕ → ℕ
span_of ticks rank =
    if length ticks.levels == 0 then 64
    else with_quarter (max ((ticks.base + length ticks.levels) / 64) (rank / 64 + 1) - min (ticks.base / 64) (rank / 64))

-- the order that is first once one between two others is gone
abbrev pub first_left : Level → Option ℕ → Option ℕ → ℕ
first_left level None (Some behind) = behind
first_left level None None = level.first
first_left level (Some before) behind = level.first

-- and the order that is last
abbrev pub last_left : Level → Option ℕ → Option ℕ → ℕ
last_left level (Some before) None = before
last_left level (Some before) (Some behind) = level.last
last_left level None behind = level.last

-- a level with one order more, behind all others
abbrev pub with_order : Level → ℕ → ℕ → Level
with_order level place lots = record { lots = level.lots + lots; first = if level.lots == 0 then place else level.first; last = place }

-- a level without one of its orders, which had so many lots and stood between two others, where there are such
abbrev pub without_order : Level → ℕ → Option ℕ → Option ℕ → Level
without_order level lots before behind =
    if level.lots - lots == 0 then no_level
    else record { lots = level.lots - lots; first = first_left level before behind; last = last_left level before behind }

-- the levels with another one at a rank
abbrev pub with_level : Ticks → ℕ → Level → Ticks
with_level ticks rank level = record ticks { levels = slice_set ticks.levels (rank - ticks.base) level }

-- the place of the last order of a level, where there is one
abbrev pub last_of_level : Level → Option ℕ
last_of_level level = if level.lots == 0 then None else Some level.last
