-- The levels of one owner and side, as contracts see them. The rank of a price tells how good it is for a taker: the lower, the better.
use Rattle.std.specs.Prelude.{ℕ, zero, suc, ◌≡◌, ◌≢◌, ◌+◌, ◌*◌, ◌≤◌, ◌<◌, ◌==◌, ◌||◌, ◌&&◌, if◌then◌else◌, is_some, max, min, nat_le, nat_lt, Bool, false, List, length, Option, Some, None}
use Rattle.std.specs.BTreeMap.{is_at}
use Rattle.std.specs.Int.{bit_at}
use Rattle.std.specs.Map.{lookup}
use Rattle.std.specs.Ordering.{nat_cmp}
use Rattle.price_levels.specs.declared.level.Level.{Level}
use Rattle.price_levels.specs.Ticks.{Ticks, level_of, mark_of, used_of}

-- the levels in a window of ranks, and those that are kept one by one, each with its rank; one of these ranks may be kept without orders
pub record Rungs : Type 0 where
  pub near : Ticks
  pub far : List (ℕ × Level)
  pub ready : Option ℕ

-- the level that is kept of a rank, if one is
abbrev pub kept_at : List (ℕ × Level) → ℕ → Option Level
kept_at far rank = lookup (is_at (nat_cmp rank)) far

-- a level, or another one where there is none
abbrev pub level_or : Option Level → Level → Level
level_or None other = other
level_or (Some level) other = level

-- the level of a rank: the one that is kept, else that of the window, else one without orders
abbrev pub either_level : Ticks → List (ℕ × Level) → ℕ → Level
either_level near far rank = level_or (kept_at far rank) (level_of near rank)

abbrev pub level_at : Rungs → ℕ → Level
level_at rungs rank = either_level rungs.near rungs.far rank

-- whether a rank is in the window
abbrev pub covers : Ticks → ℕ → Bool
covers near rank = nat_le near.base rank && nat_lt rank (near.base + length near.levels)

-- whether a rank is the one that was made ready last
abbrev pub is_ready : Option ℕ → ℕ → Bool
is_ready None rank = false
is_ready (Some ready) rank = ready == rank

-- whether an order can come to rest at a rank without taking memory, now and whatever other orders come and go
abbrev pub holds : Rungs → ℕ → Bool
holds rungs rank = covers rungs.near rank || (is_some (kept_at rungs.far rank) && is_ready rungs.ready rank)

-- how many ranks a window may be widened to: 4,096, or 16 for each of its ranks with orders, and 65,536 at most
abbrev pub most_ranks : Ticks → ℕ
most_ranks near = min (max (16 * used_of near) 4096) 65536

-- the level of a rank, once one of them has another one
abbrev pub with_level_at : (ℕ → Level) → ℕ → Level → ℕ → Level
with_level_at levels rank level other = if other == rank then level else levels other

-- a rank has orders, and from another on none before it has
pub record IsNextRank (levels : ℕ → Level) (from rank : ℕ) : Type 0 where
  pub from_on : from ≤ rank
  pub some : (levels rank).lots ≢ 0
  pub first : (other : ℕ) → from ≤ other → other < rank → (levels other).lots ≡ 0

-- the lots at so many ranks from one on
abbrev pub lots_below : (ℕ → Level) → ℕ → ℕ → ℕ
lots_below levels from zero = 0
lots_below levels from (suc count) = lots_below levels from count + (levels (from + count)).lots

-- a word tells which of the 64 ranks from one on have orders: the k-th bit is 1 where that of rank `from + k` has
abbrev pub AreMarks : (ℕ → Level) → ℕ → ℕ → Type 0
AreMarks levels from word = (k : ℕ) → k < 64 → bit_at word k ≡ mark_of (levels (from + k))
