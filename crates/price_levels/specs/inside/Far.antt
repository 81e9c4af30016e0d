-- The levels at ranks far from a ladder's window.
use Rattle.std.specs.Prelude.{ℕ, ◌≡◌, ◌≤◌, ◌<◌, ◌^◌, ◌||◌, Bool, is_some, List, Some, None}
use Rattle.price_levels.specs.declared.level.Level.{Level}
use Rattle.price_levels.specs.Ticks.{Covers, Ticks, no_level}
use Rattle.price_levels.specs.Rungs.{Rungs, covers, kept_at, level_or}

-- the level of a rank; one without orders where none is kept
abbrev pub far_level : List (ℕ × Level) → ℕ → Level
far_level far rank = level_or (kept_at far rank) no_level

-- whether a rank is in a ladder's window or kept by itself
abbrev pub has_rank : Rungs → ℕ → Bool
has_rank rungs rank = covers rungs.near rank || is_some (kept_at rungs.far rank)

-- the ranks that are kept are below 2^31
abbrev pub AreLow : List (ℕ × Level) → Type 0
AreLow far = (rank : ℕ) → 2 ^ 31 ≤ rank → kept_at far rank ≡ None

-- the first rank that is kept from another on, with its level
pub record IsNextKept (far : List (ℕ × Level)) (from rank : ℕ) (level : Level) : Type 0 where
  pub from_on : from ≤ rank
  pub low : rank < 2 ^ 31
  pub kept : kept_at far rank ≡ Some level
  pub first : (other : ℕ) → from ≤ other → other < rank → kept_at far other ≡ None

-- no rank of the window is kept apart from it
pub record AreApart (near : Ticks) (far : List (ℕ × Level)) : Type 0 where
  pub apart : (rank : ℕ) → Covers near rank → kept_at far rank ≡ None
