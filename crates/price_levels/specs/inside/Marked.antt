-- How a window is kept: a bit for each rank, which is 1 where the rank has orders.
use Rattle.std.specs.Prelude.{ℕ, ◌≡◌, ◌+◌, ◌*◌, ◌%◌, ◌++◌, ◌≤◌, ◌<◌, ◌^◌, List, length, replicate, slice_index_or}
use Rattle.std.specs.List.{sum_by}
use Rattle.price_levels.specs.declared.level.Level.{Level}
use Rattle.price_levels.specs.inside.Bits.{bit_of}
use Rattle.price_levels.specs.Ticks.{mark_of, no_level}

-- the levels lie in blocks of 64, each under a word whose bits are those of its levels, and no rank is above 2^32; so many have orders
pub record AreMarked (base : ℕ) (levels : List Level) (words : List ℕ) (used : ℕ) : Type 0 where
  pub blocks : length levels ≡ 64 * length words
  pub aligned : base % 64 ≡ 0
  pub few : base + length levels ≤ 2 ^ 32
  pub marks : (at : ℕ) → at < length levels → bit_of words at ≡ mark_of (slice_index_or levels at no_level)
  pub counted : used ≡ sum_by mark_of levels

-- a list behind so many blanks and in front of others
abbrev pub padded : {A : Type 0} → A → List A → ℕ → ℕ → List A
padded blank xs before after = replicate before blank ++ (xs ++ replicate after blank)
