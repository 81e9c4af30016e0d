-- What private functions and proofs alone say: a row of bits in words of 64, one bit for each tick.
use Rattle.std.specs.Prelude.{ℕ, ◌≡◌, ◌*◌, ◌/◌, ◌%◌, ◌≤◌, ◌<◌, List, length, slice_index}
use Rattle.std.specs.Int.{bit_at}

-- the bit of a tick
abbrev pub bit_of : List ℕ → ℕ → ℕ
bit_of words at = bit_at (slice_index words (at / 64)) (at % 64)

-- a tick is marked, and none from another on stands before it
pub record IsFirstMark (words : List ℕ) (from at : ℕ) : Type 0 where
  pub from_on : from ≤ at
  pub within : at < 64 * length words
  pub marked : bit_of words at ≡ 1
  pub first : (other : ℕ) → from ≤ other → other < at → bit_of words other ≡ 0
