-- The locks of the pairs.
use Rattle.std.specs.Prelude.{ℕ, ◌≡◌, ◌<◌, List, length, slice_index}

-- each pair stands at its own place
abbrev pub AreInOrder : List ℕ → Type 0
AreInOrder pairs = (place : ℕ) → place < length pairs → slice_index pairs place ≡ place
