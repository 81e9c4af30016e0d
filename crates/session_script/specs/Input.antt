-- The input: the bytes that a run takes from its source.
use Rattle.std.specs.Prelude.{◌≡◌, ℕ, ◌≤◌, ◌^◌, List, ◌++◌, length, Option, Some}
use Rattle.fx_edges.specs.Reading.{Took}

-- the most bytes that are taken
abbrev pub input_limit : ℕ
input_limit = 2 ^ 26

-- the source gave some bytes, at most so many
pub record TookAtMost {S : Type 0} (most : ℕ) (left : S → Option (List ℕ)) (faults : S → ℕ) (before now : S) : Type 0 where
  pub bytes : List ℕ
  pub took : Took left faults before now bytes
  pub within : length bytes ≤ most

-- what P says of the bytes that were taken and of those that are left, where the source tells them
abbrev pub OfTaken : {S : Type 0} (left : S → Option (List ℕ)) (before now : S) → (List ℕ → List ℕ → Type 0) → Type 0
OfTaken left before now P = (taken rest : List ℕ) → left before ≡ Some (taken ++ rest) → left now ≡ Some rest → P taken rest
