-- What private functions and proofs alone say of it, beside `specs/Credit.antt`.
use Rattle.std.specs.Prelude.{ℕ, ◌≡◌, ◌<◌, ◌*◌, Bool, false, List, length, slice_index, slice_set, None}
use Rattle.credit_lines.specs.Credit.{Credit, IsCredit, place, left_in, spent_in, total_in}

-- a table of lines with this one between two banks, in the rows of both
abbrev pub lined : ℕ → List ℕ → ℕ → ℕ → ℕ → List ℕ
lined banks lines i j line = slice_set (slice_set lines (place banks i j) line) (place banks j i) line

-- A table of what the limits leave between each two banks. What a bank has with all others stands in its row.
pub record AreLines (credit : Credit) (lines : List ℕ) : Type 0 where
  pub full : length lines ≡ credit.banks * credit.banks
  pub lines_are : (i j : ℕ) → i < credit.banks → j < credit.banks → slice_index lines (place credit.banks i j) ≡ left_in credit i j

-- a list of sums with those of two banks changed to these
abbrev pub both_set : List ℕ → ℕ → ℕ → ℕ → ℕ → List ℕ
both_set spent i j first second = slice_set (slice_set spent i first) j second

-- A list of what each bank has spent.
pub record AreSpent (credit : Credit) (spent : List ℕ) : Type 0 where
  pub full : length spent ≡ credit.banks
  pub spent_are : (i : ℕ) → i < credit.banks → slice_index spent i ≡ spent_in credit i

-- where the mark that some bank has a total is not set, no bank has one
abbrev pub IsBounded : Credit → Bool → Type 0
IsBounded credit bounded = bounded ≡ false → (i : ℕ) → i < credit.banks → total_in credit i ≡ None

-- what is kept beside the credit: the table, the sums and the mark
abbrev pub AreKept : Credit → List ℕ → List ℕ → Bool → Type 0
AreKept credit lines spent bounded = IsCredit credit × AreLines credit lines × AreSpent credit spent × IsBounded credit bounded
