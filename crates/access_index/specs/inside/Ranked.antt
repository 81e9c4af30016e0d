-- What the words of best orders tell of the levels beside them.
use Rattle.std.specs.Prelude.{ℕ, ◌≡◌, ◌≢◌, ◌<◌, ◌≤◌, ◌^◌, nat_eq, true, List, length, Option, Some, None, slice_get, slice_index_or}
use Rattle.std.specs.List.{IsDistinct, list_any}
use Rattle.std.specs.Map.{keys_of, lookup}
use Rattle.price_levels.specs.Rungs.{Rungs}
use Rattle.access_index.specs.declared.words.Head.{Head}
use Rattle.access_index.specs.Ranked.{IsHeadOf, bank_level}

-- each bank's best order is in its word, and a word has bits for it
pub record AreRanked (owners : List (ℕ × Rungs)) (heads : List (Option Head)) : Type 0 where
  pub heads_are : (bank : ℕ) → bank < 64 → IsHeadOf (bank_level owners bank) (slice_index_or heads bank None)
  pub low : (bank rank : ℕ) → bank < 64 → (bank_level owners bank rank).lots ≢ 0 → rank ≤ 10 ^ 9
  pub early : (bank rank : ℕ) → bank < 64 → (bank_level owners bank rank).lots ≢ 0 → (bank_level owners bank rank).first < 2 ^ 28

-- Each number tells where the ladder of its bank stands among the owners. A bank without a number has no ladder.
pub record AreNumbered (numbers : List (Option ℕ)) (owners : List (ℕ × Rungs)) : Type 0 where
  pub size : length numbers ≡ 65
  pub named : (bank number : ℕ) → bank < 65 → slice_index_or numbers bank None ≡ Some number → slice_get (keys_of owners) number ≡ Some bank
  pub unnamed : (bank : ℕ) → bank < 65 → slice_index_or numbers bank None ≡ None → lookup (nat_eq bank) owners ≡ None
  pub apart : IsDistinct nat_eq (keys_of owners)
  pub below : (bank : ℕ) → list_any (nat_eq bank) (keys_of owners) ≡ true → bank < 65

-- the owners are numbered, and their best orders are told
pub record AreKept (numbers : List (Option ℕ)) (owners : List (ℕ × Rungs)) (heads : List (Option Head)) : Type 0 where
  pub numbered : AreNumbered numbers owners
  pub ranked : AreRanked owners heads
