-- The levels of all owners of one side, and the best order of each and of those that can be reached.
use Rattle.std.specs.Prelude.{ℕ, ◌≡◌, ◌<◌, ◌==◌, if◌then◌else◌, nat_eq, Bool, false, List, length, Option, Some, None, slice_index, IfSome}
use Rattle.std.specs.Map.{lookup}
use Rattle.price_levels.specs.declared.level.Level.{Level}
use Rattle.price_levels.specs.Rungs.{IsNextRank, Rungs, holds, level_at, with_level_at}
use Rattle.price_levels.specs.Ticks.{no_level}
use Rattle.access_index.specs.declared.words.Head.{Head}
use Rattle.access_index.specs.Heads.{IsHead, head_word}

abbrev pub level_in : Option Rungs → ℕ → Level
level_in None rank = no_level
level_in (Some rungs) rank = level_at rungs rank

abbrev pub holds_in : Option Rungs → ℕ → Bool
holds_in None rank = false
holds_in (Some rungs) rank = holds rungs rank

-- the level of a bank at a rank; one without orders where the bank has none
abbrev pub bank_level : List (ℕ × Rungs) → ℕ → ℕ → Level
bank_level owners bank rank = level_in (lookup (nat_eq bank) owners) rank

-- whether an order of a bank can come to rest at a rank without taking memory
abbrev pub bank_holds : List (ℕ × Rungs) → ℕ → ℕ → Bool
bank_holds owners bank rank = holds_in (lookup (nat_eq bank) owners) rank

-- the level of a bank at a rank, once that of one bank at one rank is another one
abbrev pub with_bank_level : (ℕ → ℕ → Level) → ℕ → ℕ → Level → ℕ → ℕ → Level
with_bank_level levels bank rank level other at = if other == bank then with_level_at (levels other) rank level at else levels other at

-- the best order of levels, if there is one: the first of the first rank that has orders
abbrev pub IsHeadOf : (ℕ → Level) → Option Head → Type 0
IsHeadOf levels None = (rank : ℕ) → (levels rank).lots ≡ 0
IsHeadOf levels (Some head) = IsNextRank levels 0 head.rank × (head.place ≡ (levels head.rank).first)

-- a word is that of the best order of a bank's levels, if there is one
pub record TellsHead (levels : ℕ → Level) (bank word : ℕ) : Type 0 where
  pub head : Option Head
  pub best : IsHeadOf levels head
  pub fits : IfSome head IsHead
  pub is : word ≡ head_word bank head

-- there is a word for each bank, that of its best order
pub record AreHeadWords (levels : ℕ → ℕ → Level) (words : List ℕ) : Type 0 where
  pub count : length words ≡ 64
  pub tell : (bank : ℕ) → bank < 64 → TellsHead (levels bank) bank (slice_index words bank)
