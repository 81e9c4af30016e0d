-- The best order of each bank and side as a number, the lower the better.
use Rattle.std.specs.Prelude.{ℕ, ◌≡◌, ◌≢◌, ◌-◌, ◌/◌, ◌<◌, ◌^◌, ◌==◌, true, if◌then◌else◌, List, length, Option, Some, None, slice_index}
use Rattle.fx_amounts.specs.Price.{IsPrice}
use Rattle.fx_amounts.specs.Side.{opposite}
use Rattle.fx_amounts.specs.declared.side.Side.{Side}
use Rattle.fx_rules.specs.declared.orders.Resting.{Resting}
use Rattle.fx_rules.specs.Lists.{Each}
use Rattle.fx_rules.specs.Sweep.{IsBest, is_preferred}
use Rattle.global_book.specs.Behind.{owned_behind}
use Rattle.global_book.specs.Book.{IsPriceOf}
use Rattle.global_book.specs.Room.{rank_of}

-- the price that a word tells, whose rank is in its bits from the 34th on; a word with all bits set tells none
abbrev pub word_price : Side → ℕ → Option ℕ
word_price side word = if word == 2 ^ 64 - 1 then None else Some (rank_of side (word / 2 ^ 34))

-- the best order of a bank and a side
abbrev pub IsHeadOrder : Side → ℕ → List Resting → Resting → Type 0
IsHeadOrder side bank orders order = IsBest (opposite side) (owned_behind side bank (2 ^ 64) None orders) order

-- there is a word for each bank: it tells the best price of the bank's orders of a side, and a lower word is of an order that a taker prefers. No two banks
-- with orders have one word. The orders are of these banks, at prices in range
pub record AreBestWords (side : Side) (orders : List Resting) (words : List ℕ) : Type 0 where
  pub count : length words ≡ 64
  pub apart : (bank other : ℕ) → bank < 64 → other < 64 → bank ≢ other → slice_index words bank ≡ slice_index words other → slice_index words bank ≡ 2 ^ 64 - 1
  pub prices : (bank : ℕ) → bank < 64 → IsPriceOf (opposite side) bank None orders (word_price side (slice_index words bank))
  pub owners : Each (λ order. order.bank < 64) orders
  pub ticks : Each (λ order. IsPrice order.price) orders
  pub bests : (bank other : ℕ) → bank < 64 → other < 64 → slice_index words bank < slice_index words other
      → (order head : Resting) → IsHeadOrder side bank orders order → IsHeadOrder side other orders head → is_preferred (opposite side) order head ≡ true
