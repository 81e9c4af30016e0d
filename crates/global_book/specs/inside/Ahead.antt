-- A search along a bank's orders of a side for the best one behind an order of any bank.
use Rattle.std.specs.Prelude.{ℕ, ◌≡◌, ◌+◌, Bool, true, List, filter, length, Option, Some, None, slice_index_or}
use Rattle.fx_amounts.specs.Side.{opposite}
use Rattle.fx_amounts.specs.declared.side.Side.{Side}
use Rattle.fx_rules.specs.declared.orders.Resting.{Resting}
use Rattle.global_book.specs.Behind.{is_owned_behind}
use Rattle.global_book.specs.Room.{rank_of}
use Rattle.global_book.specs.inside.Bests.{IsBestOf, is_own_behind}
use Rattle.global_book.specs.inside.Ends.{orders_of}
use Rattle.global_book.specs.inside.Owning.{is_own}

-- the rank of an order's price; 0 without an order
abbrev pub first_rank : Side → Option Resting → ℕ
first_rank side None = 0
first_rank side (Some last) = rank_of side last.price

-- the search comes to the best order of those that it has not passed, which are the bank's own; none that is sought was passed
pub record SeeksAhead (slots : List (Option Resting)) (bank : ℕ) (side : Side) (before : ℕ) (past : Option Resting) (next : Option ℕ) : Type 0 where
  pub rest : Resting → Bool
  pub best : IsBestOf slots rest side next
  pub own : (order : Resting) → rest order ≡ true → is_own bank side order ≡ true
  pub sought : (place : ℕ) (order : Resting) → slice_index_or slots place None ≡ Some order → is_owned_behind (opposite side) bank before past order ≡ true → rest order ≡ true

-- how many orders are behind the one of a slot, with it
abbrev pub slot_behind : List (Option Resting) → Option Resting → ℕ
slot_behind slots None = 0
slot_behind slots (Some order) = length (filter (is_own_behind order) (orders_of slots)) + 1

-- how many orders are still to come
abbrev pub still_ahead : List (Option Resting) → Option ℕ → ℕ
still_ahead slots None = 0
still_ahead slots (Some place) = slot_behind slots (slice_index_or slots place None)
