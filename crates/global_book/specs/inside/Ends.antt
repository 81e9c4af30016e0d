-- A level against the orders of a list: it has the places of the first and the last order of its bank, side and price, and the lots that they
-- have left.
use Rattle.std.specs.Prelude.{ℕ, ◌≡◌, ◌==◌, true, if◌then◌else◌, List, [], ◌∷◌, length, Option, Some, None, slice_index_or, sum_by}
use Rattle.fx_amounts.specs.Side.{opposite}
use Rattle.fx_amounts.specs.declared.side.Side.{Side}
use Rattle.fx_rules.specs.declared.orders.Resting.{Resting}
use Rattle.order_store.specs.Linked.{IsFirstFrom, IsLastBelow}
use Rattle.price_levels.specs.Ticks.{last_of_level}
use Rattle.price_levels.specs.declared.level.Level.{Level}
use Rattle.global_book.specs.Book.{is_level}

-- the place of the first order of a level, where there is one
abbrev pub first_of_level : Level → Option ℕ
first_of_level level = if level.lots == 0 then None else Some level.first

-- an order of a bank and a side at a price is at a place
pub record IsOfLevel (slots : List (Option Resting)) (bank : ℕ) (side : Side) (price place : ℕ) : Type 0 where
  pub order : Resting
  pub is : slice_index_or slots place None ≡ Some order
  pub at : is_level (opposite side) bank price order ≡ true

-- what the order of a slot has left, where it is one of these
abbrev pub slot_lots : ℕ → Side → ℕ → Option Resting → ℕ
slot_lots bank side price None = 0
slot_lots bank side price (Some order) = if is_level (opposite side) bank price order then order.left else 0

-- a level is that of these orders
pub record TellsOrders (slots : List (Option Resting)) (bank : ℕ) (side : Side) (price : ℕ) (level : Level) : Type 0 where
  pub first : IsFirstFrom (IsOfLevel slots bank side price) 0 (first_of_level level)
  pub last : IsLastBelow (IsOfLevel slots bank side price) (length slots) (last_of_level level)
  pub lots : level.lots ≡ sum_by (slot_lots bank side price) slots

-- the orders of a list, by arrival
abbrev pub orders_of : List (Option Resting) → List Resting
orders_of [] = []
orders_of (None ∷ slots) = orders_of slots
orders_of (Some order ∷ slots) = order ∷ orders_of slots
