-- The best order of a list, of those that pass.
use Rattle.std.specs.Prelude.{ℕ, ◌≡◌, ◌+◌, ◌&&◌, Bool, true, false, nat_le, List, Option, Some, None, slice_index_or}
use Rattle.fx_amounts.specs.Side.{opposite}
use Rattle.fx_amounts.specs.declared.side.Side.{Side}
use Rattle.fx_rules.specs.declared.orders.Resting.{Resting}
use Rattle.fx_rules.specs.Plan.{is_behind}
use Rattle.fx_rules.specs.Sweep.{is_opposite, is_preferred}
use Rattle.global_book.specs.Book.{is_of}
use Rattle.global_book.specs.Room.{rank_of}

-- an order that passes is at a place, and a taker of the other side prefers no other that passes
pub record IsBestAt (slots : List (Option Resting)) (passes : Resting → Bool) (side : Side) (place : ℕ) : Type 0 where
  pub order : Resting
  pub is : slice_index_or slots place None ≡ Some order
  pub passes_it : passes order ≡ true
  pub best : (other : ℕ) (one : Resting) → slice_index_or slots other None ≡ Some one → passes one ≡ true → is_preferred (opposite side) one order ≡ false

-- the place of the best of the orders that pass, where one passes
abbrev pub IsBestOf : List (Option Resting) → (Resting → Bool) → Side → Option ℕ → Type 0
IsBestOf slots passes side None = (place : ℕ) (order : Resting) → slice_index_or slots place None ≡ Some order → passes order ≡ false
IsBestOf slots passes side (Some place) = IsBestAt slots passes side place

-- an order of a bank and a side, from a rank on
abbrev pub is_own_from : ℕ → Side → ℕ → Resting → Bool
is_own_from bank side from order = is_of bank order && is_opposite (opposite side) order.side && nat_le from (rank_of side order.price)

-- an order of the same bank and side behind another one
abbrev pub is_own_behind : Resting → Resting → Bool
is_own_behind last order = is_of last.bank order && is_opposite (opposite last.side) order.side && is_preferred (opposite last.side) last order

-- an order of a bank and a side, behind one of them where that is given
abbrev pub is_past : ℕ → Side → Option Resting → Resting → Bool
is_past bank side past order = is_of bank order && is_opposite (opposite side) order.side && is_behind (opposite side) past order

-- the first rank behind a price, where there is one
abbrev pub from_rank : Side → Option ℕ → ℕ
from_rank side None = 0
from_rank side (Some past) = rank_of side past + 1
