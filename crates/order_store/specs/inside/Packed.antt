-- A list that is laid anew without empty places, as far as it has come.
use Rattle.std.specs.Prelude.{ℕ, ◌≡◌, ◌<◌, List, filter, length, min, take, Option, Some, None, is_some, option_map, slice_index_or}
use Rattle.fx_rules.specs.declared.orders.Resting.{Resting}
use Rattle.order_store.specs.Orders.{Orders}

-- how many orders stand before a place
abbrev pub rank_of : List (Option Resting) → ℕ → ℕ
rank_of slots place = length (filter is_some (take place slots))

-- where the order at a place has gone, where there is one
abbrev pub moved : List ℕ → Option ℕ → Option ℕ
moved places link = option_map (λ place. slice_index_or places place 0) link

-- the orders before a place have gone to a new list, in which each stands at its rank
pub record IsPacked (slots : List (Option Resting)) (upto : ℕ) (places : List ℕ) (list : Orders) (banks : ℕ) : Type 0 where
  pub laid : list.slots ≡ filter is_some (take upto slots)
  pub count : length places ≡ upto
  pub told : (place : ℕ) (order : Resting) → place < upto → slice_index_or slots place None ≡ Some order → slice_index_or places place 0 ≡ rank_of slots place
  pub banks_are : length list.room ≡ min banks 65
