-- A bank's orders of a side that cross a price, gathered from level to level.
use Rattle.std.specs.Prelude.{ℕ, Bool, ◌&&◌, nat_le, List, [], ◌∷◌, ◌++◌, filter, IsPermutation, Option, Some, None, slice_index_or}
use Rattle.fx_amounts.specs.Side.{opposite}
use Rattle.fx_amounts.specs.declared.side.Side.{Side}
use Rattle.fx_rules.specs.declared.orders.Resting.{Resting}
use Rattle.global_book.specs.Book.{crossing, is_crossing, is_level}
use Rattle.global_book.specs.Room.{rank_of}
use Rattle.global_book.specs.inside.Ends.{orders_of}

-- an order of the level of another one that arrived no earlier
abbrev pub is_level_from : Resting → Resting → Bool
is_level_from first order = is_level (opposite first.side) first.bank first.price order && nat_le first.arrival order.arrival

-- the orders of a level from that of a slot on
abbrev pub level_from : List (Option Resting) → Option Resting → List Resting
level_from slots None = []
level_from slots (Some first) = filter (is_level_from first) (orders_of slots)

-- the same from the order at each of some places on
abbrev pub levels_from : List (Option Resting) → List ℕ → List Resting
levels_from slots [] = []
levels_from slots (place ∷ places) = level_from slots (slice_index_or slots place None) ++ levels_from slots places

-- a bank's order of a side that crosses a price of the other side, from a rank on
abbrev pub is_crossing_from : ℕ → Side → ℕ → ℕ → Resting → Bool
is_crossing_from bank side top from order = is_crossing bank side top order && nat_le from (rank_of side order.price)

-- the places of the first orders of those levels that cross and stand before a rank are found
abbrev pub FindsLevels : List (Option Resting) → ℕ → Side → ℕ → List ℕ → ℕ → Type 0
FindsLevels slots bank side top places from =
    IsPermutation (crossing bank side top (orders_of slots)) (levels_from slots places ++ filter (is_crossing_from bank side top from) (orders_of slots))

-- of the orders that cross these are taken, and those of the levels from some places on are to come
abbrev pub TakesLevels : List (Option Resting) → ℕ → Side → ℕ → List Resting → List ℕ → Type 0
TakesLevels slots bank side top taken places = IsPermutation (crossing bank side top (orders_of slots)) (taken ++ levels_from slots places)
