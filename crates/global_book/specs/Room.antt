-- Room for orders to come to rest without memory: places in a pair's list of orders, and for each bank and side the prices that are ready.
use Rattle.std.specs.Prelude.{ℕ, ◌≡◌, ◌≢◌, ◌+◌, ◌-◌, ◌≤◌, ◌^◌, true, List, slice_index_or}
use Rattle.fx_amounts.specs.declared.side.Side.{Side}
use Rattle.fx_amounts.specs.declared.side.Side.TheVariants.{Buy, Sell}
use Rattle.price_levels.specs.Rungs.{Rungs}
use Rattle.access_index.specs.Ranked.{bank_holds}

-- for each side the ladders of its owners
pub record Ladders : Type 0 where
  pub bids : List (ℕ × Rungs)
  pub asks : List (ℕ × Rungs)

-- those of a side
abbrev pub ladders_of : Ladders → Side → List (ℕ × Rungs)
ladders_of ladders Buy = ladders.bids
ladders_of ladders Sell = ladders.asks

-- the rank of a price among those of a side: the lower, the better for a taker
abbrev pub rank_of : Side → ℕ → ℕ
rank_of Buy price = 10 ^ 9 - price
rank_of Sell price = price

-- for each bank how many orders of its own can be added to the list, and the ladders that they rest on
pub record Room : Type 0 where
  pub places : List ℕ
  pub ladders : Ladders

-- how many orders of a bank can be added to the list
abbrev pub places_for : Room → ℕ → ℕ
places_for room bank = slice_index_or room.places bank 0

-- an order of a bank and a side can rest at a price
abbrev pub IsReady : Room → ℕ → Side → ℕ → Type 0
IsReady room bank side price = bank_holds (ladders_of room.ladders side) bank (rank_of side price) ≡ true

-- there is room for one order of a bank and a side at a price
pub record HasRoom (room : Room) (bank : ℕ) (side : Side) (price : ℕ) : Type 0 where
  pub place : 1 ≤ places_for room bank
  pub ready : IsReady room bank side price

-- there is at least as much room as before
pub record KeepsRoom (old new : Room) : Type 0 where
  pub places : (bank : ℕ) → places_for old bank ≤ places_for new bank
  pub ready : (bank : ℕ) (side : Side) (price : ℕ) → IsReady old bank side price → IsReady new bank side price

-- the same, but for the prices that were ready for a bank and a side
pub record KeepsOtherRoom (old new : Room) (bank : ℕ) (side : Side) : Type 0 where
  pub places : (other : ℕ) → places_for old other ≤ places_for new other
  pub ready : (other : ℕ) (one : Side) (price : ℕ) → (one ≡ side → other ≢ bank) → IsReady old other one price → IsReady new other one price

-- of the places for each bank at most one went
pub record TakesRoom (old new : Room) : Type 0 where
  pub places : (bank : ℕ) → places_for old bank ≤ places_for new bank + 1
  pub ready : (bank : ℕ) (side : Side) (price : ℕ) → IsReady old bank side price → IsReady new bank side price
