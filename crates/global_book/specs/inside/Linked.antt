-- A pair's orders in a list by arrival, with the levels of each bank and side beside them.
use Rattle.std.specs.Prelude.{ℕ, ◌≡◌, ◌≤◌, ◌<◌, ◌^◌, List, Option, Some, None, length, min, slice_index_or}
use Rattle.fx_amounts.specs.declared.side.Side.{Side}
use Rattle.fx_rules.specs.declared.orders.Resting.{Resting}
use Rattle.price_levels.specs.declared.level.Level.{Level}
use Rattle.access_index.specs.Ranked.{bank_level}
use Rattle.order_store.specs.Linked.{AreListed}
use Rattle.order_store.specs.Orders.{Orders, order_at}
use Rattle.global_book.specs.Book.{IsHeld}
use Rattle.global_book.specs.Room.{KeepsRoom, Ladders, Room, ladders_of, rank_of}
use Rattle.global_book.specs.inside.Ends.{TellsOrders, orders_of}
use Rattle.global_book.specs.inside.Owning.{AreOwnersOf}

-- the levels of a side, by bank and rank, are those of these orders
pub record AreTold (slots : List (Option Resting)) (side : Side) (levels : ℕ → ℕ → Level) : Type 0 where
  pub tells : (bank price : ℕ) → price ≤ 10 ^ 9 → TellsOrders slots bank side price (levels bank (rank_of side price))
  pub low : (bank rank : ℕ) → 10 ^ 9 < rank → (levels bank rank).lots ≡ 0

-- an order is a bank's, at a price in range
pub record IsPriced (order : Resting) : Type 0 where
  pub bank : order.bank < 64
  pub least : 1 ≤ order.price
  pub price : order.price ≤ 10 ^ 9

-- the ladders tell these orders
pub record AreLinked (slots : List (Option Resting)) (ladders : Ladders) : Type 0 where
  pub told : (side : Side) → AreTold slots side (bank_level (ladders_of ladders side))
  pub priced : (place : ℕ) (order : Resting) → slice_index_or slots place None ≡ Some order → IsPriced order

-- the orders are those of a list, the ladders tell them, and these are the banks that have one
pub record AreLinkedOrders (orders : Orders) (ladders : Ladders) (owners : List ℕ) : Type 0 where
  pub listed : AreListed orders
  pub linked : AreLinked orders.slots ladders
  pub owned : AreOwnersOf (orders_of orders.slots) owners

-- all that is kept: the orders, and the levels beside them
pub record Linked : Type 0 where
  pub orders : Orders
  pub ladders : Ladders

-- the orders of a book, by arrival
abbrev pub orders_in : Linked → List Resting
orders_in linked = orders_of linked.orders.slots

-- the room that they have
abbrev pub room_in : Linked → Room
room_in linked = record { places = linked.orders.room; ladders = linked.ladders }

-- they are those of a book for so many banks, 64 at most
pub record AreKept (banks : ℕ) (linked : Linked) : Type 0 where
  pub listed : AreListed linked.orders
  pub of_banks : length linked.orders.room ≡ min banks 64
  pub held : (place : ℕ) (order : Resting) → order_at linked.orders place ≡ Some order → IsHeld banks order

-- The list of the orders is changed so, no room goes, and they are a book's still.
pub record Becomes (change : List Resting → List Resting) (old new : Linked) : Type 0 where
  pub orders : orders_in new ≡ change (orders_in old)
  pub room : KeepsRoom (room_in old) (room_in new)
  pub kept : (banks : ℕ) → AreKept banks old → AreKept banks new
