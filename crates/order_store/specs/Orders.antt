-- The orders that are kept, as contracts see them: the order or nothing at each place from 0 on.
use Rattle.std.specs.Prelude.{ℕ, ◌≡◌, ◌≢◌, ◌+◌, ◌≤◌, ◌<◌, ◌^◌, List, length, Option, Some, None, count_by, is_some, slice_index_or}
use Rattle.fx_rules.specs.declared.orders.Resting.{Resting}

-- the order or nothing at each place from 0 on, and for each bank from 0 on how many orders more of its own can be added
pub record Orders : Type 0 where
  pub slots : List (Option Resting)
  pub room : List ℕ

-- how many orders more of a bank can be added
abbrev pub room_for : Orders → ℕ → ℕ
room_for orders bank = slice_index_or orders.room bank 0

-- there is at least as much room as before, for as many banks
pub record KeepsRoom (old new : Orders) : Type 0 where
  pub banks : length new.room ≡ length old.room
  pub room : (bank : ℕ) → room_for old bank ≤ room_for new bank

-- of each room at most one place went
pub record TakesRoom (old new : Orders) : Type 0 where
  pub banks : length new.room ≡ length old.room
  pub room : (bank : ℕ) → room_for old bank ≤ room_for new bank + 1

-- the order at a place
abbrev pub order_at : Orders → ℕ → Option Resting
order_at orders place = slice_index_or orders.slots place None

-- how many orders there are
abbrev pub kept : Orders → ℕ
kept orders = count_by is_some orders.slots

-- an order is the one of this bank and number
pub record IsOf (owner place : ℕ) (order : Resting) : Type 0 where
  pub bank : order.bank ≡ owner
  pub number : order.number ≡ place

-- no order of this bank and number is kept
abbrev pub Lacks : Orders → ℕ → ℕ → Type 0
Lacks orders bank number = (key : ℕ) (order : Resting) → order_at orders key ≡ Some order → order.bank ≡ bank → order.number ≢ number

-- no two orders are of one bank and number; the numbers of a bank and of an order are in their ranges
pub record AreOrders (orders : Orders) : Type 0 where
  pub unique : (key other : ℕ) (order same : Resting) → order_at orders key ≡ Some order → order_at orders other ≡ Some same
      → order.bank ≡ same.bank → order.number ≡ same.number → key ≡ other
  pub numbered : (key : ℕ) (order : Resting) → order_at orders key ≡ Some order → (order.bank < 65) × (order.number < 2 ^ 32)

-- an order of this bank arrived at or after this
pub record IsFrom (owner after : ℕ) (order : Resting) : Type 0 where
  pub bank : order.bank ≡ owner
  pub arrival : after ≤ order.arrival
