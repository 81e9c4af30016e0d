-- Orders that had their turns, and where one of them stands.
use Rattle.std.specs.Prelude.{ℕ, ◌≡◌, Bool, true, false, ◌<◌, if◌then◌else◌, List, length, Option, Some, None, slice_index_or}
use Rattle.fx_amounts.specs.declared.side.Side.{Side}
use Rattle.fx_rules.specs.declared.orders.Resting.{Resting}
use Rattle.fx_rules.specs.Sweep.{is_order, is_preferred}
use Rattle.credit_raise.specs.declared.waiting.Held.{Held}
use Rattle.credit_raise.specs.declared.waiting.Held.TheVariants.{Listed, Booked}

-- some orders of the first so many banks, and whether they stand in a list
pub record Waiters : Type 0 where
  pub banks : ℕ
  pub orders : List Resting
  pub listed : Bool

-- those that wait
abbrev pub waiters_of : Held → Waiters
waiters_of (Listed banks orders changes) = record { banks = banks; orders = orders.items; listed = true }
waiters_of (Booked book) = record { banks = book.value.banks; orders = book.value.orders; listed = false }

-- the first order of this bank and number stands at this place
pub record StandsAt (bank number : ℕ) (orders : List Resting) (at : ℕ) (fallback : Resting) : Type 0 where
  pub within : at < length orders
  pub is : is_order bank number (slice_index_or orders at fallback) ≡ true
  pub first : (before : ℕ) → before < at → is_order bank number (slice_index_or orders before fallback) ≡ false

-- an order, or another where a taker of this side does not prefer the order to it
abbrev pub better_of : Side → Option Resting → Resting → Resting
better_of taker None order = order
better_of taker (Some other) order = if is_preferred taker order other then order else other
