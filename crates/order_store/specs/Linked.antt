-- Orders in a list by arrival, each linked with its neighbours in its level, as contracts see them.
use Rattle.std.specs.Prelude.{ℕ, ◌≡◌, ◌≤◌, ◌<◌, ◌^◌, length, Option, Some, None}
use Rattle.fx_amounts.specs.Quantity.{IsLots}
use Rattle.fx_rules.specs.declared.orders.Resting.{Resting}
use Rattle.order_store.specs.Orders.{AreOrders, IsFrom, Orders, order_at}

-- two orders are of one level: of one bank, side and price
pub record IsAlike (order other : Resting) : Type 0 where
  pub bank : order.bank ≡ other.bank
  pub side : order.side ≡ other.side
  pub price : order.price ≡ other.price

-- the order at a place is of the level of another order
pub record IsInLevel (there : ℕ → Option Resting) (like : Resting) (place : ℕ) : Type 0 where
  pub order : Resting
  pub is : there place ≡ Some order
  pub alike : IsAlike like order

-- an order of this bank that arrived at or after this is at a place
pub record HasFrom (there : ℕ → Option Resting) (owner after place : ℕ) : Type 0 where
  pub order : Resting
  pub is : there place ≡ Some order
  pub from : IsFrom owner after order

-- the first place with P from another one on
pub record IsFirst (P : ℕ → Type 0) (from place : ℕ) : Type 0 where
  pub from_on : from ≤ place
  pub is : P place
  pub first : (other : ℕ) → from ≤ other → other < place → P other → ⊥

-- the same, or there is none
abbrev pub IsFirstFrom : (ℕ → Type 0) → ℕ → Option ℕ → Type 0
IsFirstFrom P from None = (other : ℕ) → from ≤ other → P other → ⊥
IsFirstFrom P from (Some place) = IsFirst P from place

-- the last place with P below another one
pub record IsLast (P : ℕ → Type 0) (end place : ℕ) : Type 0 where
  pub below : place < end
  pub is : P place
  pub last : (other : ℕ) → place < other → other < end → P other → ⊥

-- the same, or there is none
abbrev pub IsLastBelow : (ℕ → Type 0) → ℕ → Option ℕ → Type 0
IsLastBelow P end None = (other : ℕ) → other < end → P other → ⊥
IsLastBelow P end (Some place) = IsLast P end place

-- an order arrived before each that stands behind it
abbrev pub AreRising : (ℕ → Option Resting) → Type 0
AreRising there = (place other : ℕ) (order later : Resting) → there place ≡ Some order → there other ≡ Some later → place < other → order.arrival < later.arrival

-- each order has a number of lots left that an order can have
abbrev pub HaveLots : (ℕ → Option Resting) → Type 0
HaveLots there = (place : ℕ) (order : Resting) → there place ≡ Some order → IsLots order.left

-- orders of a list: no two are of one bank and number, they stand by arrival, each has lots left, and there are not more places than a word of a best order has bits for
pub record AreListed (orders : Orders) : Type 0 where
  pub valid : AreOrders orders
  pub rising : AreRising (order_at orders)
  pub lots : HaveLots (order_at orders)
  pub few : length orders.slots ≤ 2 ^ 28
