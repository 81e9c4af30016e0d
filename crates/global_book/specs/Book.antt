-- One pair's book, as contracts see it: the orders that rest, in arrival order.
use Rattle.std.specs.Prelude.{ℕ, ◌≡◌, ◌≤◌, ◌<◌, ◌^◌, Bool, true, false, ◌&&◌, ◌==◌, nat_le, if◌then◌else◌, List, filter, length, Option, Some, None, slice_get, option_map}
use Rattle.std.specs.List.{Contains}
use Rattle.std.specs.List.Sorted.{IsStrictlyIncreasing}
use Rattle.fx_amounts.specs.Price.{crosses}
use Rattle.fx_amounts.specs.Side.{opposite}
use Rattle.fx_amounts.specs.declared.side.Side.{Side}
use Rattle.fx_rules.specs.declared.orders.Resting.{Resting}
use Rattle.fx_rules.specs.Lists.{Among, Each, EachPair, total}
use Rattle.fx_rules.specs.Sound.{ArrivesBefore}
use Rattle.fx_rules.specs.Sweep.{is_better, is_opposite, is_order}
use Rattle.global_book.specs.Room.{Room}

-- a pair's book for so many banks
pub record Book : Type 0 where
  pub pair : ℕ
  pub banks : ℕ
  pub orders : List Resting
  pub room : Room

-- an order of the book's banks, with a number of its bank's stream and an arrival of 64 bits
pub record IsHeld (banks : ℕ) (order : Resting) : Type 0 where
  pub bank : order.bank < banks
  pub number_least : 1 ≤ order.number
  pub number_most : order.number < 2 ^ 32
  pub arrival_most : order.arrival < 2 ^ 64

-- the orders stand by arrival, no two have one arrival or are of one command, and each is one of the book's banks
pub record IsBook (book : Book) : Type 0 where
  pub rising : EachPair ArrivesBefore book.orders
  pub held : Each (IsHeld book.banks) book.orders

-- the first item, if there is one
abbrev pub first : {X : Type 0} → List X → Option X
first items = slice_get items 0

-- an order of this bank
abbrev pub is_of : ℕ → Resting → Bool
is_of bank order = order.bank == bank

-- an order of this bank that arrived at or after this
abbrev pub is_of_from : ℕ → ℕ → Resting → Bool
is_of_from bank arrival order = is_of bank order && nat_le arrival order.arrival

-- the order with so many lots left, where it is the one of this bank and number
abbrev pub relotted : ℕ → ℕ → ℕ → Resting → Resting
relotted bank number left order = if is_order bank number order then record order { left = left } else order

-- the order of this bank and number rests with more than so many lots left
abbrev pub RestsAbove : List Resting → ℕ → ℕ → ℕ → Type 0
RestsAbove orders bank number left = (order : Resting) × Among order orders × (is_order bank number order ≡ true) × (left < order.left)

-- the order of this bank and number rests
abbrev pub Rests : List Resting → ℕ → ℕ → Type 0
Rests orders bank number = (order : Resting) × Among order orders × (is_order bank number order ≡ true)

-- an order of a side rests whose price a limit allows a taker of the other side
pub record RestsWithin (side : Side) (limit : ℕ) (orders : List Resting) : Type 0 where
  pub order : Resting
  pub rests : Among order orders
  pub side_is : order.side ≡ side
  pub allowed : crosses (opposite side) limit order.price ≡ true

-- an order of this bank on the other side of a taker's, at this price
abbrev pub is_level : Side → ℕ → ℕ → Resting → Bool
is_level taker bank price order = is_of bank order && is_opposite taker order.side && order.price == price

-- the lots that such orders have left
abbrev pub level_lots : Side → ℕ → ℕ → List Resting → ℕ
level_lots taker bank price orders = total (λ order. order.left) (filter (is_level taker bank price) orders)

-- an order of this bank on the other side of a taker's
abbrev pub is_across : Side → ℕ → Resting → Bool
is_across taker bank order = is_of bank order && is_opposite taker order.side

-- a bank's order of a side that crosses a price of the other side
abbrev pub is_crossing : ℕ → Side → ℕ → Resting → Bool
is_crossing bank side top order = is_across (opposite side) bank order && crosses side order.price top

-- such orders of a bank and a side
abbrev pub crossing : ℕ → Side → ℕ → List Resting → List Resting
crossing bank side top orders = filter (is_crossing bank side top) orders

-- a price is worse for a taker than `past`, where there is one
abbrev pub is_worse : Side → Option ℕ → ℕ → Bool
is_worse taker None price = true
is_worse taker (Some past) price = is_better taker past price

-- an order of this bank on the other side of a taker's, at a worse price than `past`
abbrev pub is_worse_of : Side → ℕ → Option ℕ → Resting → Bool
is_worse_of taker bank past order = is_of bank order && is_opposite taker order.side && is_worse taker past order.price

-- the best price of such orders, with all lots that the bank has there
pub record IsLevel (taker : Side) (bank : ℕ) (past : Option ℕ) (orders : List Resting) (level : ℕ × ℕ) : Type 0 where
  pub order : Resting
  pub there : Among order orders
  pub passes : is_worse_of taker bank past order ≡ true
  pub price : order.price ≡ level.0
  pub first : Each (λ other. is_worse_of taker bank past other ≡ true → is_better taker other.price level.0 ≡ false) orders
  pub lots : level.1 ≡ level_lots taker bank level.0 orders

-- the same, or there is no such order
abbrev pub IsLevelOf : Side → ℕ → Option ℕ → List Resting → Option (ℕ × ℕ) → Type 0
IsLevelOf taker bank past orders None = Each (λ order. is_worse_of taker bank past order ≡ false) orders
IsLevelOf taker bank past orders (Some level) = IsLevel taker bank past orders level

-- the level at a price: with it all lots that the bank has there
abbrev pub level_at : Side → ℕ → List Resting → ℕ → ℕ × ℕ
level_at taker bank orders price = (price, level_lots taker bank price orders)

-- the price of such a level, or there is none
abbrev pub IsPriceOf : Side → ℕ → Option ℕ → List Resting → Option ℕ → Type 0
IsPriceOf taker bank past orders price = IsLevelOf taker bank past orders (option_map (level_at taker bank orders) price)

-- a bank has an order among these
abbrev pub Owns : ℕ → List Resting → Type 0
Owns bank orders = (order : Resting) × Among order orders × (order.bank ≡ bank)

-- these banks are those that have an order in the book, each once, from the lowest number on
pub record AreOwners (book : Book) (owners : List ℕ) : Type 0 where
  pub all : Each (λ order. Contains owners order.bank) book.orders
  pub owns : (bank : ℕ) → Contains owners bank → Owns bank book.orders
  pub rising : IsStrictlyIncreasing owners
  pub few : length owners ≤ book.banks

-- all orders of a side arrived before `before`
abbrev pub AreInTime : Side → ℕ → List Resting → Type 0
AreInTime side before orders = Each (λ order. order.side ≡ side → order.arrival < before) orders
