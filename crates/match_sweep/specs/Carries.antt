-- What fills do to the orders of one pair's book.
use Rattle.std.specs.Prelude.{ℕ, ◌≡◌, ◌≤◌, true, List, [], ◌∷◌}
use Rattle.fx_rules.specs.declared.orders.Resting.{Resting}
use Rattle.fx_rules.specs.declared.orders.Fill.{Fill}
use Rattle.fx_rules.specs.Lists.{Each}
use Rattle.fx_rules.specs.Sweep.{is_order}
use Rattle.global_book.specs.Book.{Rests}
pub use Rattle.global_book.specs.Lowered.{in_market, lowered_in}

-- a book's orders with a fill made: both its orders are lowered, where they rest
abbrev pub filled_in : List Resting → Fill → List Resting
filled_in orders fill =
    lowered_in fill.taker fill.taker_number fill.lots (lowered_in fill.maker fill.maker_number fill.lots orders)

-- and with fills made in order
abbrev pub carried : List Resting → List Fill → List Resting
carried orders [] = orders
carried orders (fill ∷ fills) = carried (filled_in orders fill) fills

-- the order of this bank and number, where it rests, has so many lots left at least
abbrev pub HasLots : ℕ → ℕ → ℕ → List Resting → Type 0
HasLots bank number lots orders = Each (λ order. is_order bank number order ≡ true → lots ≤ order.left) orders

-- a fill is one of a book's: its maker rests, and its maker and a taker that rests have its lots left at least
pub record IsOfBook (orders : List Resting) (fill : Fill) : Type 0 where
  pub maker : Rests orders fill.maker fill.maker_number
  pub maker_lots : HasLots fill.maker fill.maker_number fill.lots orders
  pub taker_lots : HasLots fill.taker fill.taker_number fill.lots orders

-- so is each of some fills, in the book as those before it leave it
abbrev pub AreOfBook : List Resting → List Fill → Type 0
AreOfBook orders [] = Unit {0}
AreOfBook orders (fill ∷ fills) = IsOfBook orders fill × AreOfBook (filled_in orders fill) fills
