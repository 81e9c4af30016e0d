-- The orders of a bank and a side behind one of them.
use Rattle.std.specs.Prelude.{ℕ, ◌≡◌, Bool, ◌&&◌, nat_lt, List, filter, Option}
use Rattle.fx_amounts.specs.Side.{opposite}
use Rattle.fx_amounts.specs.declared.side.Side.{Side}
use Rattle.fx_rules.specs.declared.orders.Resting.{Resting}
use Rattle.fx_rules.specs.Lists.{Among}
use Rattle.fx_rules.specs.Plan.{is_behind}
use Rattle.fx_rules.specs.Sweep.{is_opposite}
use Rattle.global_book.specs.Book.{is_of}

-- an order of this bank on the other side of a taker's, that arrived before `before` and stands behind the order `past`, where there is one
abbrev pub is_owned_behind : Side → ℕ → ℕ → Option Resting → Resting → Bool
is_owned_behind taker bank before past order =
    is_opposite taker order.side && is_of bank order && nat_lt order.arrival before && is_behind taker past order

-- such orders of a bank and a side
abbrev pub owned_behind : Side → ℕ → ℕ → Option Resting → List Resting → List Resting
owned_behind side bank before past orders = filter (is_owned_behind (opposite side) bank before past) orders

-- an order of a bank and a side rests, from which a walk along them goes on
pub record IsCursor (orders : List Resting) (bank : ℕ) (side : Side) (past : Resting) : Type 0 where
  pub rests : Among past orders
  pub bank_is : past.bank ≡ bank
  pub side_is : past.side ≡ side
