-- A walk along a bank's orders of a side that passes those that arrived too late.
use Rattle.std.specs.Prelude.{ℕ, ◌≡◌, ◌+◌, ◌^◌, ◌↔◌, List, [], length, Option, Some, None, IfSome}
use Rattle.fx_amounts.specs.Side.{opposite}
use Rattle.fx_amounts.specs.declared.side.Side.{Side}
use Rattle.fx_rules.specs.declared.orders.Resting.{Resting}
use Rattle.fx_rules.specs.Lists.{Among}
use Rattle.fx_rules.specs.Sweep.{IsBest}
use Rattle.global_book.specs.Behind.{is_owned_behind, owned_behind}

-- the walk is behind `last`, and all that it has passed behind `past` arrived too late; the next order is the best one behind `last`
pub record PassesLate (orders : List Resting) (bank : ℕ) (side : Side) (before : ℕ) (past next : Option Resting) : Type 0 where
  pub last : Option Resting
  pub same : (order : Resting) → Among order orders → is_owned_behind (opposite side) bank before past order ≡ is_owned_behind (opposite side) bank before last order
  pub none : (next ≡ None) ↔ (owned_behind side bank (2 ^ 64) last orders ≡ [])
  pub best : IfSome next (IsBest (opposite side) (owned_behind side bank (2 ^ 64) last orders))

-- how many orders are still to come
abbrev pub still_to_come : List Resting → ℕ → Side → Option Resting → ℕ
still_to_come orders bank side None = 0
still_to_come orders bank side (Some order) = length (owned_behind side bank (2 ^ 64) (Some order) orders) + 1
