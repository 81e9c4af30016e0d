-- The orders that a taker is looking for, whose owners it can reach.
use Rattle.std.specs.Prelude.{ℕ, Bool, true, ◌&&◌, nat_le, nat_lt, List, filter, Option, Some, None, slice_index}
use Rattle.fx_amounts.specs.Price.{crosses}
use Rattle.fx_amounts.specs.Side.{opposite}
use Rattle.fx_amounts.specs.declared.side.Side.{Side}
use Rattle.fx_rules.specs.declared.orders.Resting.{Resting}
use Rattle.fx_rules.specs.Plan.{is_behind}
use Rattle.fx_rules.specs.Sweep.{is_opposite}

-- whether a limit, where there is one, allows a taker this price
abbrev pub allows : Side → Option ℕ → ℕ → Bool
allows taker None price = true
allows taker (Some limit) price = crosses taker limit price

-- an order that a taker of this side is looking for: it is on the other side, its owner can be reached for a lot at
-- least, the limit allows its price, it arrived before `before` and it stands behind the order `past`, where there is one
abbrev pub is_sought : Side → List ℕ → Option ℕ → ℕ → Option Resting → Resting → Bool
is_sought taker reach limit before past order =
    is_opposite taker order.side && nat_le 1 (slice_index reach order.bank) && allows taker limit order.price
    && nat_lt order.arrival before && is_behind taker past order

-- the orders of a side that are sought
abbrev pub sought : Side → List ℕ → Option ℕ → ℕ → Option Resting → List Resting → List Resting
sought side reach limit before past orders = filter (is_sought (opposite side) reach limit before past) orders
