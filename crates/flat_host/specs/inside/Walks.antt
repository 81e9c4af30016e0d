-- What private functions and proofs alone say of it, beside `specs/Walks.antt`.
use Rattle.std.specs.Prelude.{ℕ, List, filter, ◌==◌, ◌&&◌}
use Rattle.fx_amounts.specs.declared.side.Side.{Side}
use Rattle.fx_rules.specs.declared.orders.ActiveOrder.{ActiveOrder}
use Rattle.fx_rules.specs.Sweep.{is_opposite}

-- the orders of the other side of a pair
abbrev pub against_in : ℕ → Side → List ActiveOrder → List ActiveOrder
against_in pair side orders = filter (λ active. active.pair == pair && is_opposite side active.order.side) orders
