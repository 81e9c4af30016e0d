-- The search for the best order over the flat list.
use Rattle.std.specs.Prelude.{ℕ, ◌≡◌, ◌/◌, Bool, ◌&&◌, ◌==◌, List, [], filter, map, Option, Some, None, slice_index, if◌then◌else◌}
use Rattle.fx_amounts.specs.declared.side.Side.{Side}
use Rattle.fx_rules.specs.declared.orders.ActiveOrder.{ActiveOrder}
use Rattle.fx_rules.specs.declared.orders.Resting.{Resting}
use Rattle.fx_rules.specs.Sweep.{Taker, is_open, is_preferred, IsBest}
use Rattle.fx_rules.specs.Plan.{is_behind}

-- an active order of the taker's pair is open to it, by the lines that it has left, and comes behind the last one taken
abbrev pub is_candidate : ℕ → List ℕ → Taker → Option Resting → ActiveOrder → Bool
is_candidate weight lines t last active =
    active.pair == t.pair && is_open t (slice_index lines active.order.bank / weight) active.order
    && is_behind t.side last active.order

-- the candidates of a flat list
abbrev pub candidates : ℕ → List ℕ → Taker → Option Resting → List ActiveOrder → List Resting
candidates weight lines t last orders = map (λ active. active.order) (filter (is_candidate weight lines t last) orders)

-- the order that is preferred, of the best so far and the next one
abbrev pub preferred_of : Side → Option Resting → Resting → Resting
preferred_of side None next = next
preferred_of side (Some best) next = if is_preferred side next best then next else best

-- the best of some orders, where there is one
abbrev pub IsBestOf : Side → List Resting → Option Resting → Type 0
IsBestOf side orders None = orders ≡ []
IsBestOf side orders (Some best) = IsBest side orders best
