-- What becomes of a book's orders as lots are taken from one of them.
use Rattle.std.specs.Prelude.{ℕ, List, map}
use Rattle.fx_rules.specs.declared.orders.ActiveOrder.{ActiveOrder}
use Rattle.fx_rules.specs.declared.orders.Resting.{Resting}
use Rattle.fx_rules.specs.Sweep.{lowered}

-- the orders of a book as orders of the market, whatever their pair
abbrev pub in_market : List Resting → List ActiveOrder
in_market orders = map (λ order. record { pair = 0; order = order }) orders

-- a book's order of this bank and number has so many lots less, where it rests; where nothing is left it no longer rests
abbrev pub lowered_in : ℕ → ℕ → ℕ → List Resting → List Resting
lowered_in bank number lots orders = map (λ active. active.order) (lowered bank number lots (in_market orders))
