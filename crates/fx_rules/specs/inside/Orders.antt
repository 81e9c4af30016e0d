-- Orders by their pair and their bank.
use Rattle.std.specs.Prelude.{ℕ, ◌==◌, List, filter}
use Rattle.fx_rules.specs.declared.orders.ActiveOrder.{ActiveOrder}
use Rattle.fx_rules.specs.declared.orders.Resting.{Resting}
use Rattle.fx_rules.specs.State.{State, orders_in}

-- the orders of a pair as the host keeps them, each with its pair, in arrival order
abbrev pub in_pair : ℕ → List ActiveOrder → List ActiveOrder
in_pair pair orders = filter (λ active. active.pair == pair) orders

-- a bank's resting orders of a pair
abbrev pub orders_by : State → ℕ → ℕ → List Resting
orders_by S pair bank = filter (λ order. order.bank == bank) (orders_in pair S.orders)
