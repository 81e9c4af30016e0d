-- Resting orders that do not cross.
use Rattle.std.specs.Prelude.{ℕ, ◌≡◌, ◌≤◌, ◌<◌}
use Rattle.fx_amounts.specs.declared.side.Side.TheVariants.{Buy, Sell}
use Rattle.fx_rules.specs.declared.orders.Resting.{Resting}
use Rattle.fx_rules.specs.Lists.{Among}
use Rattle.fx_rules.specs.Session.{Header}
use Rattle.fx_rules.specs.State.{State, orders_in, reach}

-- A buy and a sell that rest in one pair do not cross where their owners are different banks that can reach each other
-- for a lot at least: the buy's price is below the sell's. (A bank's own orders may rest crossed, and so may those of
-- banks whose line does not pay for a lot.)
abbrev pub NoCross : Header → State → Type 0
NoCross h S =
    (pair : ℕ) (buy sell : Resting) → Among buy (orders_in pair S.orders) → Among sell (orders_in pair S.orders) →
    buy.side ≡ Buy → sell.side ≡ Sell → (buy.bank ≡ sell.bank → ⊥) → 1 ≤ reach h S buy.bank sell.bank pair → buy.price < sell.price
