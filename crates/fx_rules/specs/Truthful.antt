-- What a local book promises.
use Rattle.std.specs.Prelude.{ℕ, ◌≡◌, ◌≢◌, ◌≤◌, ◌^◌, List, [], ◌∷◌}
use Rattle.fx_amounts.specs.declared.side.Side.{Side}
use Rattle.fx_rules.specs.declared.orders.Fill.{Fill}
use Rattle.fx_rules.specs.declared.orders.Level.{Level}
use Rattle.fx_rules.specs.declared.command.Command.{Command}
use Rattle.fx_rules.specs.declared.command.Command.TheVariants.{Order}
use Rattle.fx_rules.specs.declared.command.Life.TheVariants.{Ioc}
use Rattle.fx_rules.specs.declared.outcome.Outcome.TheVariants.{Ordered}
use Rattle.fx_rules.specs.Lists.{total}
use Rattle.fx_rules.specs.Session.{Header}
use Rattle.fx_rules.specs.State.{State}
use Rattle.fx_rules.specs.Depth.{levels_of}
use Rattle.fx_rules.specs.Step.{IsCommand, IsOutcome}

-- the lots of some levels, added up
abbrev pub lots_shown : List Level → ℕ
lots_shown levels = total (λ level. level.lots) levels

-- the price of the last of some levels
abbrev pub last_price : List Level → ℕ
last_price [] = 0
last_price (level ∷ []) = level.price
last_price (level ∷ next ∷ levels) = last_price (next ∷ levels)

-- an immediate-or-cancel order for all lots of some levels, at the last one's price
abbrev pub order_for : ℕ → Side → List Level → Command
order_for pair side levels = Order side pair (last_price levels) (lots_shown levels) Ioc

-- A side of a bank's local book is truthful: where it is not empty and its lots are no more than an order can have, the bank
-- may send an order for all of them at the last price, which is filled whole, and by price its fills are the levels.
-- (`side` is that of the order: it buys the asks and sells the bids.)
abbrev pub IsTruthful : Header → State → ℕ → ℕ → Side → List Level → Type 0
IsTruthful h S bank pair side levels =
    levels ≢ [] → lots_shown levels ≤ 10 ^ 6 →
    IsCommand h bank (order_for pair side levels)
    × ((fills : List Fill) × IsOutcome h S bank (order_for pair side levels) (Ordered (lots_shown levels) 0 fills) × (levels_of fills ≡ levels))
