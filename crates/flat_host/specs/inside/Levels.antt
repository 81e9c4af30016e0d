-- What a local book shows, by the host's orders and tables.
use Rattle.std.specs.Prelude.{ℕ, ◌≡◌, List, filter, take}
use Rattle.fx_amounts.specs.declared.side.Side.{Side}
use Rattle.fx_rules.specs.declared.orders.Fill.{Fill}
use Rattle.fx_rules.specs.declared.orders.Level.{Level}
use Rattle.fx_rules.specs.Lists.{total}
use Rattle.fx_rules.specs.State.{orders_in}
use Rattle.fx_rules.specs.Sweep.{Taker, is_opposite}
use Rattle.fx_rules.specs.Depth.{any_price, levels_of}
use Rattle.flat_host.specs.FlatState.{FlatState}
use Rattle.flat_host.specs.inside.Parts.{PlannedIn}

-- an order of a bank that takes any price and wants all there is, were it to come now
abbrev pub unlimited_in : FlatState → ℕ → ℕ → Side → Taker
unlimited_in l bank pair side = record {
  bank = bank;
  number = 0;
  pair = pair;
  side = side;
  price = any_price side;
  left = total (λ order. order.left) (filter (λ order. is_opposite side order.side) (orders_in pair l.orders));
  arrival = total (λ count. count) l.counts;
}

-- the first ten levels of what such an order would take
abbrev pub ProbedIn : FlatState → ℕ → ℕ → Side → List Level → Type 0
ProbedIn l bank pair side levels =
    (fills : List Fill) × (left : ℕ) × PlannedIn l (unlimited_in l bank pair side) fills left × (levels ≡ take 10 (levels_of fills))
