-- A bank's local book of a pair: what it could take now, by price.
use Rattle.std.specs.Prelude.{ℕ, ◌≡◌, ◌+◌, ◌^◌, ◌==◌, if◌then◌else◌, List, [], ◌∷◌, filter, take}
use Rattle.fx_amounts.specs.declared.side.Side.{Side}
use Rattle.fx_amounts.specs.declared.side.Side.TheVariants.{Buy, Sell}
use Rattle.fx_rules.specs.declared.orders.Fill.{Fill}
use Rattle.fx_rules.specs.declared.orders.Level.{Level}
use Rattle.fx_rules.specs.Lists.{total}
use Rattle.fx_rules.specs.Session.{Header}
use Rattle.fx_rules.specs.State.{State, orders_in}
use Rattle.fx_rules.specs.Sweep.{Taker, Swept, taker_of, is_opposite}

-- the price at which an order of a side takes any price
abbrev pub any_price : Side → ℕ
any_price Buy = 10 ^ 9
any_price Sell = 1

-- the lots that the other side of a pair has left
abbrev pub lots_against : State → ℕ → Side → ℕ
lots_against S pair side = total (λ order. order.left) (filter (λ order. is_opposite side order.side) (orders_in pair S.orders))

-- an unlimited order of a bank, were it to come now: at any price, for all lots of the other side
abbrev pub unlimited : State → ℕ → ℕ → Side → Taker
unlimited S bank pair side = taker_of S bank side pair (any_price side) (lots_against S pair side)

-- a fill in front of levels: one more level, or more lots at the first one's price
abbrev pub with_fill : Fill → List Level → List Level
with_fill fill [] = record { price = fill.price; lots = fill.lots } ∷ []
with_fill fill (level ∷ levels) =
    if fill.price == level.price then record { price = level.price; lots = fill.lots + level.lots } ∷ levels
    else record { price = fill.price; lots = fill.lots } ∷ level ∷ levels

-- the lots of fills by price: fills of one price that follow one another are one level
abbrev pub levels_of : List Fill → List Level
levels_of [] = []
levels_of (fill ∷ fills) = with_fill fill (levels_of fills)

-- a fill behind levels: more lots at the last one's price, or one more level
abbrev pub fill_added : List Level → Fill → List Level
fill_added [] fill = record { price = fill.price; lots = fill.lots } ∷ []
fill_added (level ∷ []) fill =
    if level.price == fill.price then record { price = level.price; lots = level.lots + fill.lots } ∷ []
    else level ∷ record { price = fill.price; lots = fill.lots } ∷ []
fill_added (level ∷ next ∷ levels) fill = level ∷ fill_added (next ∷ levels) fill

-- the first ten levels of what an unlimited order of a bank would take now
abbrev pub Shows : Header → State → ℕ → ℕ → Side → List Level → Type 0
Shows h S bank pair side levels =
    (fills : List Fill) × (left : ℕ) × Swept h S (unlimited S bank pair side) fills left × (levels ≡ take 10 (levels_of fills))

-- a bank's local book of a pair: the bids are what it could sell now, the asks what it could buy, both in the same state
pub record IsDepth (h : Header) (S : State) (bank pair : ℕ) (bids asks : List Level) : Type 0 where
  pub sells : Shows h S bank pair Sell bids
  pub buys : Shows h S bank pair Buy asks
