-- The sweep of a taker: which resting orders it can trade with, which of them it takes, and for how much.
use Rattle.std.specs.Prelude.{ℕ, ◌≡◌, ◌≤◌, ◌+◌, ◌-◌, min, Bool, true, false, not, ◌&&◌, ◌==◌, nat_le, nat_lt, if◌then◌else◌, List, [], ◌∷◌, ◌++◌, filter, ◌⊎◌}
use Rattle.std.specs.List.{AllByRecursion}
pub use Rattle.fx_amounts.specs.Preference.{is_better}
use Rattle.fx_amounts.specs.Preference.{comes_first}
use Rattle.fx_amounts.specs.Price.{crosses}
use Rattle.fx_amounts.specs.declared.side.Side.{Side}
use Rattle.fx_amounts.specs.declared.side.Side.TheVariants.{Buy, Sell}
use Rattle.fx_rules.specs.declared.orders.ActiveOrder.{ActiveOrder}
use Rattle.fx_rules.specs.declared.orders.Resting.{Resting}
use Rattle.fx_rules.specs.declared.orders.Fill.{Fill}
use Rattle.fx_rules.specs.declared.taker.SweptOrder.{SweptOrder}
use Rattle.fx_rules.specs.Lists.{Among}
use Rattle.fx_rules.specs.Session.{Header}
use Rattle.fx_rules.specs.State.{State, orders_in, count_of, arrivals, reach}

-- an order as it is swept: `left` is what it still wants
abbrev pub Taker : Type 0
Taker = SweptOrder

-- an order command as it is swept: its number is the sender's next, and it arrives after all commands so far
abbrev pub taker_of : State → ℕ → Side → ℕ → ℕ → ℕ → Taker
taker_of S bank side pair price lots =
    record { bank = bank; number = count_of S bank + 1; pair = pair; side = side; price = price; left = lots; arrival = arrivals S }

abbrev pub is_opposite : Side → Side → Bool
is_opposite Buy Sell = true
is_opposite Sell Buy = true
is_opposite _ _ = false

-- a resting order of the taker's pair is open to it: it is on the other side, another bank's, its owner can be reached
-- for a lot at least, the prices cross, and it arrived before the taker
abbrev pub is_open : Taker → ℕ → Resting → Bool
is_open t owner_reach order = is_opposite t.side order.side && not (order.bank == t.bank) && nat_le 1 owner_reach
    && crosses t.side t.price order.price && nat_lt order.arrival t.arrival

-- the orders of one pair's book that are open to a taker, where `reaches` tells the lots that it can reach of each bank
abbrev pub open_in : (ℕ → ℕ) → Taker → List Resting → List Resting
open_in reaches t book = filter (λ order. is_open t (reaches order.bank) order) book

-- the orders that are open to a taker
abbrev pub open_orders : Header → State → Taker → List Resting
open_orders h S t = open_in (λ bank. reach h S t.bank bank t.pair) t (orders_in t.pair S.orders)

-- a taker of this side prefers the first order: its price is better, or it is the same and the order arrived earlier
abbrev pub is_preferred : Side → Resting → Resting → Bool
is_preferred side order other = comes_first side order.price order.arrival other.price other.arrival

-- the best of some orders: no other is preferred to it
pub record IsBest (side : Side) (orders : List Resting) (best : Resting) : Type 0 where
  pub there : Among best orders
  pub first : AllByRecursion (λ other. is_preferred side other best ≡ false) orders

-- what a taker takes of an order: the least of what both have left and the reach
abbrev pub amount : Taker → Resting → ℕ → ℕ
amount t order owner_reach = min t.left (min order.left owner_reach)

-- the fill of a taker with a resting order, at the resting order's price
abbrev pub fill_with : Taker → Resting → ℕ → Fill
fill_with t order lots = record {
  pair = t.pair;
  taker = t.bank;
  taker_number = t.number;
  taker_side = t.side;
  maker = order.bank;
  maker_number = order.number;
  price = order.price;
  lots = lots;
}

-- a taker as it comes to rest, with so many lots left
abbrev pub at_rest : Taker → ℕ → ActiveOrder
at_rest t left = record {
  pair = t.pair;
  order = record { bank = t.bank; number = t.number; side = t.side; price = t.price; left = left; arrival = t.arrival };
}

-- the order with so many lots left
abbrev pub with_left : ActiveOrder → ℕ → ActiveOrder
with_left active left = record active { order = record active.order { left = left } }

-- an order is the one of this bank and number
abbrev pub is_order : ℕ → ℕ → Resting → Bool
is_order bank number order = order.bank == bank && order.number == number

-- the order of this bank and number has so many lots less; where nothing is left it no longer rests
abbrev pub lowered : ℕ → ℕ → ℕ → List ActiveOrder → List ActiveOrder
lowered bank number lots [] = []
lowered bank number lots (active ∷ rest) =
    if is_order bank number active.order
    then (if nat_lt lots active.order.left then with_left active (active.order.left - lots) ∷ rest else rest)
    else (active ∷ lowered bank number lots rest)

-- the state with a fill added: both its orders are lowered, where they rest
abbrev pub filled : State → Fill → State
filled S fill = record S {
  orders = lowered fill.taker fill.taker_number fill.lots (lowered fill.maker fill.maker_number fill.lots S.orders);
  fills = S.fills ++ fill ∷ [];
}

-- the state with fills added in order
abbrev pub filled_all : State → List Fill → State
filled_all S [] = S
filled_all S (fill ∷ fills) = filled_all (filled S fill) fills

-- the taker with so many lots less
abbrev pub less : Taker → ℕ → Taker
less t lots = record t { left = t.left - lots }

-- The sweep. Either nothing is taken, and the taker has nothing left or nothing is open to it. Or the taker takes the
-- best open order, for the amount, and what it has left is swept in the state with that fill added. `left` is what the
-- taker has left in the end.
abbrev pub Swept : Header → State → Taker → List Fill → ℕ → Type 0
Swept h S t [] left = (left ≡ t.left) × ((t.left ≡ 0) ⊎ (open_orders h S t ≡ []))
Swept h S t (fill ∷ fills) left =
    (best : Resting) × (1 ≤ t.left) × IsBest t.side (open_orders h S t) best
    × (fill ≡ fill_with t best (amount t best (reach h S t.bank best.bank t.pair)))
    × Swept h (filled S fill) (less t fill.lots) fills left
