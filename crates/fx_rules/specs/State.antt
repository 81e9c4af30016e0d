-- The state of the market, and the credit that is left between two banks in it.
use Rattle.std.specs.Prelude.{ℕ, ◌≡◌, ◌≢◌, ◌≤◌, ◌<◌, ◌*◌, ◌-◌, ◌/◌, min, Bool, not, ◌&&◌, ◌||◌, ◌==◌, List, [], map, filter, replicate, slice_index, Option, Some, None, option_map}
use Rattle.fx_rules.specs.declared.orders.ActiveOrder.{ActiveOrder}
use Rattle.fx_rules.specs.declared.orders.Resting.{Resting}
use Rattle.fx_rules.specs.declared.orders.Fill.{Fill}
use Rattle.fx_rules.specs.Lists.{total, below}
use Rattle.fx_rules.specs.Session.{Header, bank_count, sender_places, opening_limit, opening_total, weight_of}

-- a settlement between two banks: so many credit units of what they have used are given back
pub record Settlement : Type 0 where
  pub a : ℕ
  pub b : ℕ
  pub units : ℕ

-- the orders that rest, in arrival order; the limit that the first bank sets on the second; the total that a bank has, or that it
-- has none; all fills and all settlements so far, in order; the number of commands that each sender has sent, at its number
pub record State : Type 0 where
  pub orders : List ActiveOrder
  pub limits : ℕ → ℕ → ℕ
  pub totals : ℕ → Option ℕ
  pub fills : List Fill
  pub settlements : List Settlement
  pub counts : List ℕ

-- the state in which the day opens
abbrev pub opening : Header → State
opening h = record {
  orders = [];
  limits = opening_limit h;
  totals = opening_total h;
  fills = [];
  settlements = [];
  counts = replicate (sender_places h) 0;
}

-- the orders that rest in a pair, in arrival order
abbrev pub orders_in : ℕ → List ActiveOrder → List Resting
orders_in pair orders = map (λ active. active.order) (filter (λ active. active.pair == pair) orders)

-- how many commands a sender has sent
abbrev pub count_of : State → ℕ → ℕ
count_of S bank = slice_index S.counts bank

-- how many commands were sent in all: the arrival of the next
abbrev pub arrivals : State → ℕ
arrivals S = total (λ count. count) S.counts

-- a fill is between two banks, whichever of them was its taker
abbrev pub is_between : ℕ → ℕ → Fill → Bool
is_between i j fill = (fill.taker == i && fill.maker == j) || (fill.taker == j && fill.maker == i)

-- the credit that a fill uses: its lots times the pair's weight
abbrev pub cost : Header → Fill → ℕ
cost h fill = fill.lots * weight_of h fill.pair

-- the credit that the fills between two banks use, in any pair and either direction
abbrev pub cost_between : Header → ℕ → ℕ → List Fill → ℕ
cost_between h i j fills = total (cost h) (filter (is_between i j) fills)

-- a settlement is between two banks, in whichever order it names them
abbrev pub settles : ℕ → ℕ → Settlement → Bool
settles i j settlement = (settlement.a == i && settlement.b == j) || (settlement.a == j && settlement.b == i)

-- the units that the settlements between two banks give back
abbrev pub settled_between : ℕ → ℕ → List Settlement → ℕ
settled_between i j settlements = total (λ settlement. settlement.units) (filter (settles i j) settlements)

-- the credit that two banks have used: the cost of the fills between them, less what was given back
abbrev pub used : Header → State → ℕ → ℕ → ℕ
used h S i j = cost_between h i j S.fills - settled_between i j S.settlements

-- the other banks of the session
abbrev pub others : Header → ℕ → List ℕ
others h bank = filter (λ other. not (other == bank)) (below (bank_count h))

-- the credit that a bank has spent: what it has used with all others
abbrev pub spent : Header → State → ℕ → ℕ
spent h S bank = total (used h S bank) (others h bank)

-- what a bank's total leaves of what it has spent, where it has a total
abbrev pub headroom : Header → State → ℕ → Option ℕ
headroom h S bank = option_map (λ most. most - spent h S bank) (S.totals bank)

-- a number, and no more than a bound where there is one
abbrev pub at_most : Option ℕ → ℕ → ℕ
at_most None n = n
at_most (Some most) n = min most n

-- what the lesser of the limits that two banks set on each other leaves of what they have used
abbrev pub left_of_limits : Header → State → ℕ → ℕ → ℕ
left_of_limits h S i j = min (S.limits i j) (S.limits j i) - used h S i j

-- the line between two banks, the credit on which they can trade: what their limits leave, and no more than the total of either
-- leaves
abbrev pub line : Header → State → ℕ → ℕ → ℕ
line h S i j = at_most (headroom h S i) (at_most (headroom h S j) (left_of_limits h S i j))

-- the lots of a pair that the line between two banks allows
abbrev pub reach : Header → State → ℕ → ℕ → ℕ → ℕ
reach h S i j pair = line h S i j / weight_of h pair

-- no line is exceeded: what two banks have used is at most the limit that each sets on the other, and what a bank has spent is at
-- most its total
pub record Within (h : Header) (S : State) : Type 0 where
  pub lines : (i j : ℕ) → i < bank_count h → j < bank_count h → i ≢ j → used h S i j ≤ S.limits i j
  pub totals : (i most : ℕ) → i < bank_count h → S.totals i ≡ Some most → spent h S i ≤ most
