-- What a bank sees of the market, and what it is told of an outcome.
use Rattle.std.specs.Prelude.{ℕ, Bool, ◌||◌, ◌==◌, nat_le, if◌then◌else◌, List, [], map, filter, Option}
use Rattle.fx_rules.specs.declared.orders.Resting.{Resting}
use Rattle.fx_rules.specs.declared.orders.Fill.{Fill}
use Rattle.fx_rules.specs.declared.outcome.Outcome.{Outcome}
use Rattle.fx_rules.specs.declared.outcome.Outcome.TheVariants.{Ordered, LineSet, TotalSet, Settled}
use Rattle.fx_rules.specs.Lists.{below}
use Rattle.fx_rules.specs.Session.{Header, pair_count}
use Rattle.fx_rules.specs.State.{State, others, orders_in, count_of, used, line, reach}

-- a bank sees an order of a pair that is its own, or whose owner it can reach there for a lot at least
abbrev pub sees : Header → State → ℕ → ℕ → Resting → Bool
sees h S bank pair order = (order.bank == bank) || nat_le 1 (reach h S bank order.bank pair)

-- an order as a bank sees it: without its arrival, and without its number where it is another bank's
abbrev pub seen_as : ℕ → Resting → Resting
seen_as bank order = record order { number = if order.bank == bank then order.number else 0; arrival = 0 }

-- the orders of a pair that a bank sees, in arrival order
abbrev pub orders_seen : Header → State → ℕ → ℕ → List Resting
orders_seen h S bank pair = map (seen_as bank) (filter (sees h S bank pair) (orders_in pair S.orders))

-- what a bank knows of its credit with another one: the limit that it sets, what the two have used, and their line
pub record CreditSeen : Type 0 where
  pub other : ℕ
  pub limit : ℕ
  pub used : ℕ
  pub line : ℕ

abbrev pub credit_seen : Header → State → ℕ → ℕ → CreditSeen
credit_seen h S bank other = record { other = other; limit = S.limits bank other; used = used h S bank other; line = line h S bank other }

-- a bank's view: the orders that it sees, pair by pair; its credit with each other bank; its total, where it has one; the number
-- of its commands
pub record View : Type 0 where
  pub orders : List (List Resting)
  pub credit : List CreditSeen
  pub own_total : Option ℕ
  pub count : ℕ

abbrev pub view : Header → State → ℕ → View
view h S bank = record {
  orders = map (orders_seen h S bank) (below (pair_count h));
  credit = map (credit_seen h S bank) (others h bank);
  own_total = S.totals bank;
  count = count_of S bank;
}

-- a fill as its taker is told of it: without the maker's number
abbrev pub told_fill : Fill → Fill
told_fill fill = record fill { maker_number = 0 }

-- an outcome as the sender is told of it: fills without their makers' numbers, and of a credit change what was set or given back
-- alone
abbrev pub told : Outcome → Outcome
told (Ordered done rests fills) = Ordered done rests (map told_fill fills)
told (LineSet limit fills) = LineSet limit []
told (TotalSet most fills) = TotalSet most []
told (Settled given fills) = Settled given []
told outcome = outcome

-- a fill as one of its banks sees it: without the number of the other's order
abbrev pub fill_seen : ℕ → Fill → Fill
fill_seen bank fill = record fill {
  taker_number = if fill.taker == bank then fill.taker_number else 0;
  maker_number = if fill.maker == bank then fill.maker_number else 0;
}
