-- A credit change: a limit or a total is set, or used credit is given back; and then each order that rests is swept in its turn,
-- so that orders which the new lines bring together meet.
use Rattle.std.specs.Prelude.{ℕ, zero, suc, ◌≡◌, ◌+◌, max, min, ◌==◌, ◌&&◌, if◌then◌else◌, List, [], ◌∷◌, ◌++◌, find, Option, Some, MatchOption}
use Rattle.fx_rules.specs.declared.orders.Resting.{Resting}
use Rattle.fx_rules.specs.declared.orders.Fill.{Fill}
use Rattle.fx_rules.specs.Session.{Header, pair_count}
use Rattle.fx_rules.specs.State.{State, orders_in, used, spent}
use Rattle.fx_rules.specs.Sweep.{Taker, is_order, Swept, filled_all}

-- the limit that a bank which asks for one sets on another: what it asks, or what the two have used where that is more
abbrev pub limit_set : Header → State → ℕ → ℕ → ℕ → ℕ
limit_set h S bank other asked = max asked (used h S bank other)

-- the state with a bank's limit on another
abbrev pub limited : ℕ → ℕ → ℕ → State → State
limited bank other limit S = record S { limits = λ i j. if i == bank && j == other then limit else S.limits i j }

-- the total that a bank which asks for one sets: what it asks, or what it has spent where that is more
abbrev pub total_set : Header → State → ℕ → ℕ → ℕ
total_set h S bank asked = max asked (spent h S bank)

-- the state with a bank's total
abbrev pub totalled : ℕ → ℕ → State → State
totalled bank most S = record S { totals = λ i. if i == bank then Some most else S.totals i }

-- the units that are given back between two banks: what is asked, or what they have used where that is less
abbrev pub given_back : Header → State → ℕ → ℕ → ℕ → ℕ
given_back h S a b asked = min asked (used h S a b)

-- the state with so many units given back between two banks
abbrev pub settled : ℕ → ℕ → ℕ → State → State
settled a b units S = record S { settlements = S.settlements ++ record { a = a; b = b; units = units } ∷ [] }

-- the order of this bank and number, where it rests in the pair
abbrev pub order_of : State → ℕ → ℕ → ℕ → Option Resting
order_of S pair bank number = find (λ order. is_order bank number order) (orders_in pair S.orders)

-- a resting order as it is swept: as it stands, with its own arrival
abbrev pub taker_of_resting : ℕ → Resting → Taker
taker_of_resting pair now =
    record { bank = now.bank; number = now.number; pair = pair; side = now.side; price = now.price; left = now.left; arrival = now.arrival }

-- some orders of a pair are swept in turn, each that still rests when its turn comes
abbrev pub Turned : Header → ℕ → State → List Resting → List Fill → Type 0
Turned h pair S [] fills = fills ≡ []
Turned h pair S (order ∷ orders) fills =
    MatchOption (order_of S pair order.bank order.number) (Turned h pair S orders fills)
    (λ now. (own more : List Fill) × (left : ℕ) × Swept h S (taker_of_resting pair now) own left
    × (fills ≡ own ++ more) × Turned h pair (filled_all S own) orders more)

-- so many pairs are gone through in header order, from one on; in each the orders that rest as it begins have their turns in
-- arrival order
abbrev pub PairsTurned : Header → ℕ → ℕ → State → List Fill → Type 0
PairsTurned h zero pair S fills = fills ≡ []
PairsTurned h (suc pairs) pair S fills =
    (own more : List Fill) × Turned h pair S (orders_in pair S.orders) own
    × (fills ≡ own ++ more) × PairsTurned h pairs (pair + 1) (filled_all S own) more

-- the fills that a credit change makes, in the state with the change made
abbrev pub Raised : Header → State → List Fill → Type 0
Raised h S fills = PairsTurned h (pair_count h) 0 S fills
