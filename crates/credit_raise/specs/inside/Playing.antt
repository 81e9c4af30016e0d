-- Two banks' orders met by one another in arrival order. `waiting` are those that had their turns, with what they have left.
use Rattle.std.specs.Prelude.{ℕ, ◌≡◌, ◌≤◌, ◌-◌, ◌*◌, ◌/◌, ◌==◌, nat_lt, Bool, not, if◌then◌else◌, List, [], ◌∷◌, ◌++◌, ◌⊎◌, Option, Some, None}
use Rattle.std.specs.List.Sorted.{IsPermutation}
use Rattle.fx_amounts.specs.declared.side.Side.{Side}
use Rattle.fx_rules.specs.declared.orders.Resting.{Resting}
use Rattle.fx_rules.specs.declared.orders.Fill.{Fill}
use Rattle.fx_rules.specs.Lists.{Each, EachPair}
use Rattle.fx_rules.specs.Sound.{ArrivesBefore}
use Rattle.fx_rules.specs.Sweep.{Taker, is_order, open_in, IsBest, amount, fill_with, less}
use Rattle.fx_rules.specs.Raise.{taker_of_resting}

-- one bank alone can be reached, for so many lots
abbrev pub only : ℕ → ℕ → ℕ → ℕ
only other lots bank = if bank == other then lots else 0

-- the one of two banks that is not this one
abbrev pub other_of : ℕ → ℕ → ℕ → ℕ
other_of i j bank = if bank == i then j else i

-- the best of some orders, where there is one
abbrev pub IsBestOf : Side → List Resting → Option Resting → Type 0
IsBestOf side orders None = orders ≡ []
IsBestOf side orders (Some best) = IsBest side orders best

-- the order of this bank and number has so many lots less; where nothing is left it is gone
abbrev pub lessened : ℕ → ℕ → ℕ → List Resting → List Resting
lessened bank number lots [] = []
lessened bank number lots (order ∷ orders) =
    if is_order bank number order
    then (if nat_lt lots order.left then record order { left = order.left - lots } ∷ orders else orders)
    else (order ∷ lessened bank number lots orders)

-- the makers of some fills have the fills' lots less
abbrev pub lessened_all : List Resting → List Fill → List Resting
lessened_all orders [] = orders
lessened_all orders (fill ∷ fills) = lessened_all (lessened fill.maker fill.maker_number fill.lots orders) fills

-- what a line has left once some fills are paid for
abbrev pub paid : ℕ → ℕ → List Fill → ℕ
paid weight line [] = line
paid weight line (fill ∷ fills) = paid weight (line - fill.lots * weight) fills

-- the orders with what a later one has left behind them, where anything is
abbrev pub joined : Resting → ℕ → List Resting → List Resting
joined order left orders = if nat_lt 0 left then orders ++ record order { left = left } ∷ [] else orders

-- the sweep of a taker among waiting orders, of which one bank's can be reached, for as much as the line pays for
abbrev pub SweptAmong : ℕ → ℕ → ℕ → List Resting → Taker → List Fill → ℕ → Type 0
SweptAmong weight other line waiting t [] left =
    (left ≡ t.left) × ((t.left ≡ 0) ⊎ (open_in (only other (line / weight)) t waiting ≡ []))
SweptAmong weight other line waiting t (fill ∷ fills) left =
    (best : Resting) × (1 ≤ t.left) × IsBest t.side (open_in (only other (line / weight)) t waiting) best
    × (fill ≡ fill_with t best (amount t best (line / weight)))
    × SweptAmong weight other (line - fill.lots * weight) (lessened fill.maker fill.maker_number fill.lots waiting) (less t fill.lots) fills left

-- orders of two banks in arrival order, no two of one command
pub record AreTurns (i j : ℕ) (orders : List Resting) : Type 0 where
  pub owners : Each (λ order. (order.bank ≡ i) ⊎ (order.bank ≡ j)) orders
  pub numbers : Each (λ order. 1 ≤ order.number) orders
  pub rising : EachPair ArrivesBefore orders

-- an order arrived before this, or not
abbrev pub is_early : ℕ → Resting → Bool
is_early from order = nat_lt order.arrival from

abbrev pub is_late : ℕ → Resting → Bool
is_late from order = not (is_early from order)

-- these are orders of two banks in any order, and those are the same in arrival order
pub record AreGathered (i j : ℕ) (orders live : List Resting) : Type 0 where
  pub same : IsPermutation live orders
  pub turns : AreTurns i j live

-- some orders of two banks have their turns: each is swept among those that wait, and waits with what it has left
abbrev pub Played : ℕ → ℕ → ℕ → ℕ → ℕ → List Resting → List Resting → List Fill → Type 0
Played pair weight i j line waiting [] fills = fills ≡ []
Played pair weight i j line waiting (order ∷ orders) fills =
    (own more : List Fill) × (left : ℕ)
    × SweptAmong weight (other_of i j order.bank) line waiting (taker_of_resting pair order) own left
    × (fills ≡ own ++ more)
    × Played pair weight i j (paid weight line own) (joined order left (lessened_all waiting own)) orders more
