-- Credit changes, reductions and local books tried on small markets, worked by hand.
use Rattle.std.proofs.Common.{ℕ, ◌≡◌, ◌+◌, List, [], ◌∷◌, inl, inr, refl, arith, map, take, None}
use Rattle.fx_amounts.specs.declared.side.Side.TheVariants.{Buy, Sell}
use Rattle.fx_rules.specs.declared.orders.ActiveOrder.{ActiveOrder}
use Rattle.fx_rules.specs.declared.orders.Resting.{Resting}
use Rattle.fx_rules.specs.declared.orders.Fill.{Fill}
use Rattle.fx_rules.specs.declared.orders.Level.{Level}
use Rattle.fx_rules.specs.State.{State, line}
use Rattle.fx_rules.specs.Raise.{Raised}
use Rattle.fx_rules.specs.Depth.{levels_of, Shows}
use Rattle.fx_rules.specs.View.{orders_seen, view}
use Rattle.fx_rules.specs.Step.{IsOutcome, after}
use Rattle.fx_rules.specs.declared.command.Command.TheVariants.{Cancel, Reduce, Pull, Line}
use Rattle.fx_rules.specs.declared.outcome.Outcome.TheVariants.{Cancelled, Reduced, NotLess, Nothing, Pulled, LineSet}
use Rattle.fx_rules.proofs.Examples.{header, market, sell, buy, fill, taken}

-- Banks 0 and 1 traded 2 lots, which leaves 50 of their line of 250: no lot. So a sell and a buy at 20 rest side by side.
abbrev spent : State
spent = record {
  orders = sell 1 1 20 1 0 ∷ buy 0 1 20 1 1 ∷ [];
  limits = λ i j. 250;
  totals = λ _. None;
  fills = fill 1 20 2 ∷ [];
  settlements = [];
  counts = 1 ∷ 1 ∷ 0 ∷ [];
}

-- Bank 0 raises its limit alone: nothing happens, since bank 1's is still the lesser.
one_side : IsOutcome header spent 0 (Line 1 400) (LineSet 400 [])
one_side = (
  refl,
  ([], [], ([], [], 1, (refl, inr refl), refl, ([], [], 1, (refl, inr refl), refl, refl)), refl, refl),
)

abbrev one_up : State
one_up = after spent 0 (Line 1 400) (LineSet 400 [])

same_line : line header one_up 0 1 ≡ 50
same_line = refl

-- Then bank 1 raises its own. The buy arrived later, so it is the taker.
abbrev met : Fill
met = record (fill 1 20 1) { taker_number = 1 }

both_sides : IsOutcome header one_up 1 (Line 0 400) (LineSet 400 (met ∷ []))
both_sides = (
  refl,
  (
    met ∷ [],
    [],
    (
      [],
      met ∷ [],
      1,
      (refl, inr refl),
      refl,
      (
        met ∷ [],
        [],
        0,
        ((sell 1 1 20 1 0).order, omega arith, record { there = inl refl; first = (refl, tt) }, refl, (refl, inl refl)),
        refl,
        refl,
      ),
    ),
    refl,
    refl,
  ),
)

-- Both orders are gone, and the line is what the new limits leave.
both_gone : (after one_up 1 (Line 0 400) (LineSet 400 (met ∷ []))).orders ≡ []
both_gone = refl

falls : line header (after one_up 1 (Line 0 400) (LineSet 400 (met ∷ []))) 0 1 ≡ 100
falls = refl

-- A limit does not go below what is used.
no_less : IsOutcome header spent 0 (Line 1 50) (LineSet 200 [])
no_less = (
  refl,
  ([], [], ([], [], 1, (refl, inr refl), refl, ([], [], 1, (refl, inr refl), refl, refl)), refl, refl),
)

-- Two sells of bank 1 about a buy of bank 0, which could not reach each other: the new line makes two fills. The buy takes the
-- first sell at its 30, and then the second sell takes the buy at the buy's 50.
abbrev apart : State
apart = record {
  orders = sell 1 1 30 1 0 ∷ buy 0 1 50 2 1 ∷ sell 1 2 10 1 2 ∷ [];
  limits = λ i j. 1000;
  totals = λ _. None;
  fills = [];
  settlements = [];
  counts = 1 ∷ 2 ∷ 0 ∷ [];
}

abbrev first : Fill
first = record (fill 1 30 1) { taker_number = 1 }

abbrev second : Fill
second = record {
  pair = 0;
  taker = 1;
  taker_number = 2;
  taker_side = Sell;
  maker = 0;
  maker_number = 1;
  price = 50;
  lots = 1;
}

two_fills : Raised header apart (first ∷ second ∷ [])
two_fills = (
  first ∷ second ∷ [],
  [],
  (
    [],
    first ∷ second ∷ [],
    1,
    (refl, inr refl),
    refl,
    (
      first ∷ [],
      second ∷ [],
      1,
      ((sell 1 1 30 1 0).order, omega arith, record { there = inl refl; first = (refl, tt) }, refl, (refl, inr refl)),
      refl,
      (
        second ∷ [],
        [],
        0,
        ((buy 0 1 50 1 1).order, omega arith, record { there = inl refl; first = (refl, tt) }, refl, (refl, inl refl)),
        refl,
        refl,
      ),
    ),
  ),
  refl,
  refl,
)

-- A reduction must be below what is left, and keeps the order's place.
reduces : IsOutcome header market 1 (Reduce 0 1 2) (Reduced 2)
reduces = refl

keeps_place : (after market 1 (Reduce 0 1 2) (Reduced 2)).orders ≡ sell 1 1 20 2 0 ∷ sell 2 1 10 2 1 ∷ sell 0 1 5 1 2 ∷ []
keeps_place = refl

not_less : IsOutcome header market 1 (Reduce 0 1 3) (NotLess 3)
not_less = refl

-- A bank's number is its own, and stands in one pair.
cancels : IsOutcome header market 2 (Cancel 0 1) (Cancelled 2)
cancels = refl

no_such : (IsOutcome header market 2 (Cancel 0 2) Nothing) × (IsOutcome header market 2 (Cancel 1 1) Nothing)
no_such = (refl, refl)

taken_out : (after market 2 (Cancel 0 1) (Cancelled 2)).orders ≡ sell 1 1 20 3 0 ∷ sell 0 1 5 1 2 ∷ []
taken_out = refl

pulls : IsOutcome header market 2 (Pull 0) (Pulled 1)
pulls = refl

-- Bank 0 could buy one lot at 10 and two at 20: its own sell is not shown, and no more of bank 1's than the line pays for.
abbrev level : ℕ → ℕ → Level
level price lots = record { price = price; lots = lots }

asks : Shows header market 0 0 Buy (level 10 1 ∷ level 20 2 ∷ [])
asks = (
  taken,
  3,
  (
    (sell 2 1 10 2 1).order,
    omega arith,
    record { there = inr (inl refl); first = (refl, (refl, tt)) },
    refl,
    ((sell 1 1 20 3 0).order, omega arith, record { there = inl refl; first = (refl, tt) }, refl, (refl, inr refl)),
  ),
  refl,
)

-- Fills of one price are one level.
sums : levels_of (fill 2 10 1 ∷ fill 1 10 3 ∷ fill 1 20 2 ∷ []) ≡ level 10 4 ∷ level 20 2 ∷ []
sums = refl

-- Of eleven levels the first ten are shown.
abbrev prices : List ℕ
prices = 1 ∷ 2 ∷ 3 ∷ 4 ∷ 5 ∷ 6 ∷ 7 ∷ 8 ∷ 9 ∷ 10 ∷ []

abbrev eleven : List Fill
eleven = fill 1 1 1 ∷ map (λ price. fill 1 (price + 1) 1) prices

ten : take 10 (levels_of eleven) ≡ map (λ price. level price 1) prices
ten = refl

-- Bank 1 sees its own order with its number and bank 0's without one, and nothing of bank 2, with whom it has no line: so it
-- sees the market alike where bank 2 sells otherwise.
abbrev unnumbered : ActiveOrder → Resting
unnumbered active = record active.order { number = 0; arrival = 0 }

sees_two : orders_seen header market 1 0 ≡ (record (sell 1 1 20 3 0).order { arrival = 0 }) ∷ unnumbered (sell 0 1 5 1 2) ∷ []
sees_two = refl

abbrev elsewhere : State
elsewhere = record market { orders = sell 1 1 20 3 0 ∷ sell 2 7 99 6 1 ∷ sell 0 1 5 1 2 ∷ [] }

sees_alike : view header market 1 ≡ view header elsewhere 1
sees_alike = refl
