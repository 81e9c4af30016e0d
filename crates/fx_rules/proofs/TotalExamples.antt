-- Totals and settlements tried on three small sessions of version 2, worked by hand.
use Rattle.std.proofs.Common.{ℕ, ◌≡◌, List, [], ◌∷◌, inl, inr, refl, arith, Option, Some, None}
use Rattle.fx_amounts.specs.declared.side.Side.{Side}
use Rattle.fx_amounts.specs.declared.side.Side.TheVariants.{Buy, Sell}
use Rattle.fx_rules.specs.declared.orders.Resting.{Resting}
use Rattle.fx_rules.specs.declared.orders.Fill.{Fill}
use Rattle.fx_rules.specs.declared.orders.Level.{Level}
use Rattle.fx_rules.specs.declared.command.Command.TheVariants.{Order, Total, Settle, Show}
use Rattle.fx_rules.specs.declared.command.Life.TheVariants.{Day, Ioc, Fok}
use Rattle.fx_rules.specs.declared.outcome.Outcome.TheVariants.{Ordered, Killed, TotalSet, Settled, Shown}
use Rattle.fx_rules.specs.Session.{Header, host, senders, sender_places}
use Rattle.fx_rules.specs.State.{State, opening, used, spent, headroom, line, reach}
use Rattle.fx_rules.specs.Depth.{Shows}
use Rattle.fx_rules.specs.Step.{IsOutcome, after}
use Rattle.fx_rules.proofs.Examples.{pair}

-- three banks, ALFA, BETA and GAMA, and one pair at 100 credit units a lot
abbrev session : List ℕ → Option ℕ → Header
session limits total = record {
  version = 2;
  banks = [] ∷ [] ∷ [] ∷ [];
  pairs = pair ∷ [];
  limits = limits;
  totals = total ∷ None ∷ None ∷ [];
}

abbrev alfa : ℕ
alfa = 0

abbrev beta : ℕ
beta = 1

abbrev gama : ℕ
gama = 2

abbrev resting : ℕ → ℕ → Side → ℕ → ℕ → ℕ → Resting
resting bank number side price left arrival =
    record { bank = bank; number = number; side = side; price = price; left = left; arrival = arrival }

-- a fill by the one bank's order, of the other's
abbrev traded : ℕ → ℕ → ℕ → Side → ℕ → ℕ → ℕ → ℕ → Fill
traded its_pair taker taker_number side maker maker_number price lots = record {
  pair = its_pair;
  taker = taker;
  taker_number = taker_number;
  taker_side = side;
  maker = maker;
  maker_number = maker_number;
  price = price;
  lots = lots;
}

abbrev level : ℕ → ℕ → Level
level price lots = record { price = price; lots = lots }

-- ---- A taker's total. Each two banks have a line of 1000, and ALFA has a total of 350.

abbrev one : Header
one = session (0 ∷ 1000 ∷ 1000 ∷ 1000 ∷ 0 ∷ 1000 ∷ 1000 ∷ 1000 ∷ 0 ∷ []) (Some 350)

-- The operator sends behind the banks, and has a place of its own.
who_sends : senders one ≡ 0 ∷ 1 ∷ 2 ∷ 64 ∷ []
who_sends = refl

places : sender_places one ≡ 65
places = refl

-- BETA sells 2 at 20 and GAMA 2 at 30.
abbrev offered : State
offered = after (after (opening one) beta (Order Sell 0 20 2 Day) (Ordered 0 2 [])) gama (Order Sell 0 30 2 Day) (Ordered 0 2 [])

abbrev of_beta : Resting
of_beta = resting beta 1 Sell 20 2 0

abbrev of_gama : ℕ → Resting
of_gama left = resting gama 1 Sell 30 left 1

-- ALFA could take ten lots of either, and three of both: its total pays for no more.
reaches : (reach one offered alfa beta 0 ≡ 3) × (reach one offered alfa gama 0 ≡ 3) × (reach one offered beta gama 0 ≡ 10)
reaches = (refl, refl, refl)

abbrev three : ℕ → List Fill
three number = traded 0 alfa number Buy beta 1 20 2 ∷ traded 0 alfa number Buy gama 1 30 1 ∷ []

shows_three : Shows one offered alfa 0 Buy (level 20 2 ∷ level 30 1 ∷ [])
shows_three = (
  three 1,
  1,
  (
    of_beta,
    omega arith,
    record { there = inl refl; first = (refl, (refl, tt)) },
    refl,
    (of_gama 2, omega arith, record { there = inl refl; first = (refl, tt) }, refl, (refl, inr refl)),
  ),
  refl,
)

-- An order for four or none is killed, and one for the day has three and rests with one.
killed : IsOutcome one offered alfa (Order Buy 0 30 4 Fok) Killed
killed = (
  three 1,
  1,
  (
    of_beta,
    omega arith,
    record { there = inl refl; first = (refl, (refl, tt)) },
    refl,
    (of_gama 2, omega arith, record { there = inl refl; first = (refl, tt) }, refl, (refl, inr refl)),
  ),
  omega arith,
)

ordered : IsOutcome one offered alfa (Order Buy 0 30 4 Day) (Ordered 3 1 (three 1))
ordered = (
  (
    of_beta,
    omega arith,
    record { there = inl refl; first = (refl, (refl, tt)) },
    refl,
    (of_gama 2, omega arith, record { there = inl refl; first = (refl, tt) }, refl, (refl, inr refl)),
  ),
  refl,
  omega arith,
)

abbrev bought : State
bought = after offered alfa (Order Buy 0 30 4 Day) (Ordered 3 1 (three 1))

-- What ALFA has left with all is 50, whatever its lines would leave.
has_left : (spent one bought alfa ≡ 300) × (headroom one bought alfa ≡ Some 50) × (headroom one bought gama ≡ None)
has_left = (refl, refl, refl)

shown : IsOutcome one bought alfa (Show gama) (Shown 1000 100 50) × IsOutcome one bought beta (Show alfa) (Shown 1000 200 50)
shown = (refl, refl)

-- A total does not go below what is spent.
no_less : IsOutcome one bought alfa (Total 250) (TotalSet 300 [])
no_less = (
  refl,
  ([], [], ([], [], 1, (refl, inr refl), refl, ([], [], 1, (refl, inr refl), refl, refl)), refl, refl),
)

abbrev lowered : State
lowered = after bought alfa (Total 250) (TotalSet 300 [])

-- A higher one lets ALFA's rest take the lot that GAMA has left.
abbrev last_lot : List Fill
last_lot = traded 0 alfa 1 Buy gama 1 30 1 ∷ []

raised : IsOutcome one lowered alfa (Total 450) (TotalSet 450 last_lot)
raised = (
  refl,
  (
    last_lot,
    [],
    (
      [],
      last_lot,
      1,
      (refl, inr refl),
      refl,
      (last_lot, [], 0, (of_gama 1, omega arith, record { there = inl refl; first = (refl, tt) }, refl, (refl, inl refl)), refl, refl),
    ),
    refl,
    refl,
  ),
)

-- A first total of 0 is set to what is spent, and leaves nothing.
abbrev met : State
met = after lowered alfa (Total 450) (TotalSet 450 last_lot)

first_total : IsOutcome one met gama (Total 0) (TotalSet 200 [])
first_total = (refl, ([], [], refl, refl, refl))

leaves_none : line one (after met gama (Total 0) (TotalSet 200 [])) beta gama ≡ 0
leaves_none = refl

-- ---- A settlement. ALFA has a line of 300 with BETA and one of 1000 with GAMA, and a total of 200.

abbrev two : Header
two = session (0 ∷ 300 ∷ 1000 ∷ 300 ∷ 0 ∷ 0 ∷ 1000 ∷ 0 ∷ 0 ∷ []) (Some 200)

-- ALFA has bought 2 of BETA, which is all of its total. So its buy at 45 and GAMA's sell at 44 rest side by side.
abbrev spent_all : State
spent_all =
    after (after (after (after (opening two) beta (Order Sell 0 40 2 Day) (Ordered 0 2 []))
    alfa (Order Buy 0 40 2 Day) (Ordered 2 0 (traded 0 alfa 1 Buy beta 1 40 2 ∷ [])))
    alfa (Order Buy 0 45 1 Day) (Ordered 0 1 []))
    gama (Order Sell 0 44 1 Day) (Ordered 0 1 [])

none_left : (line two spent_all alfa beta ≡ 0) × (line two spent_all alfa gama ≡ 0) × (used two spent_all alfa beta ≡ 200)
none_left = (refl, refl, refl)

-- Giving back 150 between BETA and ALFA opens the line between ALFA and GAMA: GAMA's sell is the later one, and takes the buy.
abbrev met_gama : List Fill
met_gama = traded 0 gama 1 Sell alfa 2 45 1 ∷ []

given : IsOutcome two spent_all host (Settle beta alfa 150) (Settled 150 met_gama)
given = (
  refl,
  (
    met_gama,
    [],
    (
      [],
      met_gama,
      1,
      (refl, inr refl),
      refl,
      (met_gama, [], 0, (resting alfa 2 Buy 45 1 2, omega arith, record { there = inl refl; first = (refl, tt) }, refl, (refl, inl refl)), refl, refl),
    ),
    refl,
    refl,
  ),
)

abbrev settled_once : State
settled_once = after spent_all host (Settle beta alfa 150) (Settled 150 met_gama)

-- The total leaves what it left, less the cost of the fill and more what was given back: 50 is 0 less 100 more 150.
falls : (spent two settled_once alfa ≡ 150) × (headroom two settled_once alfa ≡ Some 50)
falls = (refl, refl)

-- No more is given back than is used.
given_rest : IsOutcome two settled_once host (Settle alfa beta 1000) (Settled 50 [])
given_rest = (refl, ([], [], refl, refl, refl))

-- Nothing is used between ALFA and BETA then, and yet the total leaves 100 alone.
abbrev settled_twice : State
settled_twice = after settled_once host (Settle alfa beta 1000) (Settled 50 [])

shown_last : IsOutcome two settled_twice alfa (Show beta) (Shown 300 0 100)
shown_last = refl

-- ---- A maker's total. A second pair costs 90 a lot. BETA has a line of 1000 with each of the others, who have none, and GAMA a total of
-- 0.

abbrev three_banks : Header
three_banks = record {
  version = 2;
  banks = [] ∷ [] ∷ [] ∷ [];
  pairs = pair ∷ record pair { weight = 90 } ∷ [];
  limits = 0 ∷ 1000 ∷ 0 ∷ 1000 ∷ 0 ∷ 1000 ∷ 0 ∷ 1000 ∷ 0 ∷ [];
  totals = None ∷ None ∷ Some 0 ∷ [];
}

-- BETA sells 3 in each pair and sets a total of 290. ALFA's immediate order takes the two lots that this pays for.
abbrev bounded : State
bounded =
    after (after (after (opening three_banks) beta (Order Sell 0 20 3 Day) (Ordered 0 3 []))
    beta (Order Sell 1 50 3 Day) (Ordered 0 3 []))
    beta (Total 290) (TotalSet 290 [])

pays_for : (reach three_banks bounded alfa beta 0 ≡ 2) × (reach three_banks bounded gama beta 0 ≡ 0)
pays_for = (refl, refl)

took_two : IsOutcome three_banks bounded alfa (Order Buy 0 20 2 Ioc) (Ordered 2 0 (traded 0 alfa 1 Buy beta 1 20 2 ∷ []))
took_two = (
  (resting beta 1 Sell 20 3 0, omega arith, record { there = inl refl; first = (refl, tt) }, refl, (refl, inl refl)),
  omega arith,
  refl,
)

-- 90 are left: no lot of the first pair, and one of the second, of which ALFA buys 3. GAMA bids in the first, and has no credit.
abbrev waiting : State
waiting =
    after (after (after bounded alfa (Order Buy 0 20 2 Ioc) (Ordered 2 0 (traded 0 alfa 1 Buy beta 1 20 2 ∷ [])))
    alfa (Order Buy 1 50 3 Day) (Ordered 1 2 (traded 1 alfa 2 Buy beta 2 50 1 ∷ [])))
    gama (Order Buy 0 20 1 Day) (Ordered 0 1 [])

-- GAMA's own total is raised first, and BETA's binds still.
binds : IsOutcome three_banks waiting gama (Total 500) (TotalSet 500 [])
binds = (
  refl,
  (
    [],
    [],
    ([], [], 1, (refl, inr refl), refl, ([], [], 1, (refl, inr refl), refl, refl)),
    refl,
    ([], [], ([], [], 2, (refl, inr refl), refl, ([], [], 2, (refl, inr refl), refl, refl)), refl, refl),
  ),
)

-- Then BETA's: pair by pair, GAMA has its lot, and ALFA the one that is left to pay for.
abbrev freed : State
freed = after waiting gama (Total 500) (TotalSet 500 [])

abbrev gama_lot : Fill
gama_lot = traded 0 gama 1 Buy beta 1 20 1

abbrev alfa_lot : Fill
alfa_lot = traded 1 alfa 2 Buy beta 2 50 1

by_pairs : IsOutcome three_banks freed beta (Total 500) (TotalSet 500 (gama_lot ∷ alfa_lot ∷ []))
by_pairs = (
  refl,
  (
    gama_lot ∷ [],
    alfa_lot ∷ [],
    (
      [],
      gama_lot ∷ [],
      1,
      (refl, inr refl),
      refl,
      (
        gama_lot ∷ [],
        [],
        0,
        (resting beta 1 Sell 20 1 0, omega arith, record { there = inl refl; first = (refl, tt) }, refl, (refl, inl refl)),
        refl,
        refl,
      ),
    ),
    refl,
    (
      alfa_lot ∷ [],
      [],
      (
        [],
        alfa_lot ∷ [],
        2,
        (refl, inr refl),
        refl,
        (
          alfa_lot ∷ [],
          [],
          1,
          (resting beta 2 Sell 50 2 1, omega arith, record { there = inl refl; first = (refl, tt) }, refl, (refl, inr refl)),
          refl,
          refl,
        ),
      ),
      refl,
      refl,
    ),
  ),
)

abbrev nearly_spent : State
nearly_spent = after freed beta (Total 500) (TotalSet 500 (gama_lot ∷ alfa_lot ∷ []))

twenty_left : headroom three_banks nearly_spent beta ≡ Some 20
twenty_left = refl

-- Giving back 90 pays for one lot more.
one_more : IsOutcome three_banks nearly_spent host (Settle alfa beta 90) (Settled 90 (alfa_lot ∷ []))
one_more = (
  refl,
  (
    [],
    alfa_lot ∷ [],
    refl,
    refl,
    (
      alfa_lot ∷ [],
      [],
      (
        [],
        alfa_lot ∷ [],
        1,
        (refl, inr refl),
        refl,
        (
          alfa_lot ∷ [],
          [],
          0,
          (resting beta 2 Sell 50 1 1, omega arith, record { there = inl refl; first = (refl, tt) }, refl, (refl, inl refl)),
          refl,
          refl,
        ),
      ),
      refl,
      refl,
    ),
  ),
)

twenty_again : headroom three_banks (after nearly_spent host (Settle alfa beta 90) (Settled 90 (alfa_lot ∷ []))) beta ≡ Some 20
twenty_again = refl
