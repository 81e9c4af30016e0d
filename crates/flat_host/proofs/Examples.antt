-- The host's tables tried on two small sessions with totals and settlements, worked by hand.
use Rattle.std.proofs.Common.{ℕ, ◌≡◌, List, [], ◌∷◌, inl, inr, refl, arith, replicate, Some, None}
use Rattle.std.specs.Prelude.{slice_set}
use Rattle.fx_amounts.specs.declared.side.Side.{Side}
use Rattle.fx_amounts.specs.declared.side.Side.TheVariants.{Buy, Sell}
use Rattle.fx_rules.specs.declared.orders.ActiveOrder.{ActiveOrder}
use Rattle.fx_rules.specs.declared.orders.Fill.{Fill}
use Rattle.fx_rules.specs.declared.command.Life.TheVariants.{Day, Fok}
use Rattle.fx_rules.specs.declared.outcome.Outcome.TheVariants.{Ordered, Killed, TotalSet, Settled, Shown}
use Rattle.flat_host.specs.FlatState.{FlatCredit, FlatState, limit_place, use_in, spent_in, room_in, line_in}
use Rattle.flat_host.specs.inside.Parts.{PlannedIn, OrderedIn, taker_from, order_carried, shown_in}
use Rattle.flat_host.specs.inside.Turns.{TotalSetIn, SettledIn, total_raised_in, settled_raised_in}

-- banks ALFA, BETA and GAMA, and one pair at 100 credit units a lot
abbrev alfa : ℕ
alfa = 0

abbrev beta : ℕ
beta = 1

abbrev gama : ℕ
gama = 2

-- two banks set the same limit on each other
abbrev both : ℕ → ℕ → ℕ → List ℕ → List ℕ
both i j limit limits = slice_set (slice_set limits (limit_place i j) limit) (limit_place j i) limit

abbrev credit : List ℕ → ℕ → FlatCredit
credit limits total = record {
  banks = 3;
  limits = limits;
  uses = replicate 4225 0;
  totals = slice_set (replicate 65 None) alfa (Some total);
}

abbrev standing : ℕ → ℕ → Side → ℕ → ℕ → ℕ → ActiveOrder
standing bank number side price left arrival = record {
  pair = 0;
  order = record { bank = bank; number = number; side = side; price = price; left = left; arrival = arrival };
}

abbrev traded : ℕ → ℕ → Side → ℕ → ℕ → ℕ → ℕ → Fill
traded taker taker_number side maker maker_number price lots = record {
  pair = 0;
  taker = taker;
  taker_number = taker_number;
  taker_side = side;
  maker = maker;
  maker_number = maker_number;
  price = price;
  lots = lots;
}

-- the counts of the three banks, and of the operator at 64
abbrev sent : ℕ → ℕ → ℕ → List ℕ
sent a b c = slice_set (slice_set (slice_set (replicate 65 0) alfa a) beta b) gama c

-- ---- A taker's total. Each two banks have a line of 1000, and ALFA has a total of 350. BETA sells 2 at 20 and GAMA 2 at 30.

abbrev offered : FlatState
offered = record {
  orders = standing beta 1 Sell 20 2 0 ∷ standing gama 1 Sell 30 2 1 ∷ [];
  credit = credit (both alfa beta 1000 (both alfa gama 1000 (both beta gama 1000 (replicate 4225 0)))) 350;
  counts = sent 0 1 1;
  weights = 100 ∷ [];
}

reaches : (room_in offered.credit alfa ≡ Some 350) × (line_in offered.credit alfa beta ≡ 350) × (line_in offered.credit gama alfa ≡ 350) × (line_in offered.credit beta gama ≡ 1000)
reaches = (refl, refl, refl, refl)

-- ALFA buys 4, of which its total pays for three: two of BETA and one of GAMA.
abbrev three : List Fill
three = traded alfa 1 Buy beta 1 20 2 ∷ traded alfa 1 Buy gama 1 30 1 ∷ []

planned : PlannedIn offered (taker_from offered alfa Buy 0 30 4) three 1
planned = record {
  lines = line_in offered.credit alfa;
  lines_are = λ bank _. refl;
  rest = 0;
  sum = refl;
  planned = (
    (standing beta 1 Sell 20 2 0).order,
    omega arith,
    record { there = inl refl; first = (refl, (refl, tt)) },
    refl,
    ((standing gama 1 Sell 30 2 1).order, omega arith, record { there = inl refl; first = (refl, tt) }, refl, (refl, inl refl)),
  );
}

ordered : OrderedIn offered (taker_from offered alfa Buy 0 30 4) Day (Ordered 3 1 three)
ordered = (planned, refl, omega arith)

killed : OrderedIn offered (taker_from offered alfa Buy 0 30 4) Fok Killed
killed = (three, 1, planned, omega arith)

-- It has spent 300 then, and has 50 left with each.
abbrev bought : FlatState
bought = order_carried offered (taker_from offered alfa Buy 0 30 4) 1 three

has_left : (spent_in bought.credit alfa ≡ 300) × (room_in bought.credit alfa ≡ Some 50) × (shown_in bought alfa gama ≡ Shown 1000 100 50) × (shown_in bought beta alfa ≡ Shown 1000 200 50)
has_left = (refl, refl, refl, refl)

rests : bought.orders ≡ standing gama 1 Sell 30 1 1 ∷ standing alfa 1 Buy 30 1 2 ∷ []
rests = refl

-- A total of 250 is set to what is spent, and makes no fill; one of 450 lets the rest take GAMA's last lot.
abbrev last_lot : List Fill
last_lot = traded alfa 1 Buy gama 1 30 1 ∷ []

no_less : TotalSetIn bought alfa 250 (TotalSet 300 [])
no_less = (
  refl,
  (
    [],
    [],
    (
      [],
      [],
      1,
      record { lines = line_in (total_raised_in bought alfa 250 []).credit gama; lines_are = λ bank _. refl; rest = 1; sum = refl; planned = (refl, inr refl) },
      refl,
      ([], [], 1, record { lines = line_in (total_raised_in bought alfa 250 []).credit alfa; lines_are = λ bank _. refl; rest = 0; sum = refl; planned = (refl, inl refl) }, refl, refl),
    ),
    refl,
    refl,
  ),
)

raised : TotalSetIn bought alfa 450 (TotalSet 450 last_lot)
raised = (
  refl,
  (
    last_lot,
    [],
    (
      [],
      last_lot,
      1,
      record { lines = line_in (total_raised_in bought alfa 450 []).credit gama; lines_are = λ bank _. refl; rest = 1; sum = refl; planned = (refl, inr refl) },
      refl,
      (
        last_lot,
        [],
        0,
        record {
          lines = line_in (total_raised_in bought alfa 450 []).credit alfa;
          lines_are = λ bank _. refl;
          rest = 0;
          sum = refl;
          planned = ((standing gama 1 Sell 30 1 1).order, omega arith, record { there = inl refl; first = (refl, tt) }, refl, (refl, inl refl));
        },
        refl,
        refl,
      ),
    ),
    refl,
    refl,
  ),
)

emptied : ((total_raised_in bought alfa 450 last_lot).orders ≡ []) × (room_in (total_raised_in bought alfa 450 last_lot).credit alfa ≡ Some 50)
emptied = (refl, refl)

-- ---- A settlement. ALFA has a line of 300 with BETA and one of 1000 with GAMA, and a total of 200, which it has spent with BETA. Its buy
-- at 45 and GAMA's sell at 44 rest side by side.

abbrev spent_all : FlatState
spent_all = record {
  orders = standing alfa 2 Buy 45 1 2 ∷ standing gama 1 Sell 44 1 3 ∷ [];
  credit = record (credit (both alfa beta 300 (both alfa gama 1000 (replicate 4225 0))) 200) { uses = slice_set (replicate 4225 0) 1 200 };
  counts = sent 2 1 1;
  weights = 100 ∷ [];
}

none_left : (use_in spent_all.credit.uses beta alfa ≡ 200) × (line_in spent_all.credit alfa beta ≡ 0) × (line_in spent_all.credit alfa gama ≡ 0)
none_left = (refl, refl, refl)

-- Giving back 150 between BETA and ALFA opens the line between ALFA and GAMA: GAMA's sell is the later one, and takes the buy.
abbrev met_gama : List Fill
met_gama = traded gama 1 Sell alfa 2 45 1 ∷ []

given : SettledIn spent_all beta alfa 150 (Settled 150 met_gama)
given = (
  refl,
  (
    met_gama,
    [],
    (
      [],
      met_gama,
      1,
      record { lines = line_in (settled_raised_in spent_all beta alfa 150 []).credit alfa; lines_are = λ bank _. refl; rest = 1; sum = refl; planned = (refl, inr refl) },
      refl,
      (
        met_gama,
        [],
        0,
        record {
          lines = line_in (settled_raised_in spent_all beta alfa 150 []).credit gama;
          lines_are = λ bank _. refl;
          rest = 0;
          sum = refl;
          planned = ((standing alfa 2 Buy 45 1 2).order, omega arith, record { there = inl refl; first = (refl, tt) }, refl, (refl, inl refl));
        },
        refl,
        refl,
      ),
    ),
    refl,
    refl,
  ),
)

-- No more is given back than is used: of 1000 that are asked then, 50.
abbrev settled_once : FlatState
settled_once = settled_raised_in spent_all beta alfa 150 met_gama

given_rest : SettledIn settled_once alfa beta 1000 (Settled 50 [])
given_rest = (refl, ([], [], refl, refl, refl))

shown_last : shown_in (settled_raised_in settled_once alfa beta 1000 []) alfa beta ≡ Shown 300 0 100
shown_last = refl
