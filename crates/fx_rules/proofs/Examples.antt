-- The definitions tried on a small market, worked by hand.
use Rattle.std.proofs.Common.{ℕ, ◌≡◌, List, [], ◌∷◌, inl, inr, refl, ap, sym, subst, ◌∙◌, length, arith, false, None}
use Rattle.std.proofs.lemmas.Bool.{true≢false}
use Rattle.fx_amounts.specs.declared.side.Side.TheVariants.{Buy, Sell}
use Rattle.fx_rules.specs.declared.orders.ActiveOrder.{ActiveOrder}
use Rattle.fx_rules.specs.declared.orders.Resting.{Resting}
use Rattle.fx_rules.specs.declared.orders.Fill.{Fill}
use Rattle.fx_rules.specs.declared.session.PairRule.{PairRule}
use Rattle.fx_rules.specs.Session.{Header, opening_limit}
use Rattle.fx_rules.specs.State.{State, used, line, reach}
use Rattle.fx_rules.specs.Lists.{Among}
use Rattle.fx_rules.specs.NoCross.{NoCross}
use Rattle.fx_rules.proofs.Opens.{orders_in-among}
use Rattle.fx_rules.specs.Sweep.{Taker, Swept, is_preferred, open_orders, amount, fill_with, filled}
use Rattle.fx_rules.specs.Step.{IsOutcome, after}
use Rattle.fx_rules.specs.declared.command.Command.{Command}
use Rattle.fx_rules.specs.declared.command.Command.TheVariants.{Order}
use Rattle.fx_rules.specs.declared.command.Life.{Life}
use Rattle.fx_rules.specs.declared.command.Life.TheVariants.{Day, Ioc, Fok}
use Rattle.fx_rules.specs.declared.outcome.Outcome.TheVariants.{Ordered, Killed}

-- Three banks, 0 to 2, and one pair at 100 credit units a lot. Banks 0 and 1 have a line of 250, 0 and 2 of 100; 1 and
-- 2 have none.
abbrev pub pair : PairRule
pair = record { base = 69 ∷ 85 ∷ 82 ∷ []; quote = 85 ∷ 83 ∷ 68 ∷ []; decimals = 5; lot = 1000000; weight = 100 }

abbrev pub header : Header
header = record {
  version = 1;
  banks = [] ∷ [] ∷ [] ∷ [];
  pairs = pair ∷ [];
  limits = 0 ∷ 250 ∷ 100 ∷ 250 ∷ 0 ∷ 0 ∷ 100 ∷ 0 ∷ 0 ∷ [];
  totals = [];
}

abbrev pub sell : ℕ → ℕ → ℕ → ℕ → ℕ → ActiveOrder
sell bank number price left arrival = record { pair = 0; order = record { bank = bank; number = number; side = Sell; price = price; left = left; arrival = arrival } }

-- bank 1 sells 3 lots at 20, bank 2 one at 10, and bank 0 one at 5 itself
abbrev pub market : State
market = record {
  orders = sell 1 1 20 3 0 ∷ sell 2 1 10 2 1 ∷ sell 0 1 5 1 2 ∷ [];
  limits = opening_limit header;
  totals = λ _. None;
  fills = [];
  settlements = [];
  counts = 1 ∷ 1 ∷ 1 ∷ [];
}

-- bank 0 buys 4 lots at 20
abbrev pub buyer : Taker
buyer = record { bank = 0; number = 2; pair = 0; side = Buy; price = 20; left = 4; arrival = 3 }

abbrev pub fill : ℕ → ℕ → ℕ → Fill
fill maker price lots = record {
  pair = 0;
  taker = 0;
  taker_number = 2;
  taker_side = Buy;
  maker = maker;
  maker_number = 1;
  price = price;
  lots = lots;
}

-- It can reach two lots of bank 1 and one of bank 2.
reaches_of_one : reach header market 0 1 0 ≡ 2
reaches_of_one = refl

reaches_of_two : reach header market 0 2 0 ≡ 1
reaches_of_two = refl

-- Its own order is not open to it, though it has the best price.
opens : open_orders header market buyer ≡ (sell 1 1 20 3 0).order ∷ (sell 2 1 10 2 1).order ∷ []
opens = refl

abbrev pub taken : List Fill
taken = fill 2 10 1 ∷ fill 1 20 2 ∷ []

-- It takes one lot of bank 2 at 10, as far as the line goes, then two of bank 1 at 20, and has one left.
pub takes : Swept header market buyer taken 1
takes = (
  (sell 2 1 10 2 1).order,
  omega arith,
  record { there = inr (inl refl); first = (refl, (refl, tt)) },
  refl,
  (
    (sell 1 1 20 3 0).order,
    omega arith,
    record { there = inl refl; first = (refl, tt) },
    refl,
    (refl, inr refl),
  ),
)

-- Whatever is swept, this is its first fill: not two lots, not at 20, not with bank 1, and not none.
first_is : (f : Fill) (fs : List Fill) (left : ℕ) → Swept header market buyer (f ∷ fs) left → f ≡ fill 2 10 1
first_is f fs left swept = elim swept.2.there [
  | inl is_one ↦ absurd (true≢false (subst (λ (q : Resting). is_preferred Buy (sell 2 1 10 2 1).order q ≡ false) is_one swept.2.first.1.0))
  | inr (inl is_two) ↦ swept.3 ∙ ap (λ (q : Resting). fill_with buyer q (amount buyer q (reach header market 0 q.bank 0))) is_two
  | inr (inr none) ↦ absurd none
]

goes_on : (left : ℕ) → Swept header market buyer [] left → ⊥
goes_on left swept = elim swept.1 [
  | inl none_left ↦ omega (arith, none_left)
  | inr none_open ↦ omega (arith, ap (λ (os : List Resting). length os) none_open)
]

-- So as a Day order it has filled 3 and rests with 1, and as a Fok order it is killed.
abbrev order : Life → Command
order life = Order Buy 0 20 4 life

ordered : IsOutcome header market 0 (order Day) (Ordered 3 1 taken)
ordered = (takes, refl, omega arith)

dropped : IsOutcome header market 0 (order Ioc) (Ordered 3 0 taken)
dropped = (takes, omega arith, refl)

killed : IsOutcome header market 0 (order Fok) Killed
killed = (taken, 1, takes, omega arith)

-- After the Day order each maker has less, its rest stands last, and the lines are used up but for 50.
abbrev later : State
later = after market 0 (order Day) (Ordered 3 1 taken)

stands : later.orders ≡ sell 1 1 20 1 0 ∷ sell 2 1 10 1 1 ∷ sell 0 1 5 1 2
    ∷ (record { pair = 0; order = record { bank = 0; number = 2; side = Buy; price = 20; left = 1; arrival = 3 } }) ∷ []
stands = refl

uses : (used header later 0 1 ≡ 200) × (used header later 2 0 ≡ 100)
uses = (refl, refl)

leaves : (line header later 1 0 ≡ 50) × (line header later 0 2 ≡ 0)
leaves = (refl, refl)

counts : later.counts ≡ 2 ∷ 1 ∷ 1 ∷ []
counts = refl

-- A maker with nothing left no longer rests, and its better price that cannot be reached is passed over: where bank 0 has
-- no line with bank 2, it takes the one lot that it wants of bank 1.
abbrev apart : Header
apart = record header { limits = 0 ∷ 100 ∷ 100 ∷ 250 ∷ 0 ∷ 0 ∷ 0 ∷ 0 ∷ 0 ∷ [] }

abbrev split : State
split = record market { orders = sell 2 1 10 2 1 ∷ sell 1 1 20 1 2 ∷ []; limits = opening_limit apart }

passes_over : Swept apart split (record buyer { left = 2 }) (fill 1 20 1 ∷ []) 1
passes_over = (
  (sell 1 1 20 1 2).order,
  omega arith,
  record { there = inl refl; first = (refl, tt) },
  refl,
  (refl, inr refl),
)

gone : (filled split (fill 1 20 1)).orders ≡ sell 2 1 10 2 1 ∷ []
gone = refl

-- Of two equal prices the earlier order goes first.
abbrev level : State
level = record market { orders = sell 1 1 20 1 0 ∷ sell 2 1 20 1 1 ∷ [] }

earlier_first : (f : Fill) (fs : List Fill) (left : ℕ) → Swept header level buyer (f ∷ fs) left → f ≡ fill 1 20 1
earlier_first f fs left swept = elim swept.2.there [
  | inl is_one ↦ swept.3 ∙ ap (λ (q : Resting). fill_with buyer q (amount buyer q (reach header level 0 q.bank 0))) is_one
  | inr (inl is_two) ↦ absurd (true≢false (subst (λ (q : Resting). is_preferred Buy (sell 1 1 20 1 0).order q ≡ false) is_two swept.2.first.0))
  | inr (inr none) ↦ absurd none
]

-- A buy that could trade with a resting sell does not rest beside it.
abbrev pub buy : ℕ → ℕ → ℕ → ℕ → ℕ → ActiveOrder
buy bank number price left arrival = record { pair = 0; order = record { bank = bank; number = number; side = Buy; price = price; left = left; arrival = arrival } }

crossed : NoCross header (record market { orders = sell 1 1 20 1 0 ∷ buy 0 1 20 1 1 ∷ [] }) → ⊥
crossed uncrossed =
    omega (arith, uncrossed 0 (buy 0 1 20 1 1).order (sell 1 1 20 1 0).order (inr (inl refl)) (inl refl) refl refl (λ same. omega (arith, same)) (omega arith))

-- A bank's own orders may rest crossed.
abbrev own_orders : List ActiveOrder
own_orders = sell 0 1 5 1 0 ∷ buy 0 2 20 1 1 ∷ []

owner_is : (active : ActiveOrder) → Among active own_orders → active.order.bank ≡ 0
owner_is active (inl one) = ap (λ (a : ActiveOrder). a.order.bank) one
owner_is active (inr (inl other)) = ap (λ (a : ActiveOrder). a.order.bank) other
owner_is active (inr (inr none)) = absurd none

own_may_cross : NoCross header (record market { orders = own_orders })
own_may_cross p b s b_rests s_rests b_buys s_sells others reached =
    let buys = orders_in-among p own_orders b b_rests in
    let sells = orders_in-among p own_orders s s_rests in
    absurd (others (ap (λ (q : Resting). q.bank) buys.3 ∙ owner_is buys.0 buys.1 ∙ sym (ap (λ (q : Resting). q.bank) sells.3 ∙ owner_is sells.0 sells.1)))
