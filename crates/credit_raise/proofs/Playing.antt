-- A sweep among waiting orders, one fill after another, and what it leaves.
use Rattle.std.proofs.Common.{ℕ, suc, ◌≡◌, ◌+◌, ◌-◌, ◌*◌, ◌/◌, ◌≤◌, ◌<◌, min, false, eqb, List, [], ◌∷◌, ◌++◌, drop, length, get_or, refl, ap, sym, subst, ◌∙◌, arith, append_assoc, add-one}
use Rattle.std.proofs.Math.Seq.{drop-cons}
use Rattle.std.proofs.lemmas.Bool.{cond_both, false_from_ne_true}
use Rattle.fx_rules.specs.declared.orders.Resting.{Resting}
use Rattle.fx_rules.specs.declared.orders.Fill.{Fill}
use Rattle.fx_rules.specs.Lists.{Among, Each}
use Rattle.fx_rules.specs.Sound.{ArrivesBefore}
use Rattle.fx_rules.specs.Sweep.{Taker, is_order, is_open, open_in, IsBest, fill_with, less}
use Rattle.fx_rules.specs.Raise.{taker_of_resting}
use Rattle.fx_rules.proofs.ListLemmas.{Among-filter, Each-weaker}
use Rattle.fx_rules.proofs.Lowering.{is_order-says}
use Rattle.fx_rules.proofs.Opens.{IsOpen, is_open-says}
use Rattle.credit_raise.specs.inside.Playing.{only, other_of, lessened, lessened_all, joined, paid, SweptAmong, AreTurns, Played}
use Rattle.credit_raise.proofs.Lessening.{Each-lessened_all}
use Rattle.credit_raise.proofs.Walking.{Each-joined}

pub paid-append : (weight line : ℕ) (xs ys : List Fill) → paid weight line (xs ++ ys) ≡ paid weight (paid weight line xs) ys
paid-append weight line [] ys = refl
paid-append weight line (f ∷ xs) ys = paid-append weight (line - f.lots * weight) xs ys

pub lessened_all-append : (orders : List Resting) (xs ys : List Fill) → lessened_all orders (xs ++ ys) ≡ lessened_all (lessened_all orders xs) ys
lessened_all-append orders [] ys = refl
lessened_all-append orders (f ∷ xs) ys = lessened_all-append (lessened f.maker f.maker_number f.lots orders) xs ys

-- what is known of the best of the orders that are open where one bank alone can be reached
pub record IsMaker (lots other : ℕ) (t : Taker) (waiting : List Resting) (best : Resting) : Type 0 where
  pub waits : Among best waiting
  pub opens : IsOpen t (only other lots best.bank) best
  pub reached : 1 ≤ lots

pub only_most : (other lots bank : ℕ) → only other lots bank ≤ lots
only_most other lots bank = cond_both (eqb bank other) lots 0 (λ n. n ≤ lots) (λ _. omega arith) (λ _. omega arith)

pub maker-of : (lots other : ℕ) (t : Taker) (waiting : List Resting) (best : Resting) → Among best (open_in (only other lots) t waiting) → IsMaker lots other t waiting best
maker-of lots other t waiting best there =
    let found = Among-filter (λ (o : Resting). is_open t (only other lots o.bank) o) waiting best there in
    let opens = is_open-says t (only other lots best.bank) best found.1 in
    record { waits = found.0; opens = opens; reached = omega (arith, opens.reach, only_most other lots best.bank) }

-- one fill, and the sweep behind it
pub sweep-step : (weight other line : ℕ) (waiting : List Resting) (t : Taker) (maker : Resting) (lots : ℕ) (more : List Fill) (left : ℕ) (rest : ℕ) (later : List Resting)
    → 1 ≤ t.left → IsBest t.side (open_in (only other (line / weight)) t waiting) maker → lots ≡ min t.left (min maker.left (line / weight))
    → rest ≡ line - lots * weight → later ≡ lessened maker.bank maker.number lots waiting
    → SweptAmong weight other rest later (less t lots) more left → SweptAmong weight other line waiting t (fill_with t maker lots ∷ more) left
sweep-step weight other line waiting t maker lots more left rest later some best lots_is rest_is later_is swept = (
  maker,
  some,
  best,
  ap (fill_with t maker) lots_is,
  subst (λ (n : ℕ). SweptAmong weight other n (lessened maker.bank maker.number lots waiting) (less t lots) more left) rest_is
      (subst (λ (os : List Resting). SweptAmong weight other rest os (less t lots) more left) later_is swept),
)

-- the fills so far, one more, and those behind it
pub one_more : (own more : List Fill) (f : Fill) → (own ++ f ∷ []) ++ more ≡ own ++ f ∷ more
one_more own more f = append_assoc own (f ∷ []) more

-- an order's turn, and the turns behind it
pub played-turn : (pair weight i j line : ℕ) (waiting : List Resting) (order : Resting) (rest : List Resting) (own more : List Fill) (left other w p line' : ℕ) (waiting' : List Resting)
    → w ≡ weight → p ≡ pair → other ≡ other_of i j order.bank → SweptAmong w other line waiting (taker_of_resting p order) own left
    → line' ≡ paid w line own → waiting' ≡ joined order left (lessened_all waiting own)
    → Played pair weight i j line' waiting' rest more → Played pair weight i j line waiting (order ∷ rest) (own ++ more)
played-turn pair weight i j line waiting order rest own more left other w p line' waiting' weight_is pair_is other_is swept line_is waiting_is played = (
  own,
  more,
  left,
  subst (λ n. SweptAmong weight (other_of i j order.bank) line waiting (taker_of_resting n order) own left) pair_is
      (subst (λ n. SweptAmong weight n line waiting (taker_of_resting p order) own left) other_is
      (subst (λ n. SweptAmong n other line waiting (taker_of_resting p order) own left) weight_is swept)),
  refl,
  subst (λ n. Played pair weight i j n (joined order left (lessened_all waiting own)) rest more) (line_is ∙ ap (λ n. paid n line own) weight_is)
      (subst (λ (os : List Resting). Played pair weight i j line' os rest more) waiting_is played),
)

-- ---- what waits came before the turns that are still to come

-- a list from a place on
dropped : (orders : List Resting) (n : ℕ) (order : Resting) → n < length orders → order ≡ get_or orders n order → drop n orders ≡ order ∷ drop (n + 1) orders
dropped orders n order within is =
    drop-cons orders n order within ∙ ap (λ (o : Resting). o ∷ drop (suc n) orders) (sym is) ∙ ap (λ m. order ∷ drop m orders) (sym (add-one n))

-- the turn that comes next, where so many were had
pub record IsNext (i j n : ℕ) (turns : List Resting) (order : Resting) (waiting : List Resting) : Type 0 where
  pub here : drop n turns ≡ order ∷ drop (n + 1) turns
  pub are : AreTurns i j (order ∷ drop (n + 1) turns)
  pub before : Each (λ w. Each (ArrivesBefore w) (order ∷ drop (n + 1) turns)) waiting

pub turn-next : (i j n : ℕ) (turns : List Resting) (order : Resting) (waiting : List Resting) → n < length turns → order ≡ get_or turns n order → AreTurns i j (drop n turns) → Each (λ w. Each (ArrivesBefore w) (drop n turns)) waiting → IsNext i j n turns order waiting
turn-next i j n turns order waiting within is are before =
    let here : drop n turns ≡ order ∷ drop (n + 1) turns = dropped turns n order within is in
    record {
      here = here;
      are = subst (AreTurns i j) here are;
      before = subst (λ (os : List Resting). Each (λ w. Each (ArrivesBefore w) os) waiting) here before;
    }

pub turns-behind : (i j : ℕ) (order : Resting) (rest : List Resting) → AreTurns i j (order ∷ rest) → AreTurns i j rest
turns-behind i j order rest are = record { owners = are.owners.1; numbers = are.numbers.1; rising = are.rising.1 }

-- an order comes before others, whatever it has left
before_left : (rest : List Resting) (order : Resting) (left : ℕ) → Each (ArrivesBefore order) rest → Each (ArrivesBefore (record order { left = left })) rest
before_left rest order left before =
    Each-weaker (ArrivesBefore order) (ArrivesBefore (record order { left = left })) (λ q is. record { arrival = is.arrival; number = is.number }) rest before

pub before-earlier : (waiting : List Resting) (order : Resting) (rest : List Resting) → Each (λ w. Each (ArrivesBefore w) (order ∷ rest)) waiting → Each (λ w. w.arrival < order.arrival) waiting
before-earlier waiting order rest before =
    Each-weaker (λ (w : Resting). Each (ArrivesBefore w) (order ∷ rest)) (λ (w : Resting). w.arrival < order.arrival) (λ w is. is.0.arrival) waiting before

pub before-absent : (waiting : List Resting) (order : Resting) (rest : List Resting) → Each (λ w. Each (ArrivesBefore w) (order ∷ rest)) waiting → Each (λ w. is_order order.bank order.number w ≡ false) waiting
before-absent waiting order rest before =
    Each-weaker (λ (w : Resting). Each (ArrivesBefore w) (order ∷ rest)) (λ (w : Resting). is_order order.bank order.number w ≡ false)
    (λ w is. false_from_ne_true (is_order order.bank order.number w) (λ own.
    let says = is_order-says order.bank order.number w own in is.0.number says.0 says.1)) waiting before

pub before-joined : (waiting : List Resting) (order : Resting) (rest : List Resting) (left : ℕ) (own : List Fill) → Each (ArrivesBefore order) rest → Each (λ w. Each (ArrivesBefore w) (order ∷ rest)) waiting → Each (λ w. Each (ArrivesBefore w) rest) (joined order left (lessened_all waiting own))
before-joined waiting order rest left own behind before =
    let Before : Resting → Type 0 = λ w. Each (ArrivesBefore w) rest in
    Each-joined Before order left (lessened_all waiting own)
    (Each-lessened_all Before (before_left rest) waiting own
    (Each-weaker (λ (w : Resting). Each (ArrivesBefore w) (order ∷ rest)) Before (λ w is. is.1) waiting before))
    (before_left rest order left behind)
