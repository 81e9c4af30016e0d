-- Two banks' orders, played out by themselves, make the fills that the whole market makes.
use Rattle.std.proofs.Common.{ℕ, ◌≡◌, ◌≢◌, ◌-◌, ◌*◌, ◌/◌, ◌≤◌, ◌<◌, Bool, true, false, ◌&&◌, ◌||◌, cond, eqb, ltb, List, [], ◌∷◌, ◌++◌, Option, Some, None, ◌⊎◌, inl, inr, refl, ap, sym, subst, ◌∙◌, arith, append_assoc, append-nil, find}
use Rattle.std.proofs.lemmas.Bool.{cases_Bool, cases_eq, cases_lt, cond-true, cond-false, eq-eqb, ne_eqb, lt-ltb, le-ltb, le-leb, and_from, or_left, or_right, false_from_ne_true}
use Rattle.std.proofs.lemmas.List.Elements.{filter-append}
use Rattle.std.specs.List.{filter}
use Rattle.fx_rules.specs.declared.orders.ActiveOrder.{ActiveOrder}
use Rattle.fx_rules.specs.declared.orders.Resting.{Resting}
use Rattle.fx_rules.specs.declared.orders.Fill.{Fill}
use Rattle.fx_rules.specs.Lists.{Among, Each, EachPair}
use Rattle.fx_rules.specs.Session.{Header, bank_count, weight_of}
use Rattle.fx_rules.specs.State.{State, orders_in, line, reach, cost, is_between}
use Rattle.fx_rules.specs.Sweep.{Taker, Swept, is_open, open_in, open_orders, IsBest, amount, fill_with, is_order, lowered, filled, filled_all, less}
use Rattle.fx_rules.specs.Raise.{order_of, taker_of_resting, Turned}
use Rattle.fx_rules.specs.Sound.{IsSound, IsCovered, IsKept, ArrivesBefore}
use Rattle.fx_rules.proofs.ListLemmas.{Each-among, Each-of, Each-weaker, Among-filter, among_filter, filter_agree_on, filter_filter, filter_cons_true, filter_cons_false, EachPair-filter}
use Rattle.fx_rules.proofs.Lowering.{Each-lowered, is_order-says}
use Rattle.fx_rules.proofs.Credit.{IsAllowed, line-pays}
use Rattle.fx_rules.proofs.Opens.{is_open-says, orders_in-among, allowed-open}
use Rattle.fx_rules.proofs.Planning.{orders_in-rising, open_none}
use Rattle.fx_rules.proofs.Staying.{active_same, and_where}
use Rattle.fx_rules.proofs.SweepSound.{filled-sound, swept-sound}
use Rattle.fx_rules.proofs.RaiseSound.{match_cases, turn_of, turn-sender}
use Rattle.fx_rules.proofs.Following.{filled-follows, filled_all-follows, reach_swap}
use Rattle.fx_rules.proofs.ViewHidden.{match_none, match_some}
use Rattle.fx_rules.proofs.ViewLists.{find-filter}
use Rattle.credit_raise.specs.Two.{is_of_two, are_the_two, NoCrossBut}
use Rattle.credit_raise.specs.inside.Playing.{only, other_of, lessened, lessened_all, joined, paid, SweptAmong, Played}
use Rattle.credit_raise.proofs.Lessening.{OfPair, own_order, cut, lessened_here, lessened-front, lessened-behind, Each-lessened, orders_in-lowered, filter-lessened}
use Rattle.credit_raise.proofs.Playing.{IsMaker, maker-of}
use Rattle.credit_raise.proofs.Looking.{reached_is}
use Rattle.credit_raise.proofs.Apart.{apart-follows, the_two-cases, two-owner, owner-two, first-two, open_between, third-closed}

-- ---- lists

-- an order with what it has left, in front of others, where anything is
abbrev pub entry : Resting → ℕ → List Resting → List Resting
entry order left rest = cond (ltb 0 left) (record order { left = left } ∷ rest) rest

entry_some : (order : Resting) (left : ℕ) (rest : List Resting) → 1 ≤ left → entry order left rest ≡ record order { left = left } ∷ rest
entry_some order left rest some = cond-true (ltb 0 left) (record order { left = left } ∷ rest) rest (lt-ltb 0 left some)

-- an order that has lots less
cut-entry : (lots : ℕ) (order : Resting) (left : ℕ) (rest : List Resting) → cut lots (record order { left = left }) rest ≡ entry order (left - lots) rest
cut-entry lots order left rest =
    elim (cases_lt lots left) [
      | inl more ↦ cond-true (ltb lots left) (record order { left = left - lots } ∷ rest) rest (lt-ltb lots left more)
          ∙ sym (cond-true (ltb 0 (left - lots)) (record order { left = left - lots } ∷ rest) rest (lt-ltb 0 (left - lots) (omega arith)))
      | inr gone ↦ cond-false (ltb lots left) (record order { left = left - lots } ∷ rest) rest (le-ltb lots left gone)
          ∙ sym (cond-false (ltb 0 (left - lots)) (record order { left = left - lots } ∷ rest) rest (le-ltb 0 (left - lots) (omega arith)))
    ]

-- what waits after a turn, with the orders behind it
joined-entry : (order : Resting) (left : ℕ) (waiting rest : List Resting) → waiting ++ entry order left rest ≡ joined order left waiting ++ rest
joined-entry order left waiting rest =
    elim (cases_Bool (ltb 0 left)) [
      | inl some ↦
          ap (λ (os : List Resting). waiting ++ os) (cond-true (ltb 0 left) (record order { left = left } ∷ rest) rest some)
          ∙ sym (append_assoc waiting (record order { left = left } ∷ []) rest)
          ∙ ap (λ (os : List Resting). os ++ rest) (sym (cond-true (ltb 0 left) (waiting ++ record order { left = left } ∷ []) waiting some))
      | inr none ↦
          ap (λ (os : List Resting). waiting ++ os) (cond-false (ltb 0 left) (record order { left = left } ∷ rest) rest none)
          ∙ ap (λ (os : List Resting). os ++ rest) (sym (cond-false (ltb 0 left) (waiting ++ record order { left = left } ∷ []) waiting none))
    ]

pub among_middle : (waiting : List Resting) (o : Resting) (rest : List Resting) → Among o (waiting ++ o ∷ rest)
among_middle [] o rest = inl refl
among_middle (w ∷ waiting) o rest = inr (among_middle waiting o rest)

-- an order among others, with those that arrived before and behind it
before_it : (waiting : List Resting) (o : Resting) (rest : List Resting) → EachPair ArrivesBefore (waiting ++ o ∷ rest) → Each (λ (w : Resting). ArrivesBefore w o) waiting
before_it [] o rest rising = tt
before_it (w ∷ waiting) o rest rising = (
  Each-among (ArrivesBefore w) (waiting ++ o ∷ rest) o rising.0 (among_middle waiting o rest),
  before_it waiting o rest rising.1,
)

pub among_front : (xs ys : List Resting) (o : Resting) → Among o xs → Among o (xs ++ ys)
among_front [] ys o there = absurd there
among_front (x ∷ xs) ys o (inl is) = inl is
among_front (x ∷ xs) ys o (inr there) = inr (among_front xs ys o there)

behind_it : (waiting : List Resting) (o : Resting) (rest : List Resting) → EachPair ArrivesBefore (waiting ++ o ∷ rest) → Each (ArrivesBefore o) rest
behind_it [] o rest rising = rising.0
behind_it (w ∷ waiting) o rest rising = behind_it waiting o rest rising.1

-- ---- a state and what is played

-- A state in which two banks' orders of a pair are those that wait, with what they have left, and those that are to come.
pub record Meets (h : Header) (X : State) (pair weight i j credit : ℕ) (waiting coming : List Resting) : Type 0 where
  pub sound : IsSound h X
  pub weight_is : weight_of h pair ≡ weight
  pub line_is : line h X i j ≡ credit
  pub apart : NoCrossBut h X pair i j
  pub orders : filter (is_of_two i j) (orders_in pair X.orders) ≡ waiting ++ coming

meets_rising : (h : Header) (X : State) (pair weight i j credit : ℕ) (waiting coming : List Resting) → Meets h X pair weight i j credit waiting coming → EachPair ArrivesBefore (waiting ++ coming)
meets_rising h X pair weight i j credit waiting coming meets =
    subst (EachPair ArrivesBefore) meets.orders
    (EachPair-filter ArrivesBefore (is_of_two i j) (orders_in pair X.orders) (orders_in-rising pair X.orders meets.sound.rising))

-- who waits or is to come rests, and is of one of the two banks
meets_among : (h : Header) (X : State) (pair weight i j credit : ℕ) (waiting coming : List Resting) (o : Resting) → Meets h X pair weight i j credit waiting coming → Among o (waiting ++ coming) → Among o (orders_in pair X.orders) × (is_of_two i j o ≡ true)
meets_among h X pair weight i j credit waiting coming o meets there =
    Among-filter (is_of_two i j) (orders_in pair X.orders) o (subst (Among o) (sym meets.orders) there)

-- of what can be reached of the other bank
reach-other : (h : Header) (X : State) (pair weight i j credit bank : ℕ) → weight_of h pair ≡ weight → line h X i j ≡ credit → i ≢ j → (bank ≡ i) ⊎ (bank ≡ j) → reach h X bank (other_of i j bank) pair ≡ credit / weight
reach-other h X pair weight i j credit bank weight_is line_is differ (inl is) =
    ap (λ n. reach h X n (other_of i j bank) pair) is
    ∙ ap (λ n. reach h X i n pair) (cond-true (eqb bank i) j i (eq-eqb bank i is))
    ∙ ap (λ n. n / weight_of h pair) line_is ∙ ap (λ n. credit / n) weight_is
reach-other h X pair weight i j credit bank weight_is line_is differ (inr is) =
    ap (λ n. reach h X n (other_of i j bank) pair) is
    ∙ ap (λ n. reach h X j n pair) (cond-false (eqb bank i) j i (ne_eqb bank i (λ same. differ (sym same ∙ is))))
    ∙ reach_swap h X j i pair
    ∙ ap (λ n. n / weight_of h pair) line_is ∙ ap (λ n. credit / n) weight_is

-- of two banks the other one of a bank
other-is : (i j bank other : ℕ) → i ≢ j → are_the_two i j other bank ≡ true → other ≡ other_of i j bank
other-is i j bank other differ are = elim (the_two-cases i j other bank are) [
  | inl one ↦ one.0 ∙ sym (cond-false (eqb bank i) j i (ne_eqb bank i (λ same. differ (sym same ∙ one.1))))
  | inr two ↦ two.0 ∙ sym (cond-true (eqb bank i) j i (eq-eqb bank i two.1))
]

-- ---- what is open

module _ (h : Header) (X : State) (pair weight i j credit : ℕ) (waiting rest : List Resting) (now : Resting) (differ : i ≢ j) (meets : Meets h X pair weight i j credit waiting (now ∷ rest)) where
  t : Taker
  t = taker_of_resting pair now

  -- open in the whole market
  whole : Resting → Bool
  whole o = is_open (taker_of_resting pair now) (reach h X now.bank o.bank pair) o

  -- open where the other bank alone can be reached
  alone : Resting → Bool
  alone o = is_open (taker_of_resting pair now) (only (other_of i j now.bank) (credit / weight) o.bank) o

  own : Among now (orders_in pair X.orders) × (is_of_two i j now ≡ true)
  own = meets_among h X pair weight i j credit waiting (now ∷ rest) now meets (among_middle waiting now rest)

  owner : (now.bank ≡ i) ⊎ (now.bank ≡ j)
  owner = two-owner i j now own.1

  between : (o : Resting) → Among o (orders_in pair X.orders) → whole o ≡ true → are_the_two i j o.bank now.bank ≡ true
  unfolding whole
  between o there opens =
      open_between h X pair i j now o meets.apart own.0
      (among_filter (λ (q : Resting). is_open (taker_of_resting pair now) (reach h X now.bank q.bank pair) q) (orders_in pair X.orders) o there opens)

  tests_agree : (o : Resting) → Among o (orders_in pair X.orders) → whole o ≡ alone o
  unfolding whole alone
  tests_agree o there =
      elim (cases_eq o.bank (other_of i j now.bank)) [
        | inl is ↦
            ap (λ n. is_open (taker_of_resting pair now) n o)
            (ap (λ n. reach h X now.bank n pair) is ∙ reach-other h X pair weight i j credit now.bank meets.weight_is meets.line_is differ owner
            ∙ sym (cond-true (eqb o.bank (other_of i j now.bank)) (credit / weight) 0 (eq-eqb o.bank (other_of i j now.bank) is)))
        | inr is_not ↦
            false_from_ne_true (whole o) (λ opens. is_not (other-is i j now.bank o.bank differ (between o there opens)))
            ∙ sym (open_none (taker_of_resting pair now) (only (other_of i j now.bank) (credit / weight) o.bank) o
            (cond-false (eqb o.bank (other_of i j now.bank)) (credit / weight) 0 (ne_eqb o.bank (other_of i j now.bank) is_not)))
      ]

  -- nothing that arrived later is open
  later_closed : (os : List Resting) → Each (λ (o : Resting). now.arrival ≤ o.arrival) os → filter whole os ≡ []
  unfolding whole
  later_closed [] all = refl
  later_closed (o ∷ os) all =
      filter_cons_false whole o os (false_from_ne_true (whole o) (λ opens.
      let says = is_open-says (taker_of_resting pair now) (reach h X now.bank o.bank pair) o opens in omega (arith, says.earlier, all.0)))
      ∙ later_closed os all.1

  -- what is open in the whole market is what is open among those that wait
  pub open-waiting : open_orders h X (taker_of_resting pair now) ≡ open_in (only (other_of i j now.bank) (credit / weight)) (taker_of_resting pair now) waiting
  unfolding whole alone
  open-waiting =
      let os : List Resting = orders_in pair X.orders in
      let rising = meets_rising h X pair weight i j credit waiting (now ∷ rest) meets in
      let two : filter whole os ≡ filter whole (filter (is_of_two i j) os) =
      filter_agree_on whole (λ (o : Resting). whole o && is_of_two i j o) os
      (λ o there. sym (and_where (whole o) (is_of_two i j o) (λ opens. first-two i j o now.bank (between o there opens))))
      ∙ sym (filter_filter whole (is_of_two i j) os) in
      let later : filter whole (now ∷ rest) ≡ [] = later_closed (now ∷ rest) (
        omega arith,
        Each-of (λ (o : Resting). now.arrival ≤ o.arrival) rest (λ o there.
            let before = Each-among (ArrivesBefore now) rest o (behind_it waiting now rest rising) there in omega (arith, before.arrival)),
      ) in
      two ∙ ap (filter whole) meets.orders ∙ filter-append whole waiting (now ∷ rest)
      ∙ ap (λ (xs : List Resting). filter whole waiting ++ xs) later ∙ append-nil (filter whole waiting)
      ∙ filter_agree_on whole alone waiting (λ o there.
      tests_agree o (meets_among h X pair weight i j credit waiting (now ∷ rest) o meets (among_front waiting (now ∷ rest) o there)).0)

-- ---- one fill

-- an order's command is of one pair
of_pair : (h : Header) (X : State) (pair : ℕ) (o : Resting) → IsSound h X → Among o (orders_in pair X.orders) → Each (OfPair pair o.bank o.number) X.orders
of_pair h X pair o sound there =
    let stands = orders_in-among pair X.orders o there in
    let a : ActiveOrder = stands.0 in
    Each-of (OfPair pair o.bank o.number) X.orders (λ b b_there is.
    let says = is_order-says o.bank o.number b.order is in
    let same : a ≡ b = active_same X.orders a b sound.rising stands.1 b_there
    (ap (λ (q : Resting). q.bank) (sym stands.3) ∙ sym says.0) (ap (λ (q : Resting). q.number) (sym stands.3) ∙ sym says.1) in
    ap (λ (q : ActiveOrder). q.pair) (sym same) ∙ stands.2)

-- a command of one of the two banks
key_two : (i j bank number : ℕ) (o : Resting) → (bank ≡ i) ⊎ (bank ≡ j) → is_order bank number o ≡ true → is_of_two i j o ≡ true
key_two i j bank number o owner is =
    let says = is_order-says bank number o is in
    owner-two i j o (elim owner [ inl one ↦ inl (says.0 ∙ one) | inr two ↦ inr (says.0 ∙ two) ])

-- the fills are between the two
pub fill-between : (i j bank : ℕ) (f : Fill) → (bank ≡ i) ⊎ (bank ≡ j) → i ≢ j → f.taker ≡ bank → f.maker ≡ other_of i j bank → is_between i j f ≡ true
fill-between i j bank f (inl is) differ taker maker =
    or_left (eqb f.taker i && eqb f.maker j) (eqb f.taker j && eqb f.maker i)
    (and_from (eqb f.taker i) (eqb f.maker j) (eq-eqb f.taker i (taker ∙ is))
    (eq-eqb f.maker j (maker ∙ cond-true (eqb bank i) j i (eq-eqb bank i is))))
fill-between i j bank f (inr is) differ taker maker =
    or_right (eqb f.taker i && eqb f.maker j) (eqb f.taker j && eqb f.maker i)
    (and_from (eqb f.taker j) (eqb f.maker i) (eq-eqb f.taker j (taker ∙ is))
    (eq-eqb f.maker i (maker ∙ cond-false (eqb bank i) j i (ne_eqb bank i (λ same. differ (sym same ∙ is))))))

-- the line between the two falls by what a fill between them costs
pub line-filled : (h : Header) (X : State) (f : Fill) (pair weight i j credit : ℕ) → i < bank_count h → j < bank_count h → i ≢ j → weight_of h pair ≡ weight → line h X i j ≡ credit → f.pair ≡ pair → is_between i j f ≡ true → IsCovered h X → line h (filled X f) i j ≡ credit - f.lots * weight
line-filled h X f pair weight i j credit i_in j_in differ weight_is line_is pair_is between covered =
    line-pays h X f i j covered i_in j_in differ between
    ∙ ap (λ n. n - cost h f) line_is
    ∙ ap (λ n. credit - f.lots * n) (ap (weight_of h) pair_is ∙ weight_is)

-- both are banks of the session, where an owner and the other one are
both_within : (banks i j bank : ℕ) → i ≢ j → (bank ≡ i) ⊎ (bank ≡ j) → bank < banks → other_of i j bank < banks → (i < banks) × (j < banks)
both_within banks i j bank differ (inl is) own other = (
  omega (arith, own, is),
  omega (arith, other, cond-true (eqb bank i) j i (eq-eqb bank i is)),
)
both_within banks i j bank differ (inr is) own other = (
  omega (arith, other, cond-false (eqb bank i) j i (ne_eqb bank i (λ same. differ (sym same ∙ is)))),
  omega (arith, own, is),
)

-- the orders of the two banks after a fill of an order with one that waits
orders-filled : (h : Header) (X : State) (pair weight i j credit : ℕ) (waiting rest : List Resting) (order best : Resting) (left lots : ℕ) → i ≢ j
    → Meets h X pair weight i j credit waiting (record order { left = left } ∷ rest) → Among best waiting
    → filter (is_of_two i j) (orders_in pair (lowered order.bank order.number lots (lowered best.bank best.number lots X.orders)))
    ≡ lessened best.bank best.number lots waiting ++ entry order (left - lots) rest
orders-filled h X pair weight i j credit waiting rest order best left lots differ meets waits =
    let now : Resting = record order { left = left } in
    let two : Resting → Bool = is_of_two i j in
    let os : List Resting = orders_in pair X.orders in
    let once : List ActiveOrder = lowered best.bank best.number lots X.orders in
    let two_pass : (bank number : ℕ) (among : List Resting) → (bank ≡ i) ⊎ (bank ≡ j) → Each (λ (o : Resting). is_order bank number o ≡ true → is_of_two i j o ≡ true) among
    = λ bank number among owner. Each-of (λ (o : Resting). is_order bank number o ≡ true → is_of_two i j o ≡ true) among (λ o _ is. key_two i j bank number o owner is) in
    let rising = meets_rising h X pair weight i j credit waiting (now ∷ rest) meets in
    let maker = meets_among h X pair weight i j credit waiting (now ∷ rest) best meets (among_front waiting (now ∷ rest) best waits) in
    let taker = meets_among h X pair weight i j credit waiting (now ∷ rest) now meets (among_middle waiting now rest) in
    let makers : Each (OfPair pair best.bank best.number) X.orders = of_pair h X pair best meets.sound maker.0 in
    let takers : Each (OfPair pair order.bank order.number) once =
    Each-lowered (OfPair pair order.bank order.number) (λ b n is _ _. is) best.bank best.number lots X.orders (of_pair h X pair now meets.sound taker.0) in
    let others : Each (λ (o : Resting). is_order order.bank order.number o ≡ false) waiting =
    Each-weaker (λ (w : Resting). ArrivesBefore w now) (λ (o : Resting). is_order order.bank order.number o ≡ false)
    (λ o before. false_from_ne_true (is_order order.bank order.number o) (λ is.
    let says = is_order-says order.bank order.number o is in before.number says.0 says.1)) waiting (before_it waiting now rest rising) in
    ap (filter two) (orders_in-lowered pair order.bank order.number lots once takers)
    ∙ filter-lessened two order.bank order.number lots (orders_in pair once) (two_pass order.bank order.number (orders_in pair once) (two-owner i j now taker.1)) (λ o n. refl)
    ∙ ap (λ (xs : List Resting). lessened order.bank order.number lots (filter two xs)) (orders_in-lowered pair best.bank best.number lots X.orders makers)
    ∙ ap (lessened order.bank order.number lots)
    (filter-lessened two best.bank best.number lots os (two_pass best.bank best.number os (two-owner i j best maker.1)) (λ o n. refl)
    ∙ ap (lessened best.bank best.number lots) meets.orders
    ∙ lessened-front best.bank best.number lots best waiting (now ∷ rest) waits (own_order best))
    ∙ lessened-behind order.bank order.number lots (lessened best.bank best.number lots waiting) (now ∷ rest)
    (Each-lessened (λ (o : Resting). is_order order.bank order.number o ≡ false) (λ o n other. other) best.bank best.number lots waiting others)
    ∙ ap (λ (xs : List Resting). lessened best.bank best.number lots waiting ++ xs)
    (lessened_here order.bank order.number lots now rest (own_order now) ∙ cut-entry lots order left rest)

-- ---- a sweep

-- what a sweep among those that wait is in the market, and what it leads to
pub record SweptSo (h : Header) (X : State) (pair weight i j credit : ℕ) (waiting rest : List Resting) (order : Resting) (left : ℕ) (own : List Fill) (end : ℕ) : Type 0 where
  pub swept : Swept h X (taker_of_resting pair (record order { left = left })) own end
  pub later : Meets h (filled_all X own) pair weight i j (paid weight credit own) (lessened_all waiting own) (entry order end rest)

-- the orders' owners are banks of the session
sender : (h : Header) (X : State) (pair : ℕ) (o : Resting) → IsSound h X → Among o (orders_in pair X.orders) → o.bank < bank_count h
sender h X pair o sound there =
    let stands = orders_in-among pair X.orders o there in
    let kept = Each-among (IsKept h X.counts) X.orders stands.0 sound.kept stands.1 in
    omega (arith, kept.bank, ap (λ (q : Resting). q.bank) stands.3)

pub swept-among : (h : Header) (X : State) (pair weight i j credit : ℕ) (waiting rest : List Resting) (order : Resting) (left : ℕ) (own : List Fill) (end : ℕ) → i ≢ j → 1 ≤ weight
    → Meets h X pair weight i j credit waiting (entry order left rest)
    → SweptAmong weight (other_of i j order.bank) credit waiting (taker_of_resting pair (record order { left = left })) own end
    → SweptSo h X pair weight i j credit waiting rest order left own end
swept-among h X pair weight i j credit waiting rest order left [] end differ some meets swept = record {
  swept = (
    swept.0,
    elim (cases_lt 0 left) [
      | inl more ↦
          elim swept.1 [
            | inl none_left ↦ inl none_left
            | inr closed ↦ inr (open-waiting h X pair weight i j credit waiting rest (record order { left = left }) differ
                (subst (Meets h X pair weight i j credit waiting) (entry_some order left rest more) meets) ∙ closed)
          ]
      | inr none ↦ inl (omega (arith, none))
    ],
  );
  later = subst (λ n. Meets h X pair weight i j credit waiting (entry order n rest)) (sym swept.0) meets;
}
swept-among h X pair weight i j credit waiting rest order left (f ∷ fills) end differ some meets swept =
    let now : Resting = record order { left = left } in
    let t : Taker = taker_of_resting pair now in
    let other : ℕ = other_of i j order.bank in
    let best : Resting = swept.0 in
    let lots : ℕ = amount t best (credit / weight) in
    let g : Fill = fill_with t best lots in
    let here : Meets h X pair weight i j credit waiting (now ∷ rest) = subst (Meets h X pair weight i j credit waiting) (entry_some order left rest swept.1) meets in
    let maker : IsMaker (credit / weight) other t waiting best = maker-of (credit / weight) other t waiting best swept.2.there in
    let maker_is : best.bank ≡ other = reached_is other (credit / weight) best.bank (le-leb 1 (only other (credit / weight) best.bank) maker.opens.reach) in
    let rests = meets_among h X pair weight i j credit waiting (now ∷ rest) now here (among_middle waiting now rest) in
    let owner : (order.bank ≡ i) ⊎ (order.bank ≡ j) = two-owner i j now rests.1 in
    let opens : open_orders h X t ≡ open_in (only other (credit / weight)) t waiting = open-waiting h X pair weight i j credit waiting rest now differ here in
    let is_best : IsBest t.side (open_orders h X t) best = subst (λ (os : List Resting). IsBest t.side os best) (sym opens) swept.2 in
    let reached : reach h X order.bank best.bank pair ≡ credit / weight =
    ap (λ n. reach h X order.bank n pair) maker_is ∙ reach-other h X pair weight i j credit order.bank here.weight_is here.line_is differ owner in
    let heavy : 0 < weight_of h pair = omega (arith, some, here.weight_is) in
    let lots_are : amount t best (reach h X order.bank best.bank pair) ≡ lots = ap (amount t best) reached in
    let allowed : IsAllowed h X g = subst (λ n. IsAllowed h X (fill_with t best n)) lots_are
    (allowed-open h X t best here.sound (sender h X pair now here.sound rests.0) heavy swept.1 is_best.there) in
    let within = both_within (bank_count h) i j order.bank differ owner allowed.taker (omega (arith, allowed.maker, maker_is)) in
    let next : Meets h (filled X g) pair weight i j (credit - lots * weight) (lessened best.bank best.number lots waiting) (entry order (left - lots) rest) = record {
      sound = filled-sound h X g here.sound allowed;
      weight_is = here.weight_is;
      line_is = line-filled h X g pair weight i j credit within.0 within.1 differ here.weight_is here.line_is refl (fill-between i j order.bank g owner differ refl maker_is)
          here.sound.covered;
      apart = apart-follows h X (filled X g) pair i j heavy (filled-follows h X g) here.apart;
      orders = orders-filled h X pair weight i j credit waiting rest order best left lots differ here maker.waits;
    } in
    let behind : SweptAmong weight other (credit - lots * weight) (lessened best.bank best.number lots waiting) (less t lots) fills end =
    subst (λ (k : Fill). SweptAmong weight other (credit - k.lots * weight) (lessened k.maker k.maker_number k.lots waiting) (less t k.lots) fills end) swept.3 swept.4 in
    let tail : SweptSo h (filled X g) pair weight i j (credit - lots * weight) (lessened best.bank best.number lots waiting) rest order (left - lots) fills end =
    swept-among h (filled X g) pair weight i j (credit - lots * weight) (lessened best.bank best.number lots waiting) rest order (left - lots) fills end differ some next behind in
    subst (λ (k : Fill). SweptSo h X pair weight i j credit waiting rest order left (k ∷ fills) end) (sym swept.3) (record {
      swept = (best, swept.1, is_best, ap (fill_with t best) (sym lots_are), tail.swept);
      later = tail.later;
    })

-- ---- the turns

-- the order whose turn comes is found as it stands
find-first : {Y : Type 0} (test : Y → Bool) (xs ys : List Y) (y : Y) → Each (λ x. test x ≡ false) xs → test y ≡ true → find test (xs ++ y ∷ ys) ≡ Some y
find-first test [] ys y none is = cond-true (test y) (Some y) (find test ys) is
find-first test (x ∷ xs) ys y none is = cond-false (test x) (Some x) (find test (xs ++ y ∷ ys)) none.0 ∙ find-first test xs ys y none.1 is

turn_found : (h : Header) (X : State) (pair weight i j credit : ℕ) (waiting rest : List Resting) (order : Resting) → Meets h X pair weight i j credit waiting (order ∷ rest) → order_of X pair order.bank order.number ≡ Some order
turn_found h X pair weight i j credit waiting rest order meets =
    let test : Resting → Bool = λ o. is_order order.bank order.number o in
    let owner = two-owner i j order (meets_among h X pair weight i j credit waiting (order ∷ rest) order meets (among_middle waiting order rest)).1 in
    let rising = meets_rising h X pair weight i j credit waiting (order ∷ rest) meets in
    sym (find-filter test (is_of_two i j) (orders_in pair X.orders) (λ o is. key_two i j order.bank order.number o owner is))
    ∙ ap (find test) meets.orders
    ∙ find-first test waiting rest order
    (Each-weaker (λ (w : Resting). ArrivesBefore w order) (λ (o : Resting). is_order order.bank order.number o ≡ false)
    (λ o before. false_from_ne_true (is_order order.bank order.number o) (λ is.
    let says = is_order-says order.bank order.number o is in before.number says.0 says.1)) waiting (before_it waiting order rest rising))
    (own_order order)

-- an order that rests has something left
left_some : (h : Header) (X : State) (pair : ℕ) (o : Resting) → IsSound h X → Among o (orders_in pair X.orders) → 1 ≤ o.left
left_some h X pair o sound there =
    let stands = orders_in-among pair X.orders o there in
    let kept = Each-among (IsKept h X.counts) X.orders stands.0 sound.kept stands.1 in
    omega (arith, kept.left.0, ap (λ (r : Resting). r.left) stands.3)

found_cases : (found : Option Resting) → (found ≡ None) ⊎ ((now : Resting) × (found ≡ Some now))
found_cases None = inl refl
found_cases (Some now) = inr (now, refl)

-- What two banks' orders make when they are played out, their turns make in the market.
pub played-turned : (h : Header) (X : State) (pair weight i j credit : ℕ) (waiting turns : List Resting) (fills : List Fill) → i ≢ j → 1 ≤ weight
    → Meets h X pair weight i j credit waiting turns → Played pair weight i j credit waiting turns fills → Turned h pair X turns fills
played-turned h X pair weight i j credit waiting [] fills differ some meets played = played
played-turned h X pair weight i j credit waiting (order ∷ turns) fills differ some meets played =
    let own : List Fill = played.0 in
    let more : List Fill = played.1 in
    let left : ℕ = played.2 in
    let rests = meets_among h X pair weight i j credit waiting (order ∷ turns) order meets (among_middle waiting order turns) in
    let here : Meets h X pair weight i j credit waiting (entry order order.left turns) =
    subst (Meets h X pair weight i j credit waiting) (sym (entry_some order order.left turns (left_some h X pair order meets.sound rests.0))) meets in
    let so : SweptSo h X pair weight i j credit waiting turns order order.left own left =
    swept-among h X pair weight i j credit waiting turns order order.left own left differ some here played.3 in
    let next : Meets h (filled_all X own) pair weight i j (paid weight credit own) (joined order left (lessened_all waiting own)) turns = record {
      sound = so.later.sound;
      weight_is = so.later.weight_is;
      line_is = so.later.line_is;
      apart = so.later.apart;
      orders = so.later.orders ∙ joined-entry order left (lessened_all waiting own) turns;
    } in
    match_some (order_of X pair order.bank order.number) order (Turned h pair X turns fills)
    (λ now. (mine others : List Fill) × (rest : ℕ) × Swept h X (taker_of_resting pair now) mine rest × (fills ≡ mine ++ others) × Turned h pair (filled_all X mine) turns others)
    (turn_found h X pair weight i j credit waiting turns order meets) (
      own,
      more,
      left,
      so.swept,
      played.4,
      played-turned h (filled_all X own) pair weight i j (paid weight credit own) (joined order left (lessened_all waiting own)) turns more differ some next played.5,
    )

-- The turns of two banks' orders alone are the turns of all orders, where nothing rests crossed but between the two.
pub turned-two : (h : Header) (X : State) (pair i j : ℕ) (orders : List Resting) (fills : List Fill) → 0 < weight_of h pair → IsSound h X → NoCrossBut h X pair i j
    → Turned h pair X (filter (is_of_two i j) orders) fills → Turned h pair X orders fills
turned-two h X pair i j [] fills some sound apart turned = turned
turned-two h X pair i j (order ∷ orders) fills some sound apart turned =
    let found : Option Resting = order_of X pair order.bank order.number in
    let Then : List Resting → Resting → Type 0 = λ os now. (own more : List Fill) × (left : ℕ) × Swept h X (taker_of_resting pair now) own left × (fills ≡ own ++ more) × Turned h pair (filled_all X own) os more in
    elim (cases_Bool (is_of_two i j order)) [
      | inl two ↦
          let turned_now : Turned h pair X (order ∷ filter (is_of_two i j) orders) fills =
          subst (λ (os : List Resting). Turned h pair X os fills) (filter_cons_true (is_of_two i j) order orders two) turned in
          elim (match_cases found (Turned h pair X (filter (is_of_two i j) orders) fills) (Then (filter (is_of_two i j) orders)) turned_now) [
            | inl gone ↦ match_none found (Turned h pair X orders fills) (Then orders) gone.0 (turned-two h X pair i j orders fills some sound apart gone.1)
            | inr here ↦
                let now : Resting = here.0 in
                let own : List Fill = here.2.0 in
                let turn = turn_of h X pair order.bank order.number now sound here.1 in
                let later : IsSound h (filled_all X own) =
                (swept-sound h X (taker_of_resting pair now) own here.2.2 sound (turn-sender h X pair order.bank order.number now turn) some here.2.3).0 in
                match_some found now (Turned h pair X orders fills) (Then orders) here.1 (
                  own,
                  here.2.1,
                  here.2.2,
                  here.2.3,
                  here.2.4,
                  turned-two h (filled_all X own) pair i j orders here.2.1 some later (apart-follows h X (filled_all X own) pair i j some (filled_all-follows h X own) apart) here.2.5,
                )
          ]
      | inr third ↦
          let behind : Turned h pair X orders fills = turned-two h X pair i j orders fills some sound apart
          (subst (λ (os : List Resting). Turned h pair X os fills) (filter_cons_false (is_of_two i j) order orders third) turned) in
          elim (found_cases found) [
            | inl gone ↦ match_none found (Turned h pair X orders fills) (Then orders) gone behind
            | inr here ↦
                let now : Resting = here.0 in
                let turn = turn_of h X pair order.bank order.number now sound here.1 in
                let other : is_of_two i j now ≡ false = ap (λ n. eqb n i || eqb n j) turn.owner ∙ third in
                match_some found now (Turned h pair X orders fills) (Then orders) here.1
                ([], fills, now.left, (refl, inr (third-closed h X pair i j now apart turn.among other)), refl, behind)
          ]
    ]
