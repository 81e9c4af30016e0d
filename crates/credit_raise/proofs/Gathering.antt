-- Two banks' orders that cross the other's best price, gathered in any order and put in the order of their arrivals.
use Rattle.std.proofs.Common.{ℕ, suc, append-nil, ◌≡◌, ◌≢◌, ◌<◌, ◌≤◌, Bool, true, false, cond, ◌&&◌, ◌||◌, eqb, List, [], ◌∷◌, ◌++◌, ◌⊎◌, inl, inr, Option, Some, None, refl, ap, sym, subst, ◌∙◌, arith}
use Rattle.std.proofs.lemmas.Bool.{and_parts, cases_Bool, cases_eq, cond-true, cond-false, both_ways, false≢true, false_from_ne_true, or_from, or_left, or_right, eq-eqb, eqb-true, ne_eqb, le-leb, ltb-false, leb-true}
use Rattle.std.proofs.Math.Bool.{and-false, and-true, and_comm, or-false}
use Rattle.std.proofs.lemmas.List.{append_assoc}
use Rattle.std.proofs.lemmas.List.Elements.{All-from_recursion, recursion_from_All}
use Rattle.std.proofs.lemmas.List.Sorted.{IsPermutation-refl, IsPermutation-sym, IsPermutation-trans, IsPermutation-cons, IsPermutation-middle, IsPermutation-append, All-permutation, sum_by-IsPermutation}
use Rattle.std.proofs.lemmas.List.Sums.{sum_by-cons}
use Rattle.std.specs.List.{filter, sum_by}
use Rattle.std.specs.List.Sorted.{IsPermutation, IsNonDecreasingBy}
use Rattle.fx_amounts.specs.Side.{opposite}
use Rattle.fx_amounts.specs.declared.side.Side.{Side}
use Rattle.fx_amounts.specs.declared.side.Side.TheVariants.{Buy, Sell}
use Rattle.fx_rules.specs.declared.orders.Resting.{Resting}
use Rattle.fx_rules.specs.Lists.{Among, Each, EachPair}
use Rattle.fx_rules.specs.Sweep.{is_opposite}
use Rattle.fx_rules.proofs.ListLemmas.{Each-among, Each-of, Each-weaker, Among-filter, filter_filter, filter_cons_true, filter_cons_false}
use Rattle.global_book.specs.Book.{is_across, is_of}
use Rattle.credit_raise.specs.declared.prices.Tops.{Tops}
use Rattle.credit_raise.specs.inside.Prices.{Gathers, IsOf, IsTop, AreTops, is_crossed, tops_meet, crosses_top, crosses_tops, top_of, is_live, is_live_of, is_live_on, live_turns}
use Rattle.credit_raise.specs.Two.{is_of_two}
use Rattle.credit_raise.specs.inside.Two.{turns}
use Rattle.credit_raise.proofs.Apart.{none_in, two-owner}

-- ---- what is gathered

-- a test that is passed where one of two others is, which are never passed together
abbrev pub IsEither : (p q r : Resting → Bool) → Type 0
IsEither p q r = (o : Resting) → ((p o && q o) ≡ false) × (r o ≡ (p o || q o))

filter_either : (p q r : Resting → Bool) → IsEither p q r → (xs : List Resting) → IsPermutation (filter r xs) (filter p xs ++ filter q xs)
filter_either p q r either [] = IsPermutation-refl []
filter_either p q r either (x ∷ xs) =
    let rest : IsPermutation (filter r xs) (filter p xs ++ filter q xs) = filter_either p q r either xs in
    let under : IsPermutation (x ∷ filter r xs) (x ∷ (filter p xs ++ filter q xs)) = IsPermutation-cons x (filter r xs) (filter p xs ++ filter q xs) rest in
    let is : r x ≡ (p x || q x) = (either x).1 in
    elim (cases_Bool (p x)) [
      | inl one ↦
          let other : q x ≡ false = sym (ap (λ b. b && q x) one) ∙ (either x).0 in
          rw (filter_cons_true r x xs (is ∙ or_left (p x) (q x) one), filter_cons_true p x xs one, filter_cons_false q x xs other) under
      | inr none ↦ elim (cases_Bool (q x)) [
        | inl one ↦
            rw (filter_cons_true r x xs (is ∙ or_right (p x) (q x) one), filter_cons_false p x xs none, filter_cons_true q x xs one)
            (IsPermutation-trans (x ∷ filter r xs) (x ∷ (filter p xs ++ filter q xs)) (filter p xs ++ x ∷ filter q xs) under
            (IsPermutation-sym (filter p xs ++ x ∷ filter q xs) (x ∷ (filter p xs ++ filter q xs)) (IsPermutation-middle (filter p xs) x (filter q xs))))
        | inr neither ↦
            rw (filter_cons_false r x xs (is ∙ or_from (p x) (q x) none neither), filter_cons_false p x xs none, filter_cons_false q x xs neither) rest
      ]
    ]

-- what is gathered in two goes
pub gathers-both : (p q r : Resting → Bool) (orders a b c : List Resting) → IsEither p q r → Gathers p orders a b → Gathers q orders b c → Gathers r orders a c
gathers-both p q r orders a b c either one two = record {
  gathered = one.gathered ++ two.gathered;
  behind = two.behind ∙ ap (λ (os : List Resting). os ++ two.gathered) one.behind ∙ append_assoc a one.gathered two.gathered;
  all = IsPermutation-trans (filter r orders) (filter p orders ++ filter q orders) (one.gathered ++ two.gathered) (filter_either p q r either orders)
      (IsPermutation-append (filter p orders) one.gathered (filter q orders) two.gathered one.all two.all);
}

opposite_is : (side its : Side) → is_opposite (opposite side) its ≡ true → its ≡ side
opposite_is Buy Buy is = refl
opposite_is Buy Sell is = absurd (false≢true is)
opposite_is Sell Buy is = absurd (false≢true is)
opposite_is Sell Sell is = refl

-- where no order of a side crosses, there is none to gather
pub gathers-apart : (bank : ℕ) (side : Side) (top : Option ℕ) (orders old : List Resting) → ((o : Resting) → IsOf bank side orders o → crosses_top side o.price top ≡ true → ⊥) → Gathers (is_live_on bank side top) orders old old
gathers-apart bank side top orders old apart = record {
  gathered = [];
  behind = sym (append-nil old);
  all = subst (λ (os : List Resting). IsPermutation os [])
      (sym (none_in (filter (is_live_on bank side top) orders) (λ o there.
      let live = Among-filter (is_live_on bank side top) orders o there in
      let parts = and_parts (is_across (opposite side) bank o) (crosses_top side o.price top) live.1 in
      let across = and_parts (eqb o.bank bank) (is_opposite (opposite side) o.side) parts.0 in
      apart o (record { rests = live.0; owner = eqb-true o.bank bank across.0; side_is = opposite_is side o.side across.1 }) parts.1))) (IsPermutation-refl []);
}

-- where there is no best price, nothing crosses it
pub gathers-none : (bank : ℕ) (side : Side) (top : Option ℕ) (orders old : List Resting) → top ≡ None → Gathers (is_live_on bank side top) orders old old
gathers-none bank side top orders old none =
    gathers-apart bank side top orders old (λ o is cross. false≢true (sym (ap (crosses_top side o.price) none) ∙ cross))

-- an order crosses as a buy or as a sell
either_side : (own : Bool) (side : Side) (price : ℕ) (tops : Tops) →
    let buys : Bool = (own && is_opposite Sell side) && crosses_top Buy price tops.sell in
    let sells : Bool = (own && is_opposite Buy side) && crosses_top Sell price tops.buy in
    ((buys && sells) ≡ false) × ((own && crosses_top side price (top_of tops (opposite side))) ≡ (buys || sells))
either_side false side price tops = (refl, refl)
either_side true Buy price tops = (and-false (crosses_top Buy price tops.sell), sym (or-false (crosses_top Buy price tops.sell)))
either_side true Sell price tops = (refl, refl)

pub gathers-sides : (bank : ℕ) (tops : Tops) (orders a b c : List Resting) → Gathers (is_live_on bank Buy tops.sell) orders a b → Gathers (is_live_on bank Sell tops.buy) orders b c → Gathers (is_live_of bank tops) orders a c
gathers-sides bank tops orders a b c =
    gathers-both (is_live_on bank Buy tops.sell) (is_live_on bank Sell tops.buy) (is_live_of bank tops) orders a b c
    (λ o. either_side (is_of bank o) o.side o.price tops)

-- ---- in the order of their arrivals

-- an order arrived before another
abbrev pub Earlier : Resting → Resting → Type 0
Earlier a b = a.arrival < b.arrival

-- two lists by arrival that have the same orders
same_rising : (xs ys : List Resting) → EachPair Earlier xs → EachPair Earlier ys → ((o : Resting) → Among o xs → Among o ys) → ((o : Resting) → Among o ys → Among o xs) → xs ≡ ys
same_rising [] [] r s there back = refl
same_rising [] (y ∷ ys) r s there back = absurd (back y (inl refl))
same_rising (x ∷ xs) [] r s there back = absurd (there x (inl refl))
same_rising (x ∷ xs) (y ∷ ys) r s there back =
    let same : x ≡ y = elim (there x (inl refl)) [
      | inl is ↦ is
      | inr x_later ↦ elim (back y (inl refl)) [
        | inl is ↦ sym is
        | inr y_later ↦ absurd (omega (arith, Each-among (Earlier y) ys x s.0 x_later, Each-among (Earlier x) xs y r.0 y_later))
      ]
    ] in
    ap (λ o. o ∷ xs) same
    ∙ ap (λ (os : List Resting). y ∷ os)
    (same_rising xs ys r.1 s.1
    (λ o later. elim (there o (inr later)) [
      | inl is ↦ absurd (omega (arith, Each-among (Earlier x) xs o r.0 later, ap (λ (q : Resting). q.arrival) (is ∙ sym same)))
      | inr behind ↦ behind
    ])
    (λ o later. elim (back o (inr later)) [
      | inl is ↦ absurd (omega (arith, Each-among (Earlier y) ys o s.0 later, ap (λ (q : Resting). q.arrival) (is ∙ same)))
      | inr behind ↦ behind
    ]))

pub pairs_weaker : (P Q : Resting → Resting → Type 0) → ((a b : Resting) → P a b → Q a b) → (xs : List Resting) → EachPair P xs → EachPair Q xs
pairs_weaker P Q weaker [] pairs = tt
pairs_weaker P Q weaker (x ∷ xs) pairs = (Each-weaker (P x) (Q x) (weaker x) xs pairs.0, pairs_weaker P Q weaker xs pairs.1)

-- how many orders have an arrival
abbrev arrived : ℕ → Resting → ℕ
arrived arrival o = cond (eqb o.arrival arrival) 1 0

arrived_then : (arrival : ℕ) (o : Resting) → o.arrival ≡ arrival → arrived arrival o ≡ 1
arrived_then arrival o same = cond-true {A = ℕ} (eqb o.arrival arrival) 1 0 (eq-eqb o.arrival arrival same)

arrived_else : (arrival : ℕ) (o : Resting) → o.arrival ≢ arrival → arrived arrival o ≡ 0
arrived_else arrival o differ = cond-false {A = ℕ} (eqb o.arrival arrival) 1 0 (ne_eqb o.arrival arrival differ)

none_arrived : (arrival : ℕ) (os : List Resting) → Each (λ (o : Resting). arrival < o.arrival) os → sum_by (arrived arrival) os ≡ 0
none_arrived arrival [] later = refl
none_arrived arrival (o ∷ os) later =
    omega (
      arith,
      sum_by-cons (arrived arrival) o os,
      none_arrived arrival os later.1,
      arrived_else arrival o (λ same. omega (arith, same, later.0)),
    )

once_arrived : (arrival : ℕ) (os : List Resting) → EachPair Earlier os → sum_by (arrived arrival) os ≤ 1
once_arrived arrival [] rising = omega arith
once_arrived arrival (o ∷ os) rising =
    elim (cases_eq o.arrival arrival) [
      | inl same ↦
          omega (
            arith,
            sum_by-cons (arrived arrival) o os,
            arrived_then arrival o same,
            none_arrived arrival os (subst (λ n. Each (λ (q : Resting). n < q.arrival) os) same rising.0),
          )
      | inr differ ↦
          omega (arith, sum_by-cons (arrived arrival) o os, arrived_else arrival o differ, once_arrived arrival os rising.1)
    ]

some_arrived : (o : Resting) (os : List Resting) → Among o os → 1 ≤ sum_by (arrived o.arrival) os
some_arrived o [] there = absurd there
some_arrived o (q ∷ os) (inl is) =
    omega (arith, sum_by-cons (arrived o.arrival) q os, arrived_then o.arrival q (ap (λ (x : Resting). x.arrival) (sym is)))
some_arrived o (q ∷ os) (inr later) =
    omega (arith, sum_by-cons (arrived o.arrival) q os, some_arrived o os later)

-- orders that do not fall by arrival, and of which no two have one
rises : (os : List Resting) → IsNonDecreasingBy (λ (o : Resting). o.arrival) os → ((arrival : ℕ) → sum_by (arrived arrival) os ≤ 1) → EachPair Earlier os
rises [] rising once = tt
rises (o ∷ os) rising once =
    let least : Each (λ (q : Resting). o.arrival ≤ q.arrival) os = recursion_from_All (λ (q : Resting). o.arrival ≤ q.arrival) os (λ k d within. rising 0 (suc k) d (omega arith) (omega (arith, within))) in (
      Each-of (Earlier o) os (λ q there.
          elim (cases_eq o.arrival q.arrival) [
            | inl same ↦
                absurd (omega (arith, once q.arrival, sum_by-cons (arrived q.arrival) o os, arrived_then q.arrival o same, some_arrived q os there))
            | inr differ ↦ omega (arith, differ, Each-among (λ (x : Resting). o.arrival ≤ x.arrival) os q least there)
          ]),
      rises os (λ a b d le within. rising (suc a) (suc b) d (omega (arith, le)) (omega (arith, within)))
          (λ arrival. omega (arith, once arrival, sum_by-cons (arrived arrival) o os)),
    )

pub among_permutation : (xs ys : List Resting) (o : Resting) → IsPermutation xs ys → Among o ys → Among o xs
among_permutation xs ys o same there =
    let In : Resting → Type 0 = λ q. Among q xs in
    Each-among In ys o (recursion_from_All In ys (All-permutation In xs ys same (All-from_recursion In xs (Each-of In xs (λ q here. here))))) there

-- orders that arrived one after the other, once they are sorted
pub sorted-back : (orders sorted : List Resting) → EachPair Earlier orders → IsPermutation orders sorted → IsNonDecreasingBy (λ (o : Resting). o.arrival) sorted → sorted ≡ orders
sorted-back orders sorted rising same falls_not =
    same_rising sorted orders
    (rises sorted falls_not (λ arrival. omega (arith, once_arrived arrival orders rising, sum_by-IsPermutation (arrived arrival) orders sorted same)))
    rising
    (λ o there. among_permutation orders sorted o same there)
    (λ o there. among_permutation sorted orders o (IsPermutation-sym orders sorted same) there)

-- ---- two banks

either_one : (a b x y live : Bool) → a ≡ true → b ≡ false → live ≡ x → (((a && x) && (b && y)) ≡ false) × ((live && (a || b)) ≡ ((a && x) || (b && y)))
either_one true false x y live here away is = (and-false x, ap (λ c. c && true) is ∙ and-true x ∙ sym (or-false x))
either_one true true x y live here away is = absurd (false≢true (sym away))
either_one false b x y live here away is = absurd (false≢true here)

either_other : (a b x y live : Bool) → a ≡ false → live ≡ y → (((a && x) && (b && y)) ≡ false) × ((live && (a || b)) ≡ ((a && x) || (b && y)))
either_other false b x y live away is = (refl, ap (λ c. c && b) is ∙ and_comm y b)
either_other true b x y live away is = absurd (false≢true (sym away))

-- an order of two banks crosses as the one's or as the other's
either_bank : (i j : ℕ) (tops_i tops_j : Tops) → i ≢ j → IsEither (is_live_of i tops_j) (is_live_of j tops_i) (λ o. is_live i tops_i tops_j o && is_of_two i j o)
either_bank i j tops_i tops_j differ o =
    elim (cases_eq o.bank i) [
      | inl same ↦
          let here : eqb o.bank i ≡ true = eq-eqb o.bank i same in
          let away : eqb o.bank j ≡ false = ne_eqb o.bank j (λ is. differ (sym same ∙ is)) in
          either_one (eqb o.bank i) (eqb o.bank j) (crosses_tops tops_j o) (crosses_tops tops_i o) (is_live i tops_i tops_j o) here away
          (ap (λ (ts : Tops). crosses_tops ts o) (cond-true (eqb o.bank i) tops_j tops_i here))
      | inr other ↦
          let away : eqb o.bank i ≡ false = ne_eqb o.bank i other in
          either_other (eqb o.bank i) (eqb o.bank j) (crosses_tops tops_j o) (crosses_tops tops_i o) (is_live i tops_i tops_j o) away
          (ap (λ (ts : Tops). crosses_tops ts o) (cond-false (eqb o.bank i) tops_j tops_i away))
    ]

-- what is gathered of two banks is the live turns, in any order
pub gathered-live : (i j : ℕ) (tops_i tops_j : Tops) (orders none one gathered : List Resting) → i ≢ j → none ≡ []
    → Gathers (is_live_of i tops_j) orders none one → Gathers (is_live_of j tops_i) orders one gathered
    → IsPermutation (live_turns i j tops_i tops_j orders) gathered
gathered-live i j tops_i tops_j orders none one gathered differ empty first_bank second_bank =
    let live : Resting → Bool = λ o. is_live i tops_i tops_j o && is_of_two i j o in
    let turns_are : live_turns i j tops_i tops_j orders ≡ filter live orders = filter_filter (is_live i tops_i tops_j) (is_of_two i j) orders in
    let all : Gathers live orders none gathered = gathers-both (is_live_of i tops_j) (is_live_of j tops_i) live orders none one gathered
    (either_bank i j tops_i tops_j differ) first_bank second_bank in
    let found : gathered ≡ all.gathered = all.behind ∙ ap (λ (os : List Resting). os ++ all.gathered) empty in
    subst (λ (os : List Resting). IsPermutation os gathered) (sym turns_are) (subst (IsPermutation (filter live orders)) (sym found) all.all)

-- ---- best prices that do not cross

-- an order of a bank that crosses another bank's best price
record IsLiveOf (bank : ℕ) (tops : Tops) (order : Resting) : Type 0 where
  owner : order.bank ≡ bank
  crosses : crosses_tops tops order ≡ true

among-live : (orders : List Resting) (i j : ℕ) (tops_i tops_j : Tops) (o : Resting) → i ≢ j → Among o (live_turns i j tops_i tops_j orders) → Among o orders × (IsLiveOf i tops_j o ⊎ IsLiveOf j tops_i o)
among-live orders i j tops_i tops_j o differ there =
    let live = Among-filter (is_live i tops_i tops_j) (turns i j orders) o there in
    let turn = Among-filter (is_of_two i j) orders o live.0 in (
      turn.0,
      elim (two-owner i j o turn.1) [
        | inl is ↦ inl (record {
          owner = is;
          crosses = ap (λ (ts : Tops). crosses_tops ts o) (sym (cond-true (eqb o.bank i) tops_j tops_i (eq-eqb o.bank i is))) ∙ live.1;
        })
        | inr is ↦ inr (record {
          owner = is;
          crosses = ap (λ (ts : Tops). crosses_tops ts o) (sym (cond-false (eqb o.bank i) tops_j tops_i (ne_eqb o.bank i (λ same. differ (sym same ∙ is))))) ∙ live.1;
        })
      ],
    )

-- an order of a bank that crosses a price is not better than the bank's best, so that crosses it too
pub buy_meets : (bank : ℕ) (orders : List Resting) (top : Option ℕ) (o : Resting) (sell : Option ℕ) → IsTop bank Buy orders top → IsOf bank Buy orders o → crosses_top Buy o.price sell ≡ true → is_crossed top sell ≡ true
buy_meets bank orders None o sell none is cross = absurd (none o is)
buy_meets bank orders (Some top) o None best is cross = absurd (false≢true cross)
buy_meets bank orders (Some top) o (Some sell) best is cross = le-leb sell top (omega (arith, leb-true sell o.price cross, ltb-false top o.price (best o is)))

pub sell_meets : (bank : ℕ) (orders : List Resting) (top : Option ℕ) (o : Resting) (buy : Option ℕ) → IsTop bank Sell orders top → IsOf bank Sell orders o → crosses_top Sell o.price buy ≡ true → is_crossed buy top ≡ true
sell_meets bank orders None o buy none is cross = absurd (none o is)
sell_meets bank orders (Some top) o None best is cross = absurd (false≢true cross)
sell_meets bank orders (Some top) o (Some buy) best is cross = le-leb top buy (omega (arith, leb-true o.price buy cross, ltb-false o.price top (best o is)))

sides : (side : Side) → (side ≡ Buy) ⊎ (side ≡ Sell)
sides Buy = inl refl
sides Sell = inr refl

none_live : (bank : ℕ) (orders : List Resting) (mine theirs : Tops) (o : Resting) → AreTops bank orders mine → is_crossed mine.buy theirs.sell ≡ false → is_crossed theirs.buy mine.sell ≡ false → Among o orders → IsLiveOf bank theirs o → ⊥
none_live bank orders mine theirs o are buys sells there is =
    let at : (side : Side) → o.side ≡ side → crosses_top side o.price (top_of theirs (opposite side)) ≡ true
    = λ side side_is. subst (λ (s : Side). crosses_top s o.price (top_of theirs (opposite s)) ≡ true) side_is is.crosses in
    elim (sides o.side) [
      | inl buy ↦ both_ways (is_crossed mine.buy theirs.sell) buys
          (buy_meets bank orders mine.buy o theirs.sell are.buy (record { rests = there; owner = is.owner; side_is = buy }) (at Buy buy))
      | inr sell ↦ both_ways (is_crossed theirs.buy mine.sell) sells
          (sell_meets bank orders mine.sell o theirs.buy are.sell (record { rests = there; owner = is.owner; side_is = sell }) (at Sell sell))
    ]

pub apart-turns : (orders : List Resting) (i j : ℕ) (tops_i tops_j : Tops) → i ≢ j → AreTops i orders tops_i → AreTops j orders tops_j → tops_meet tops_i tops_j ≡ false → live_turns i j tops_i tops_j orders ≡ []
apart-turns orders i j tops_i tops_j differ are_i are_j apart =
    let one : Bool = is_crossed tops_i.buy tops_j.sell in
    let other : Bool = is_crossed tops_j.buy tops_i.sell in
    let buys : one ≡ false = false_from_ne_true one (λ is. both_ways (one || other) apart (or_left one other is)) in
    let sells : other ≡ false = false_from_ne_true other (λ is. both_ways (one || other) apart (or_right one other is)) in
    none_in (live_turns i j tops_i tops_j orders) (λ o there.
    let it = among-live orders i j tops_i tops_j o differ there in
    elim it.1 [
      | inl live ↦ none_live i orders tops_i tops_j o are_i buys sells it.0 live
      | inr live ↦ none_live j orders tops_j tops_i o are_j sells buys it.0 live
    ])
