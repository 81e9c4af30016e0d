-- Orders of one bank that arrived before all others meet nobody: they wait, in any order, while the later ones have their turns.
use Rattle.std.proofs.Common.{ℕ, zero, suc, ◌≡◌, ◌/◌, ◌<◌, ◌≤◌, max, Bool, false, ltb, List, [], ◌∷◌, ◌++◌, ◌⊎◌, inl, inr, refl, ap, sym, subst, ◌∙◌, arith, append_assoc, append-nil, length, get_or, set, swap}
use Rattle.std.proofs.lemmas.Bool.{cases_Bool, cases_lt, cond-true, both_ways, false_from_ne_true, not_from_true, not_from_false, lt-ltb, le-ltb, ltb-true, ltb-false}
use Rattle.std.proofs.lemmas.List.Elements.{filter-append}
use Rattle.std.proofs.lemmas.List.Sorted.{IsPermutation-refl, IsPermutation-sym, IsPermutation-trans, IsPermutation-append_left, IsPermutation-append_right, IsPermutation-append_comm, IsPermutation-keeps}
use Rattle.std.proofs.lemmas.Map.Keys.{IsDistinct-IsPermutation}
use Rattle.std.specs.List.{filter, IsDistinct}
use Rattle.std.specs.List.Sorted.{IsPermutation, IsNonDecreasingBy}
use Rattle.fx_rules.specs.declared.orders.Resting.{Resting}
use Rattle.fx_rules.specs.declared.orders.Fill.{Fill}
use Rattle.fx_rules.specs.Lists.{Each, EachPair}
use Rattle.fx_rules.specs.Sound.{ArrivesBefore}
use Rattle.fx_rules.specs.Sweep.{is_order, is_open, open_in}
use Rattle.fx_rules.specs.Raise.{taker_of_resting}
use Rattle.fx_rules.proofs.ListLemmas.{Each-among, Each-append, Each-filter, Each-of, Each-weaker, EachPair-filter, Among-filter, filter_cons_true, filter_cons_false}
use Rattle.fx_rules.proofs.Lowering.{is_order-says, is_order-from}
use Rattle.fx_rules.proofs.Opens.{is_open-says}
use Rattle.credit_raise.specs.inside.Playing.{only, other_of, joined, is_early, is_late, Played}
use Rattle.credit_raise.proofs.Alike.{IsApart, IsAlike, among_end, played-alike}
use Rattle.credit_raise.proofs.Apart.{none_in}
use Rattle.credit_raise.proofs.Gathering.{Earlier, among_permutation, pairs_weaker, sorted-back}
use Rattle.credit_raise.proofs.Living.{none_kept}

-- ---- orders of one bank

abbrev IsOwn : ℕ → Resting → Type 0
IsOwn bank order = order.bank ≡ bank

-- to a bank's order its own are not open
own-closed : (pair other lots bank : ℕ) (o : Resting) (waiting : List Resting) → o.bank ≡ bank → Each (IsOwn bank) waiting → open_in (only other lots) (taker_of_resting pair o) waiting ≡ []
own-closed pair other lots bank o waiting own all =
    none_in (open_in (only other lots) (taker_of_resting pair o) waiting) (λ w there.
    let found = Among-filter (λ (q : Resting). is_open (taker_of_resting pair o) (only other lots q.bank) q) waiting w there in
    let opens = is_open-says (taker_of_resting pair o) (only other lots w.bank) w found.1 in
    opens.other (Each-among (IsOwn bank) waiting w all found.0 ∙ sym own))

-- orders of one bank have their turns, and wait
wait-behind : (pair weight i j line bank : ℕ) (waiting front late : List Resting) (fills : List Fill) → Each (IsOwn bank) waiting → Each (IsOwn bank) front → Each (λ o. 1 ≤ o.left) front
    → Played pair weight i j line (waiting ++ front) late fills → Played pair weight i j line waiting (front ++ late) fills
wait-behind pair weight i j line bank waiting [] late fills mine own some played =
    subst (λ (os : List Resting). Played pair weight i j line os late fills) (append-nil waiting) played
wait-behind pair weight i j line bank waiting (o ∷ front) late fills mine own some played =
    let waits : joined o o.left waiting ≡ waiting ++ o ∷ [] = cond-true (ltb 0 o.left) (waiting ++ o ∷ []) waiting (lt-ltb 0 o.left (omega (arith, some.0))) in (
      [],
      fills,
      o.left,
      (refl, inr (own-closed pair (other_of i j o.bank) (line / weight) bank o waiting own.0 mine)),
      refl,
      subst (λ (os : List Resting). Played pair weight i j line os (front ++ late) fills) (sym waits)
          (wait-behind pair weight i j line bank (waiting ++ o ∷ []) front late fills (Each-append (IsOwn bank) waiting (o ∷ []) mine (own.0, tt)) own.1 some.1
          (subst (λ (os : List Resting). Played pair weight i j line os late fills) (sym (append_assoc waiting (o ∷ []) front)) played)),
    )

-- Turns behind those of one bank play as if these had waited from the start.
pub played-behind : (pair weight i j line bank : ℕ) (front late : List Resting) (fills : List Fill) → Each (λ o. o.bank ≡ bank) front → Each (λ o. 1 ≤ o.left) front
    → Played pair weight i j line front late fills → Played pair weight i j line [] (front ++ late) fills
played-behind pair weight i j line bank front late fills own some played = wait-behind pair weight i j line bank [] front late fills tt own some played

-- ---- the early ones and the late ones

-- orders in arrival order are the early ones, and behind them the late ones
pub parted : (from : ℕ) (orders : List Resting) → EachPair ArrivesBefore orders → orders ≡ filter (is_early from) orders ++ filter (is_late from) orders
parted from [] rising = refl
parted from (o ∷ orders) rising =
    let E : Resting → Bool = is_early from in
    let L : Resting → Bool = is_late from in
    let rest : orders ≡ filter E orders ++ filter L orders = parted from orders rising.1 in
    elim (cases_Bool (is_early from o)) [
      | inl early ↦
          ap (λ (os : List Resting). o ∷ os) rest
          ∙ sym (ap (λ (os : List Resting). os ++ filter L (o ∷ orders)) (filter_cons_true E o orders early)
          ∙ ap (λ (os : List Resting). o ∷ (filter E orders ++ os)) (filter_cons_false L o orders (not_from_true (is_early from o) early)))
      | inr late ↦
          let none_behind : Each (λ (q : Resting). is_early from q ≡ false) orders =
          Each-weaker (ArrivesBefore o) (λ (q : Resting). is_early from q ≡ false)
          (λ q is. le-ltb q.arrival from (omega (arith, is.arrival, ltb-false o.arrival from late))) orders rising.0 in
          ap (λ (os : List Resting). o ∷ os) (rest ∙ ap (λ (os : List Resting). os ++ filter L orders) (none_kept E orders none_behind))
          ∙ sym (ap (λ (os : List Resting). os ++ filter L (o ∷ orders)) (none_kept E (o ∷ orders) (late, none_behind))
          ∙ filter_cons_true L o orders (not_from_false (is_early from o) late))
    ]

-- Of two banks' orders those that arrived before both banks had one are one bank's.
pub early-own : (i j first_i first_j from : ℕ) (live : List Resting) → Each (λ o. (o.bank ≡ i) ⊎ (o.bank ≡ j)) live
    → Each (λ o. o.bank ≡ i → first_i ≤ o.arrival) live → Each (λ o. o.bank ≡ j → first_j ≤ o.arrival) live
    → from ≡ max first_i first_j → (bank : ℕ) × Each (λ o. o.arrival < from → o.bank ≡ bank) live
early-own i j first_i first_j from live owners firsts_i firsts_j is =
    let Two : Resting → Type 0 = λ (o : Resting). (o.bank ≡ i) ⊎ (o.bank ≡ j) in
    let Own : ℕ → Resting → Type 0 = λ bank (o : Resting). o.arrival < from → o.bank ≡ bank in
    let First : ℕ → ℕ → Resting → Type 0 = λ bank first (o : Resting). o.bank ≡ bank → first ≤ o.arrival in
    elim (cases_lt first_i first_j) [
      | inl below ↦ (
        i,
        Each-of (Own i) live (λ o there early.
            elim (Each-among Two live o owners there) [
              | inl one ↦ one
              | inr other ↦ absurd (omega (arith, early, is, below, Each-among (First j first_j) live o firsts_j there other))
            ]),
      )
      | inr above ↦ (
        j,
        Each-of (Own j) live (λ o there early.
            elim (Each-among Two live o owners there) [
              | inl other ↦ absurd (omega (arith, early, is, above, Each-among (First i first_i) live o firsts_i there other))
              | inr one ↦ one
            ]),
      )
    ]

-- ---- in any order

same_flips : (x y : Resting) → is_order x.bank x.number y ≡ is_order y.bank y.number x
same_flips x y =
    elim (cases_Bool (is_order y.bank y.number x)) [
      | inl is ↦
          let says = is_order-says y.bank y.number x is in
          is_order-from x.bank x.number y (sym says.0) (sym says.1) ∙ sym is
      | inr is_not ↦
          false_from_ne_true (is_order x.bank x.number y) (λ is.
          let says = is_order-says x.bank x.number y is in
          both_ways (is_order y.bank y.number x) is_not (is_order-from y.bank y.number x (sym says.0) (sym says.1)))
          ∙ sym is_not
    ]

distinct-apart : (orders : List Resting) → EachPair IsApart orders → IsDistinct (λ (a b : Resting). is_order a.bank a.number b) orders
unfolding IsDistinct
distinct-apart [] apart = tt
distinct-apart (o ∷ orders) apart = (apart.0, distinct-apart orders apart.1)

apart-distinct : (orders : List Resting) → IsDistinct (λ (a b : Resting). is_order a.bank a.number b) orders → EachPair IsApart orders
unfolding IsDistinct
apart-distinct [] distinct = tt
apart-distinct (o ∷ orders) distinct = (distinct.0, apart-distinct orders distinct.1)

-- orders of different commands, in another order
pub apart-permuted : (xs ys : List Resting) → IsPermutation xs ys → EachPair IsApart xs → EachPair IsApart ys
apart-permuted xs ys same apart =
    apart-distinct ys (IsDistinct-IsPermutation (λ (a b : Resting). is_order a.bank a.number b) same_flips xs ys same (distinct-apart xs apart))

pub rising-apart : (orders : List Resting) → EachPair ArrivesBefore orders → EachPair IsApart orders
rising-apart orders =
    pairs_weaker ArrivesBefore IsApart
    (λ a b is. false_from_ne_true (is_order a.bank a.number b) (λ same.
    let says = is_order-says a.bank a.number b same in
    is.number (sym says.0) (sym says.1)))
    orders

pub alike-permuted : (xs ys : List Resting) → IsPermutation xs ys → IsAlike xs ys
alike-permuted xs ys same = record {
  there = λ o. among_permutation ys xs o (IsPermutation-sym xs ys same);
  back = λ o. among_permutation xs ys o same;
}

-- ---- what passes a test, of a list in another order

module _ (test : Resting → Bool) where
  abbrev Kept : List Resting → List Resting → Type 0
  Kept xs ys = IsPermutation (filter test xs) (filter test ys)

  kept-under : (x : Resting) (xs ys : List Resting) → Kept xs ys → Kept (x ∷ xs) (x ∷ ys)
  kept-under x xs ys same =
      subst (λ (os : List Resting). IsPermutation os (filter test (x ∷ ys))) (sym (filter-append test (x ∷ []) xs))
      (subst (λ (os : List Resting). IsPermutation (filter test (x ∷ []) ++ filter test xs) os) (sym (filter-append test (x ∷ []) ys))
      (IsPermutation-append_right (filter test (x ∷ [])) (filter test xs) (filter test ys) same))

  two_kept : (x y : Resting) (xs : List Resting) → filter test (x ∷ y ∷ xs) ≡ (filter test (x ∷ []) ++ filter test (y ∷ [])) ++ filter test xs
  two_kept x y xs =
      filter-append test (x ∷ y ∷ []) xs
      ∙ ap (λ (os : List Resting). os ++ filter test xs) (filter-append test (x ∷ []) (y ∷ []))

  kept-turned : (x y : Resting) (xs : List Resting) → Kept (x ∷ y ∷ xs) (y ∷ x ∷ xs)
  kept-turned x y xs =
      let X : List Resting = filter test (x ∷ []) in
      let Y : List Resting = filter test (y ∷ []) in
      subst (λ (os : List Resting). IsPermutation os (filter test (y ∷ x ∷ xs))) (sym (two_kept x y xs))
      (subst (λ (os : List Resting). IsPermutation ((X ++ Y) ++ filter test xs) os) (sym (two_kept y x xs))
      (IsPermutation-append_left (filter test xs) (X ++ Y) (Y ++ X) (IsPermutation-append_comm X Y)))

  kept-chain : (xs ys zs : List Resting) → Kept xs ys → Kept ys zs → Kept xs zs
  kept-chain xs ys zs = IsPermutation-trans (filter test xs) (filter test ys) (filter test zs)

  kept-to_head : (l : List Resting) (j : ℕ) (x d : Resting) → j < length l → Kept (x ∷ l) (get_or l j d ∷ set l j x)
  kept-to_head [] j x d within = absurd (omega arith)
  kept-to_head (y ∷ l) zero x d within = kept-turned x y l
  kept-to_head (y ∷ l) (suc j) x d within =
      kept-chain (x ∷ y ∷ l) (y ∷ x ∷ l) (get_or l j d ∷ y ∷ set l j x) (kept-turned x y l)
      (kept-chain (y ∷ x ∷ l) (y ∷ get_or l j d ∷ set l j x) (get_or l j d ∷ y ∷ set l j x)
      (kept-under y (x ∷ l) (get_or l j d ∷ set l j x) (kept-to_head l j x d (omega arith)))
      (kept-turned y (get_or l j d) (set l j x)))

  kept-exchanged : (l : List Resting) (i j : ℕ) (d : Resting) → i < length l → j < length l → Kept l (set (set l i (get_or l j d)) j (get_or l i d))
  kept-exchanged [] i j d p q = absurd (omega arith)
  kept-exchanged (x ∷ l) zero zero d p q = IsPermutation-refl (filter test (x ∷ l))
  kept-exchanged (x ∷ l) zero (suc j) d p q = kept-to_head l j x d (omega arith)
  kept-exchanged (x ∷ l) (suc i) zero d p q = kept-to_head l i x d (omega arith)
  kept-exchanged (x ∷ l) (suc i) (suc j) d p q =
      kept-under x l (set (set l i (get_or l j d)) j (get_or l i d)) (kept-exchanged l i j d (omega arith) (omega arith))

  kept-swapped : (l : List Resting) (i j : ℕ) → i < length l → j < length l → Kept l (swap l i j)
  kept-swapped [] i j p q = IsPermutation-refl []
  kept-swapped (x ∷ l) i j p q = kept-exchanged (x ∷ l) i j x p q

  pub filter-permuted : (xs ys : List Resting) → IsPermutation xs ys → IsPermutation (filter test xs) (filter test ys)
  filter-permuted xs =
      IsPermutation-keeps xs (Kept xs) (IsPermutation-refl (filter test xs))
      (λ l i j p q same. kept-chain xs l (swap l i j) same (kept-swapped l i j p q))

-- the late ones, gathered in any order and sorted
pub late-turns : (from : ℕ) (gathered live late : List Resting) → IsPermutation gathered live → EachPair ArrivesBefore live
    → IsPermutation (filter (is_late from) gathered) late → IsNonDecreasingBy (λ (o : Resting). o.arrival) late → late ≡ filter (is_late from) live
late-turns from gathered live late same rising late_same falls_not =
    let L : Resting → Bool = is_late from in
    sorted-back (filter L live) late
    (EachPair-filter Earlier L live (pairs_weaker ArrivesBefore Earlier (λ a b is. is.arrival) live rising))
    (IsPermutation-trans (filter L live) (filter L gathered) late (filter-permuted L live gathered (IsPermutation-sym gathered live same)) late_same)
    falls_not

-- ---- all together

-- each of the front ones is in R with each behind them
across : (R : Resting → Resting → Type 0) (xs ys : List Resting) → EachPair R (xs ++ ys) → Each (λ x. Each (R x) ys) xs
across R [] ys pairs = tt
across R (x ∷ xs) ys pairs = (
  Each-of (R x) ys (λ y there. Each-among (R x) (xs ++ ys) y pairs.0 (among_end xs ys y there)),
  across R xs ys pairs.1,
)

-- the early ones, in any order, came before the late ones
pub early-before : (from : ℕ) (live early late : List Resting) → EachPair ArrivesBefore live → IsPermutation (filter (is_early from) live) early → late ≡ filter (is_late from) live
    → Each (λ w. Each (ArrivesBefore w) late) early
early-before from live early late rising early_same late_is =
    let E : List Resting = filter (is_early from) live in
    let L : List Resting = filter (is_late from) live in
    let Before : Resting → Type 0 = λ (w : Resting). Each (ArrivesBefore w) L in
    let sorted : Each Before E = across ArrivesBefore E L (subst (EachPair ArrivesBefore) (parted from live rising) rising) in
    subst (λ (os : List Resting). Each (λ w. Each (ArrivesBefore w) os) early) (sym late_is)
    (Each-of Before early (λ w there. Each-among Before E w sorted (among_permutation E early w early_same there)))

-- The late ones in order, played among the early ones in any order, where these are one bank's.
pub played-parted : (pair weight i j line from bank : ℕ) (live early late : List Resting) (fills : List Fill) → EachPair ArrivesBefore live
    → Each (λ o. 1 ≤ o.left) live → Each (λ o. o.arrival < from → o.bank ≡ bank) live
    → IsPermutation (filter (is_early from) live) early → late ≡ filter (is_late from) live
    → Played pair weight i j line early late fills → Played pair weight i j line [] live fills
played-parted pair weight i j line from bank live early late fills rising some own early_same late_is played =
    let E : List Resting = filter (is_early from) live in
    let L : List Resting = filter (is_late from) live in
    let parts : live ≡ E ++ L = parted from live rising in
    let apart : EachPair IsApart live = rising-apart live rising in
    let E_apart : EachPair IsApart E = EachPair-filter IsApart (is_early from) live apart in
    let L_apart : EachPair IsApart L = EachPair-filter IsApart (is_late from) live apart in
    let E_across : Each (λ x. Each (IsApart x) L) E = across IsApart E L (subst (EachPair IsApart) parts apart) in
    let Own : Resting → Type 0 = λ (o : Resting). o.arrival < from → o.bank ≡ bank in
    let E_own : Each (IsOwn bank) E = Each-of (IsOwn bank) E (λ o there.
    let found = Among-filter (is_early from) live o there in
    Each-among Own live o own found.0 (ltb-true o.arrival from found.1)) in
    subst (λ (os : List Resting). Played pair weight i j line [] os fills) (sym parts)
    (played-behind pair weight i j line bank E L fills E_own (Each-filter (λ (o : Resting). 1 ≤ o.left) (is_early from) live some)
    (played-alike pair weight i j line early E L fills (alike-permuted early E (IsPermutation-sym E early early_same)) (apart-permuted E early early_same E_apart) E_apart E_across L_apart
    (subst (λ (os : List Resting). Played pair weight i j line early os fills) late_is played)))

-- The same of orders that were gathered in any order: the late ones are sorted.
pub played-late : (pair weight i j line from bank : ℕ) (gathered live early late : List Resting) (fills : List Fill) → IsPermutation gathered live → EachPair ArrivesBefore live
    → Each (λ o. 1 ≤ o.left) live → Each (λ o. o.arrival < from → o.bank ≡ bank) live
    → early ≡ filter (is_early from) gathered → IsPermutation (filter (is_late from) gathered) late → IsNonDecreasingBy (λ (o : Resting). o.arrival) late
    → Played pair weight i j line early late fills → Played pair weight i j line [] live fills
played-late pair weight i j line from bank gathered live early late fills same rising some own early_is late_same falls_not played =
    played-parted pair weight i j line from bank live early late fills rising some own
    (subst (IsPermutation (filter (is_early from) live)) (sym early_is) (filter-permuted (is_early from) live gathered (IsPermutation-sym gathered live same)))
    (late-turns from gathered live late same rising late_same falls_not)
    played
