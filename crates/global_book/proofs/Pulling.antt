-- A bank's orders taken out one after another, and how many they can be.
use Rattle.std.proofs.Common.{ℕ, ◌≡◌, ◌≢◌, ◌+◌, ◌-◌, ◌≤◌, ◌<◌, ◌^◌, Bool, true, false, not, ◌&&◌, eqb, ltb, List, [], ◌∷◌, map, Option, Some, None, ◌⊎◌, inl, inr, refl, ap, sym, subst, ◌∙◌, arith, length}
use Rattle.std.proofs.lemmas.Bool.{cases_Bool, both_ways, and_left, and_right, eqb-true, ne_eqb, not_from_true, not_from_false, false_from_ne_true, or_cases, lt-ltb}
use Rattle.std.proofs.lemmas.Map.Steps.{length-le_from_distinct_below}
use Rattle.std.proofs.lemmas.List.{length-map}
use Rattle.std.proofs.lemmas.List.Elements.{filter_agree}
use Rattle.std.specs.List.{AllByRecursion, IsDistinct, filter, list_any}
use Rattle.std.specs.Option.{IfSome}
use Rattle.fx_amounts.specs.Side.{opposite}
use Rattle.fx_amounts.specs.declared.side.Side.{Side}
use Rattle.fx_amounts.specs.declared.side.Side.TheVariants.{Buy, Sell}
use Rattle.fx_rules.specs.declared.orders.Resting.{Resting}
use Rattle.fx_rules.specs.Lists.{Among, Each, EachPair}
use Rattle.fx_rules.specs.Sound.{ArrivesBefore}
use Rattle.fx_rules.specs.Sweep.{IsBest, is_opposite, is_order}
use Rattle.fx_rules.proofs.ListLemmas.{Each-among, Among-filter, among_filter, filter_filter, filter_agree_on, filter_cons_true, filter_cons_false}
use Rattle.fx_rules.proofs.Lowering.{is_order-from, is_order-says}
use Rattle.global_book.specs.Behind.{is_owned_behind, owned_behind}
use Rattle.global_book.specs.Book.{Book, IsHeld, IsBook, Rests, is_of}
use Rattle.global_book.specs.inside.Owning.{is_own}

and_true : (a b : Bool) → b ≡ true → (a && b) ≡ a
and_true true b all = all
and_true false b all = refl

-- ---- one order less

-- orders that rise have different arrivals, and are of different commands
pub same_order : (orders : List Resting) (a b : Resting) → EachPair ArrivesBefore orders → Among a orders → Among b orders → a.bank ≡ b.bank → a.number ≡ b.number → a ≡ b
same_order [] a b rising here there bank number = absurd here
same_order (x ∷ xs) a b rising (inl is) (inl is') bank number = is ∙ sym is'
same_order (x ∷ xs) a b rising (inl is) (inr there) bank number =
    absurd ((Each-among (ArrivesBefore x) xs b rising.0 there).number (ap (λ (o : Resting). o.bank) (sym is) ∙ bank) (ap (λ (o : Resting). o.number) (sym is) ∙ number))
same_order (x ∷ xs) a b rising (inr here) (inl is') bank number =
    absurd ((Each-among (ArrivesBefore x) xs a rising.0 here).number (ap (λ (o : Resting). o.bank) (sym is') ∙ sym bank) (ap (λ (o : Resting). o.number) (sym is') ∙ sym number))
same_order (x ∷ xs) a b rising (inr here) (inr there) bank number = same_order xs a b rising.1 here there bank number

-- a test that leaves out one more order, and no other
pub one_fewer : (p q : Resting → Bool) (xs : List Resting) (x : Resting) → EachPair ArrivesBefore xs → Among x xs → p x ≡ false → q x ≡ true
    → ((y : Resting) → Among y xs → y.arrival ≢ x.arrival → p y ≡ q y) → length (filter p xs) + 1 ≡ length (filter q xs)
one_fewer p q [] x rising there fails passes same = absurd there
one_fewer p q (y ∷ ys) x rising (inl is) fails passes same =
    let rest : filter p ys ≡ filter q ys = filter_agree_on p q ys (λ o there.
    let later : ArrivesBefore y o = Each-among (ArrivesBefore y) ys o rising.0 there in
    same o (inr there) (λ equal. omega (arith, later.arrival, equal, ap (λ (r : Resting). r.arrival) is))) in
    omega (
      arith,
      ap (λ (zs : List Resting). length zs) (filter_cons_false p y ys (ap p (sym is) ∙ fails)),
      ap (λ (zs : List Resting). length zs) (filter_cons_true q y ys (ap q (sym is) ∙ passes)),
      ap (λ (zs : List Resting). length zs) rest,
    )
one_fewer p q (y ∷ ys) x rising (inr there) fails passes same =
    let rest : length (filter p ys) + 1 ≡ length (filter q ys) = one_fewer p q ys x rising.1 there fails passes (λ o in'. same o (inr in')) in
    let earlier : ArrivesBefore y x = Each-among (ArrivesBefore y) ys x rising.0 there in
    let alike : p y ≡ q y = same y (inl refl) (λ equal. omega (arith, earlier.arrival, equal)) in
    elim (cases_Bool (q y)) [
      | inl q_yes ↦ omega (
        arith,
        rest,
        ap (λ (zs : List Resting). length zs) (filter_cons_true p y ys (alike ∙ q_yes)),
        ap (λ (zs : List Resting). length zs) (filter_cons_true q y ys q_yes),
      )
      | inr q_no ↦ omega (
        arith,
        rest,
        ap (λ (zs : List Resting). length zs) (filter_cons_false p y ys (alike ∙ q_no)),
        ap (λ (zs : List Resting). length zs) (filter_cons_false q y ys q_no),
      )
    ]

its_own : (order : Resting) → is_order order.bank order.number order ≡ true
its_own order = is_order-from order.bank order.number order refl refl

pub rests_itself : (orders : List Resting) (order : Resting) → Among order orders → Rests orders order.bank order.number
rests_itself orders order there = (order, there, its_own order)

-- another order is not the one that goes
not_it : (orders : List Resting) (order o : Resting) → EachPair ArrivesBefore orders → Among order orders → Among o orders → (o ≡ order → ⊥) → not (is_order order.bank order.number o) ≡ true
not_it orders order o rising there here differ = not_from_false (is_order order.bank order.number o) (false_from_ne_true (is_order order.bank order.number o) (λ same.
    let it = is_order-says order.bank order.number o same in
    differ (same_order orders o order rising here there it.0 it.1)))

-- without one order there is one less of those that pass a test that it passes
pub one_less : (test : Resting → Bool) (orders : List Resting) (order : Resting) → EachPair ArrivesBefore orders → Among order orders → test order ≡ true
    → length (filter test (filter (λ o. not (is_order order.bank order.number o)) orders)) + 1 ≡ length (filter test orders)
one_less test orders order rising there passes =
    let stays : Resting → Bool = λ o. not (is_order order.bank order.number o) in
    let fewer : length (filter (λ o. test o && stays o) orders) + 1 ≡ length (filter test orders) =
    one_fewer (λ o. test o && stays o) test orders order rising there
    (and_right (test order) (stays order) (not_from_true (is_order order.bank order.number order) (its_own order))) passes
    (λ o here differ. and_true (test o) (stays o) (not_it orders order o rising there here (λ same. differ (ap (λ (r : Resting). r.arrival) same)))) in
    omega (arith, fewer, ap (λ (zs : List Resting). length zs) (filter_filter test stays orders))

-- and the others are the same
pub others_stay : (test : Resting → Bool) (orders : List Resting) (order : Resting) → EachPair ArrivesBefore orders → Among order orders → test order ≡ true
    → filter (λ o. not (test o)) (filter (λ o. not (is_order order.bank order.number o)) orders) ≡ filter (λ o. not (test o)) orders
others_stay test orders order rising there passes =
    let other : Resting → Bool = λ o. not (test o) in
    let stays : Resting → Bool = λ o. not (is_order order.bank order.number o) in
    filter_filter other stays orders ∙ filter_agree_on (λ o. other o && stays o) other orders (λ o here. elim (cases_Bool (test o)) [
      | inl yes' ↦ and_left (other o) (stays o) (not_from_true (test o) yes') ∙ sym (not_from_true (test o) yes')
      | inr no' ↦ and_true (other o) (stays o) (not_it orders order o rising there here (λ same. both_ways (test o) no' (ap test same ∙ passes)))
    ])

filter_all : {X : Type 0} (test : X → Bool) (xs : List X) → ((x : X) → Among x xs → test x ≡ true) → filter test xs ≡ xs
filter_all test [] all = refl
filter_all test (x ∷ xs) all = filter_cons_true test x xs (all x (inl refl)) ∙ ap (λ ys. x ∷ ys) (filter_all test xs (λ y there. all y (inr there)))

pub all_others : (test : Resting → Bool) (orders : List Resting) → filter test orders ≡ [] → filter (λ o. not (test o)) orders ≡ orders
all_others test orders none = filter_all (λ o. not (test o)) orders (λ o there. not_from_false (test o) (false_from_ne_true (test o)
    (λ yes'. let it : Among o [] = subst (Among o) none (among_filter test orders o there yes') in it)))

-- ---- a bank's orders of a side

-- no order arrives at 2 ^ 64, so that all are in time
owned_same : (A B C : Bool) → C ≡ true → (A && B && C && true) ≡ (B && A)
owned_same true true C all = ap (λ c. c && true) all
owned_same true false C all = refl
owned_same false true C all = refl
owned_same false false C all = refl

pub owned_all : (book : Book) (side : Side) (bank : ℕ) → IsBook book → owned_behind side bank (2 ^ 64) None book.orders ≡ filter (is_own bank side) book.orders
owned_all book side bank valid = filter_agree_on (is_owned_behind (opposite side) bank (2 ^ 64) None) (is_own bank side) book.orders (λ o there.
    owned_same (is_opposite (opposite side) o.side) (is_of bank o) (ltb o.arrival (2 ^ 64)) (lt-ltb o.arrival (2 ^ 64) (Each-among (IsHeld book.banks) book.orders o valid.held there).arrival_most))

-- the best of them is one of them
pub record IsNext (bank : ℕ) (side : Side) (orders : List Resting) (order : Resting) : Type 0 where
  pub there : Among order orders
  pub is_its : is_own bank side order ≡ true

pub next_is : (book : Book) (side : Side) (bank : ℕ) (found : Option Resting) (order : Resting) → IsBook book → found ≡ Some order
    → IfSome found (IsBest (opposite side) (owned_behind side bank (2 ^ 64) None book.orders)) → IsNext bank side book.orders order
next_is book side bank found order valid is best =
    let it : IsBest (opposite side) (owned_behind side bank (2 ^ 64) None book.orders) order = subst (λ (f : Option Resting). IfSome f (IsBest (opposite side) (owned_behind side bank (2 ^ 64) None book.orders))) is best in
    let both = Among-filter (is_own bank side) book.orders order (subst (Among order) (owned_all book side bank valid) it.there) in
    record { there = both.0; is_its = both.1 }

-- each order of a bank is of one side
one_side : (mine : Bool) (side : Side) → (((mine && is_opposite (opposite Buy) side) ≡ mine) × ((mine && is_opposite (opposite Sell) side) ≡ false))
    ⊎ (((mine && is_opposite (opposite Sell) side) ≡ mine) × ((mine && is_opposite (opposite Buy) side) ≡ false))
one_side true Buy = inl (refl, refl)
one_side true Sell = inr (refl, refl)
one_side false side = inl (refl, refl)

sides_count : (bank : ℕ) (orders : List Resting) → length (filter (is_own bank Buy) orders) + length (filter (is_own bank Sell) orders) ≡ length (filter (is_of bank) orders)
sides_count bank [] = refl
sides_count bank (x ∷ xs) =
    let rest = sides_count bank xs in
    elim (cases_Bool (is_of bank x)) [
      | inl mine ↦ elim (one_side (is_of bank x) x.side) [
        | inl buy ↦ omega (
          arith,
          rest,
          ap (λ (zs : List Resting). length zs) (filter_cons_true (is_own bank Buy) x xs (buy.0 ∙ mine)),
          ap (λ (zs : List Resting). length zs) (filter_cons_false (is_own bank Sell) x xs buy.1),
          ap (λ (zs : List Resting). length zs) (filter_cons_true (is_of bank) x xs mine),
        )
        | inr sell ↦ omega (
          arith,
          rest,
          ap (λ (zs : List Resting). length zs) (filter_cons_true (is_own bank Sell) x xs (sell.0 ∙ mine)),
          ap (λ (zs : List Resting). length zs) (filter_cons_false (is_own bank Buy) x xs sell.1),
          ap (λ (zs : List Resting). length zs) (filter_cons_true (is_of bank) x xs mine),
        )
      ]
      | inr other ↦ omega (
        arith,
        rest,
        ap (λ (zs : List Resting). length zs) (filter_cons_false (is_own bank Buy) x xs (and_left (is_of bank x) (is_opposite (opposite Buy) x.side) other)),
        ap (λ (zs : List Resting). length zs) (filter_cons_false (is_own bank Sell) x xs (and_left (is_of bank x) (is_opposite (opposite Sell) x.side) other)),
        ap (λ (zs : List Resting). length zs) (filter_cons_false (is_of bank) x xs other),
      )
    ]

-- the bank's orders of both sides
pub owned_count : (book : Book) (bank : ℕ) → IsBook book → length (owned_behind Buy bank (2 ^ 64) None book.orders) + length (owned_behind Sell bank (2 ^ 64) None book.orders) ≡ length (filter (is_of bank) book.orders)
owned_count book bank valid =
    omega (
      arith,
      sides_count bank book.orders,
      ap (λ (zs : List Resting). length zs) (owned_all book Buy bank valid),
      ap (λ (zs : List Resting). length zs) (owned_all book Sell bank valid),
    )

sell_stays : (mine : Bool) (side : Side) → ((mine && is_opposite (opposite Sell) side) && not (mine && is_opposite (opposite Buy) side)) ≡ (mine && is_opposite (opposite Sell) side)
sell_stays true Buy = refl
sell_stays true Sell = refl
sell_stays false side = refl

neither_side : (mine : Bool) (side : Side) → (not (mine && is_opposite (opposite Sell) side) && not (mine && is_opposite (opposite Buy) side)) ≡ not mine
neither_side true Buy = refl
neither_side true Sell = refl
neither_side false side = refl

-- first the buys are taken out, and then the sells
pub both_counted : (bank : ℕ) (orders : List Resting) → length (filter (is_own bank Buy) orders) + length (filter (is_own bank Sell) (filter (λ o. not (is_own bank Buy o)) orders)) ≡ length (filter (is_of bank) orders)
both_counted bank orders =
    omega (
      arith,
      sides_count bank orders,
      ap (λ (zs : List Resting). length zs)
          (filter_filter (is_own bank Sell) (λ o. not (is_own bank Buy o)) orders
          ∙ filter_agree (λ o. is_own bank Sell o && not (is_own bank Buy o)) (is_own bank Sell) (λ o. sell_stays (is_of bank o) o.side) orders),
    )

pub both_gone : (bank : ℕ) (orders : List Resting) → filter (λ o. not (is_own bank Sell o)) (filter (λ o. not (is_own bank Buy o)) orders) ≡ filter (λ o. not (is_of bank o)) orders
both_gone bank orders =
    filter_filter (λ o. not (is_own bank Sell o)) (λ o. not (is_own bank Buy o)) orders
    ∙ filter_agree (λ o. not (is_own bank Sell o) && not (is_own bank Buy o)) (λ o. not (is_of bank o)) (λ o. neither_side (is_of bank o) o.side) orders

-- ---- how many orders a bank can have

-- the numbers of a bank's orders, from 0, are below 2^32 - 1
number_below : (banks : ℕ) (bank : ℕ) (orders : List Resting) → Each (IsHeld banks) orders → (q : ℕ) → list_any (eqb q) (map (λ o. o.number - 1) (filter (is_of bank) orders)) ≡ true → q < 2 ^ 32 - 1
number_below banks bank [] held q there = cc
number_below banks bank (x ∷ xs) held q there =
    elim (cases_Bool (is_of bank x)) [
      | inl mine ↦
          let it : list_any (eqb q) ((x.number - 1) ∷ map (λ o. o.number - 1) (filter (is_of bank) xs)) ≡ true
          = sym (ap (λ (ys : List Resting). list_any (eqb q) (map (λ o. o.number - 1) ys)) (filter_cons_true (is_of bank) x xs mine)) ∙ there in
          elim (or_cases (eqb q (x.number - 1)) (list_any (eqb q) (map (λ o. o.number - 1) (filter (is_of bank) xs))) it) [
            | inl here ↦ omega (arith, eqb-true q (x.number - 1) here, held.0.number_least, held.0.number_most)
            | inr later ↦ number_below banks bank xs held.1 q later
          ]
      | inr other ↦ number_below banks bank xs held.1 q (sym (ap (λ (ys : List Resting). list_any (eqb q) (map (λ o. o.number - 1) ys)) (filter_cons_false (is_of bank) x xs other)) ∙ there)
    ]

each_number : (banks : ℕ) (bank : ℕ) (x : Resting) (xs : List Resting) → is_of bank x ≡ true → IsHeld banks x → Each (IsHeld banks) xs → Each (ArrivesBefore x) xs
    → AllByRecursion (λ n. eqb (x.number - 1) n ≡ false) (map (λ o. o.number - 1) (filter (is_of bank) xs))
each_number banks bank x [] mine held all before = tt
each_number banks bank x (y ∷ ys) mine held all before =
    let rest = each_number banks bank x ys mine held all.1 before.1 in
    elim (cases_Bool (is_of bank y)) [
      | inl its ↦
          let differ : x.number ≢ y.number = before.0.number (eqb-true x.bank bank mine ∙ sym (eqb-true y.bank bank its)) in
          subst (λ (zs : List Resting). AllByRecursion (λ n. eqb (x.number - 1) n ≡ false) (map (λ o. o.number - 1) zs)) (sym (filter_cons_true (is_of bank) y ys its))
          (ne_eqb (x.number - 1) (y.number - 1) (λ same. differ (let a = held.number_least in let b = all.0.number_least in omega arith)), rest)
      | inr other ↦
          subst (λ (zs : List Resting). AllByRecursion (λ n. eqb (x.number - 1) n ≡ false) (map (λ o. o.number - 1) zs)) (sym (filter_cons_false (is_of bank) y ys other)) rest
    ]

distinct_numbers : (banks : ℕ) (bank : ℕ) (orders : List Resting) → EachPair ArrivesBefore orders → Each (IsHeld banks) orders → IsDistinct eqb (map (λ o. o.number - 1) (filter (is_of bank) orders))
unfolding IsDistinct
distinct_numbers banks bank [] rising held = tt
distinct_numbers banks bank (x ∷ xs) rising held =
    let rest = distinct_numbers banks bank xs rising.1 held.1 in
    elim (cases_Bool (is_of bank x)) [
      | inl mine ↦
          subst (λ (zs : List Resting). IsDistinct eqb (map (λ o. o.number - 1) zs)) (sym (filter_cons_true (is_of bank) x xs mine))
          (each_number banks bank x xs mine held.0 held.1 rising.0, rest)
      | inr other ↦ subst (λ (zs : List Resting). IsDistinct eqb (map (λ o. o.number - 1) zs)) (sym (filter_cons_false (is_of bank) x xs other)) rest
    ]

-- a bank has fewer orders than numbers
pub few_orders : (book : Book) (bank : ℕ) → IsBook book → length (filter (is_of bank) book.orders) < 2 ^ 32
few_orders book bank valid =
    let few : length (map (λ o. o.number - 1) (filter (is_of bank) book.orders)) ≤ 2 ^ 32 - 1
    = length-le_from_distinct_below (map (λ o. o.number - 1) (filter (is_of bank) book.orders)) (2 ^ 32 - 1)
    (distinct_numbers book.banks bank book.orders valid.rising valid.held) (number_below book.banks bank book.orders valid.held) in
    omega (arith, few, length-map (filter (is_of bank) book.orders) (λ (o : Resting). o.number - 1))

-- and fewer of a side
pub few_own : (book : Book) (bank : ℕ) (side : Side) → IsBook book → length (filter (is_own bank side) book.orders) < 2 ^ 32
few_own book bank Buy valid = let few = few_orders book bank valid in let sum = sides_count bank book.orders in omega arith
few_own book bank Sell valid = let few = few_orders book bank valid in let sum = sides_count bank book.orders in omega arith
