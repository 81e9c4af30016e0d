-- Two lists of orders that look the same to a bank, order by order.
use Rattle.std.proofs.Common.{ℕ, zero, suc, ◌≡◌, ◌-◌, ◌<◌, Bool, true, false, eqb, ltb, cond, List, [], ◌∷◌, ◌++◌, map, ◌⊎◌, inl, inr, refl, ap, sym, subst, ◌∙◌, arith, Option, Some, None, find}
use Rattle.std.specs.List.{filter}
use Rattle.std.specs.Prelude.{nat_lt}
use Rattle.std.proofs.lemmas.Bool.{cases_Bool, cond_both, cond-true, cond-false, eq-eqb, le-ltb, lt-ltb, false_from_ne_true, cases_eq}
use Rattle.fx_rules.specs.declared.orders.ActiveOrder.{ActiveOrder}
use Rattle.fx_rules.specs.declared.orders.Resting.{Resting}
use Rattle.fx_rules.specs.Lists.{Among, EachPair, below}
use Rattle.fx_rules.specs.State.{orders_in}
use Rattle.fx_rules.specs.Sweep.{is_order, lowered, with_left}
use Rattle.fx_rules.specs.Sound.{ArrivesBefore}
use Rattle.fx_rules.specs.View.{seen_as}
use Rattle.fx_rules.proofs.ListLemmas.{Each-among, filter_cons_true, filter_cons_false}
use Rattle.fx_rules.proofs.Lowering.{is_order-says, is_order-from}
use Rattle.fx_rules.proofs.Planning.{orders_in-here, orders_in-there}

-- the orders of two lists look the same, one by one
abbrev pub Paired : ℕ → List Resting → List Resting → Type 0
Paired b [] [] = Unit {0}
Paired b (x ∷ xs) (y ∷ ys) = (seen_as b x ≡ seen_as b y) × Paired b xs ys
Paired b _ _ = ⊥

-- x and y stand at one place of the two lists
abbrev pub Together : Resting → Resting → List Resting → List Resting → Type 0
Together x y (p ∷ xs) (q ∷ ys) = ((x ≡ p) × (y ≡ q)) ⊎ Together x y xs ys
Together x y _ _ = ⊥

pub paired-map : (b : ℕ) (xs ys : List Resting) → map (seen_as b) xs ≡ map (seen_as b) ys → Paired b xs ys
paired-map b [] [] same = tt
paired-map b [] (y ∷ ys) same = cc
paired-map b (x ∷ xs) [] same = cc
paired-map b (x ∷ xs) (y ∷ ys) same =
    let tail : map (seen_as b) xs ≡ map (seen_as b) ys = cc in
    let head : seen_as b x ≡ seen_as b y = cc in
    (head, paired-map b xs ys tail)

pub together-like : (b : ℕ) (x y : Resting) (xs ys : List Resting) → Paired b xs ys → Together x y xs ys → seen_as b x ≡ seen_as b y
together-like b x y (p ∷ xs) (q ∷ ys) paired (inl here) = ap (seen_as b) here.0 ∙ paired.0 ∙ sym (ap (seen_as b) here.1)
together-like b x y (p ∷ xs) (q ∷ ys) paired (inr later) = together-like b x y xs ys paired.1 later
together-like b x y xs ys paired together = absurd together

pub together-first : (x y : Resting) (xs ys : List Resting) → Together x y xs ys → Among x xs
together-first x y (p ∷ xs) (q ∷ ys) (inl here) = inl here.0
together-first x y (p ∷ xs) (q ∷ ys) (inr later) = inr (together-first x y xs ys later)
together-first x y xs ys together = absurd together

pub together-second : (x y : Resting) (xs ys : List Resting) → Together x y xs ys → Among y ys
together-second x y (p ∷ xs) (q ∷ ys) (inl here) = inl here.1
together-second x y (p ∷ xs) (q ∷ ys) (inr later) = inr (together-second x y xs ys later)
together-second x y xs ys together = absurd together

pub partner : (b : ℕ) (x : Resting) (xs ys : List Resting) → Paired b xs ys → Among x xs → (y : Resting) × Together x y xs ys
partner b x [] ys paired there = absurd there
partner b x (p ∷ xs) [] paired there = absurd paired
partner b x (p ∷ xs) (q ∷ ys) paired (inl is) = (q, inl (is, refl))
partner b x (p ∷ xs) (q ∷ ys) paired (inr there) = let found = partner b x xs ys paired.1 there in (found.0, inr found.1)

pub partner_other : (b : ℕ) (y : Resting) (xs ys : List Resting) → Paired b xs ys → Among y ys → (x : Resting) × Together x y xs ys
partner_other b y xs [] paired there = absurd there
partner_other b y [] (q ∷ ys) paired there = absurd paired
partner_other b y (p ∷ xs) (q ∷ ys) paired (inl is) = (p, inl (refl, is))
partner_other b y (p ∷ xs) (q ∷ ys) paired (inr there) = let found = partner_other b y xs ys paired.1 there in (found.0, inr found.1)

-- of two orders of which one arrives before the other, neither is of the other's command
first_differs : (x y : Resting) → ArrivesBefore x y → is_order x.bank x.number y ≡ false
first_differs x y before = false_from_ne_true (is_order x.bank x.number y) (λ is.
    let parts = is_order-says x.bank x.number y is in before.number (sym parts.0) (sym parts.1))

second_differs : (x y : Resting) → ArrivesBefore x y → is_order y.bank y.number x ≡ false
second_differs x y before = false_from_ne_true (is_order y.bank y.number x) (λ is.
    let parts = is_order-says y.bank y.number x is in before.number parts.0 parts.1)

-- orders at two places of two lists in arrival order come in the same order
pub together-earlier : (x y v w : Resting) (xs ys : List Resting) → EachPair ArrivesBefore xs → EachPair ArrivesBefore ys → Together x y xs ys → Together v w xs ys → ltb x.arrival v.arrival ≡ ltb y.arrival w.arrival
together-earlier x y v w (p ∷ xs) (q ∷ ys) rising rising' (inl here) (inl there) =
    le-ltb x.arrival v.arrival (omega (arith, ap (λ (o : Resting). o.arrival) (here.0 ∙ sym there.0)))
    ∙ sym (le-ltb y.arrival w.arrival (omega (arith, ap (λ (o : Resting). o.arrival) (here.1 ∙ sym there.1))))
together-earlier x y v w (p ∷ xs) (q ∷ ys) rising rising' (inl here) (inr there) =
    let before : ArrivesBefore p v = Each-among (ArrivesBefore p) xs v rising.0 (together-first v w xs ys there) in
    let before' : ArrivesBefore q w = Each-among (ArrivesBefore q) ys w rising'.0 (together-second v w xs ys there) in
    lt-ltb x.arrival v.arrival (omega (arith, before.arrival, ap (λ (o : Resting). o.arrival) here.0))
    ∙ sym (lt-ltb y.arrival w.arrival (omega (arith, before'.arrival, ap (λ (o : Resting). o.arrival) here.1)))
together-earlier x y v w (p ∷ xs) (q ∷ ys) rising rising' (inr here) (inl there) =
    let before : ArrivesBefore p x = Each-among (ArrivesBefore p) xs x rising.0 (together-first x y xs ys here) in
    let before' : ArrivesBefore q y = Each-among (ArrivesBefore q) ys y rising'.0 (together-second x y xs ys here) in
    le-ltb x.arrival v.arrival (omega (arith, before.arrival, ap (λ (o : Resting). o.arrival) there.0))
    ∙ sym (le-ltb y.arrival w.arrival (omega (arith, before'.arrival, ap (λ (o : Resting). o.arrival) there.1)))
together-earlier x y v w (p ∷ xs) (q ∷ ys) rising rising' (inr here) (inr there) = together-earlier x y v w xs ys rising.1 rising'.1 here there
together-earlier x y v w xs ys rising rising' together other = absurd together

same_order : (x v : Resting) → v ≡ x → is_order x.bank x.number v ≡ true
same_order x v is = is_order-from x.bank x.number v (ap (λ (o : Resting). o.bank) is) (ap (λ (o : Resting). o.number) is)

at_head : (p x v : Resting) (b : Bool) → x ≡ p → is_order p.bank p.number v ≡ b → is_order x.bank x.number v ≡ b
at_head p x v b is holds = subst (λ (o : Resting). is_order o.bank o.number v ≡ b) (sym is) holds

against_head : (p x v : Resting) (b : Bool) → v ≡ p → is_order x.bank x.number p ≡ b → is_order x.bank x.number v ≡ b
against_head p x v b is holds = subst (λ (o : Resting). is_order x.bank x.number o ≡ b) (sym is) holds

-- and the one is found in the one list where the other is in the other
pub together-order : (x y v w : Resting) (xs ys : List Resting) → EachPair ArrivesBefore xs → EachPair ArrivesBefore ys → Together x y xs ys → Together v w xs ys → is_order x.bank x.number v ≡ is_order y.bank y.number w
together-order x y v w (p ∷ xs) (q ∷ ys) rising rising' (inl here) (inl there) =
    same_order x v (there.0 ∙ sym here.0) ∙ sym (same_order y w (there.1 ∙ sym here.1))
together-order x y v w (p ∷ xs) (q ∷ ys) rising rising' (inl here) (inr there) =
    let before : ArrivesBefore p v = Each-among (ArrivesBefore p) xs v rising.0 (together-first v w xs ys there) in
    let before' : ArrivesBefore q w = Each-among (ArrivesBefore q) ys w rising'.0 (together-second v w xs ys there) in
    at_head p x v false here.0 (first_differs p v before) ∙ sym (at_head q y w false here.1 (first_differs q w before'))
together-order x y v w (p ∷ xs) (q ∷ ys) rising rising' (inr here) (inl there) =
    let before : ArrivesBefore p x = Each-among (ArrivesBefore p) xs x rising.0 (together-first x y xs ys here) in
    let before' : ArrivesBefore q y = Each-among (ArrivesBefore q) ys y rising'.0 (together-second x y xs ys here) in
    against_head p x v false there.0 (second_differs p x before) ∙ sym (against_head q y w false there.1 (second_differs q y before'))
together-order x y v w (p ∷ xs) (q ∷ ys) rising rising' (inr here) (inr there) = together-order x y v w xs ys rising.1 rising'.1 here there
together-order x y v w xs ys rising rising' together other = absurd together

-- ---- an order of a list is lowered

-- the order of this bank and number has so many lots less; where nothing is left it is gone
unfoldable pub lower_order : ℕ → ℕ → ℕ → List Resting → List Resting
lower_order bank number lots [] = []
lower_order bank number lots (o ∷ orders) =
    cond (is_order bank number o)
    (cond (nat_lt lots o.left) ((record o { left = o.left - lots }) ∷ orders) orders)
    (o ∷ lower_order bank number lots orders)

-- all orders of this bank and number are of one pair
abbrev pub AreOf : ℕ → ℕ → ℕ → List ActiveOrder → Type 0
AreOf pair bank number orders =
    (a : ActiveOrder) → Among a orders → a.order.bank ≡ bank → a.order.number ≡ number → a.pair ≡ pair

lessened : Resting → ℕ → Resting
lessened o lots = record o { left = o.left - lots }

-- what lowering does at the head of a list
lower-here : (bank number lots : ℕ) (o : Resting) (orders : List Resting) → is_order bank number o ≡ true → lower_order bank number lots (o ∷ orders) ≡ cond (nat_lt lots o.left) (lessened o lots ∷ orders) orders
unfolding lower_order lessened
lower-here bank number lots o orders is = rw is

lower-there : (bank number lots : ℕ) (o : Resting) (orders : List Resting) → is_order bank number o ≡ false → lower_order bank number lots (o ∷ orders) ≡ o ∷ lower_order bank number lots orders
unfolding lower_order
lower-there bank number lots o orders isnt = rw isnt

lowered-here : (bank number lots : ℕ) (a : ActiveOrder) (orders : List ActiveOrder) → is_order bank number a.order ≡ true → lowered bank number lots (a ∷ orders) ≡ cond (nat_lt lots a.order.left) (with_left a (a.order.left - lots) ∷ orders) orders
lowered-here bank number lots a orders is = rw is

lowered-there : (bank number lots : ℕ) (a : ActiveOrder) (orders : List ActiveOrder) → is_order bank number a.order ≡ false → lowered bank number lots (a ∷ orders) ≡ a ∷ lowered bank number lots orders
lowered-there bank number lots a orders isnt = rw isnt

orders_in-lessened : (pair lots : ℕ) (a : ActiveOrder) (orders : List ActiveOrder) → eqb a.pair pair ≡ true → orders_in pair (cond (nat_lt lots a.order.left) (with_left a (a.order.left - lots) ∷ orders) orders) ≡ cond (nat_lt lots a.order.left) (lessened a.order lots ∷ orders_in pair orders) (orders_in pair orders)
unfolding lessened
orders_in-lessened pair lots a orders here =
    cond_both (nat_lt lots a.order.left) (with_left a (a.order.left - lots) ∷ orders) orders
    (λ os. orders_in pair os ≡ cond (nat_lt lots a.order.left) (lessened a.order lots ∷ orders_in pair orders) (orders_in pair orders))
    (λ more. orders_in-here pair (with_left a (a.order.left - lots)) orders here
    ∙ sym (cond-true (nat_lt lots a.order.left) (lessened a.order lots ∷ orders_in pair orders) (orders_in pair orders) more))
    (λ none. sym (cond-false (nat_lt lots a.order.left) (lessened a.order lots ∷ orders_in pair orders) (orders_in pair orders) none))

-- to lower an order of a pair is to lower it in the pair's book
pub orders_in-lowered : (pair bank number lots : ℕ) (orders : List ActiveOrder) → AreOf pair bank number orders → orders_in pair (lowered bank number lots orders) ≡ lower_order bank number lots (orders_in pair orders)
unfolding lower_order
orders_in-lowered pair bank number lots [] are = refl
orders_in-lowered pair bank number lots (a ∷ orders) are =
    elim (cases_Bool (is_order bank number a.order)) [
      | inl is ↦
          let parts = is_order-says bank number a.order is in
          let here : eqb a.pair pair ≡ true = eq-eqb a.pair pair (are a (inl refl) parts.0 parts.1) in
          ap (orders_in pair) (lowered-here bank number lots a orders is) ∙ orders_in-lessened pair lots a orders here
          ∙ sym (ap (lower_order bank number lots) (orders_in-here pair a orders here) ∙ lower-here bank number lots a.order (orders_in pair orders) is)
      | inr isnt ↦
          let rest = orders_in-lowered pair bank number lots orders (λ b there. are b (inr there)) in
          ap (orders_in pair) (lowered-there bank number lots a orders isnt)
          ∙ elim (cases_Bool (eqb a.pair pair)) [
            | inl here ↦ orders_in-here pair a (lowered bank number lots orders) here ∙ ap (λ os. a.order ∷ os) rest
                ∙ sym (ap (lower_order bank number lots) (orders_in-here pair a orders here) ∙ lower-there bank number lots a.order (orders_in pair orders) isnt)
            | inr there ↦ orders_in-there pair a (lowered bank number lots orders) there ∙ rest
                ∙ sym (ap (lower_order bank number lots) (orders_in-there pair a orders there))
          ]
    ]

-- lowering an order of a bank, among the orders of some banks
pub filter-lowered : (shown : ℕ → Bool) (bank number lots : ℕ) (orders : List Resting) → shown bank ≡ true → filter (λ o. shown o.bank) (lower_order bank number lots orders) ≡ lower_order bank number lots (filter (λ o. shown o.bank) orders)
unfolding lower_order lessened
filter-lowered shown bank number lots [] is_shown = refl
filter-lowered shown bank number lots (o ∷ orders) is_shown =
    let test : Resting → Bool = λ q. shown q.bank in
    elim (cases_Bool (is_order bank number o)) [
      | inl is ↦
          let here : shown o.bank ≡ true = ap shown (is_order-says bank number o is).0 ∙ is_shown in
          ap (filter test) (lower-here bank number lots o orders is)
          ∙ cond_both (nat_lt lots o.left) (lessened o lots ∷ orders) orders
          (λ os. filter test os ≡ cond (nat_lt lots o.left) (lessened o lots ∷ filter test orders) (filter test orders))
          (λ more. filter_cons_true test (lessened o lots) orders here
          ∙ sym (cond-true (nat_lt lots o.left) (lessened o lots ∷ filter test orders) (filter test orders) more))
          (λ none. sym (cond-false (nat_lt lots o.left) (lessened o lots ∷ filter test orders) (filter test orders) none))
          ∙ sym (ap (lower_order bank number lots) (filter_cons_true test o orders here) ∙ lower-here bank number lots o (filter test orders) is)
      | inr isnt ↦
          let rest = filter-lowered shown bank number lots orders is_shown in
          ap (filter test) (lower-there bank number lots o orders isnt)
          ∙ elim (cases_Bool (shown o.bank)) [
            | inl here ↦ filter_cons_true test o (lower_order bank number lots orders) here ∙ ap (λ os. o ∷ os) rest
                ∙ sym (ap (lower_order bank number lots) (filter_cons_true test o orders here) ∙ lower-there bank number lots o (filter test orders) isnt)
            | inr there ↦ filter_cons_false test o (lower_order bank number lots orders) there ∙ rest
                ∙ sym (ap (lower_order bank number lots) (filter_cons_false test o orders there))
          ]
    ]

-- two commands' orders stand at the same places of two lists, or at none
abbrev pub AreMatched : ℕ → ℕ → ℕ → ℕ → List Resting → List Resting → Type 0
AreMatched bank number bank' number' xs ys =
    (x y : Resting) → Together x y xs ys → is_order bank number x ≡ is_order bank' number' y

like_left : (b : ℕ) (x y : Resting) → seen_as b x ≡ seen_as b y → x.left ≡ y.left
like_left b x y like = ap (λ (o : Resting). o.left) like

paired_cond : (b : ℕ) (more : Bool) (x y : Resting) (xs ys : List Resting) → seen_as b x ≡ seen_as b y → Paired b xs ys → Paired b (cond more (x ∷ xs) xs) (cond more (y ∷ ys) ys)
paired_cond b true x y xs ys like paired = (like, paired)
paired_cond b false x y xs ys like paired = paired

-- with both lowered, the lists look the same
pub paired-lowered : (b bank number bank' number' lots : ℕ) (xs ys : List Resting) → Paired b xs ys → AreMatched bank number bank' number' xs ys → Paired b (lower_order bank number lots xs) (lower_order bank' number' lots ys)
unfolding lower_order lessened
paired-lowered b bank number bank' number' lots [] [] paired matched = tt
paired-lowered b bank number bank' number' lots [] (y ∷ ys) paired matched = absurd paired
paired-lowered b bank number bank' number' lots (x ∷ xs) [] paired matched = absurd paired
paired-lowered b bank number bank' number' lots (x ∷ xs) (y ∷ ys) paired matched =
    let match : is_order bank number x ≡ is_order bank' number' y = matched x y (inl (refl, refl)) in
    let left : x.left ≡ y.left = like_left b x y paired.0 in
    let less_like : seen_as b (lessened x lots) ≡ seen_as b (lessened y lots) = ap (λ (o : Resting). lessened o lots) paired.0 in
    elim (cases_Bool (is_order bank number x)) [
      | inl is ↦
          subst (λ os. Paired b os (lower_order bank' number' lots (y ∷ ys))) (sym (lower-here bank number lots x xs is))
          (subst (Paired b (cond (nat_lt lots x.left) (lessened x lots ∷ xs) xs)) (sym (lower-here bank' number' lots y ys (sym match ∙ is)))
          (subst (λ n. Paired b (cond (nat_lt lots x.left) (lessened x lots ∷ xs) xs) (cond (nat_lt lots n) (lessened y lots ∷ ys) ys)) left
          (paired_cond b (nat_lt lots x.left) (lessened x lots) (lessened y lots) xs ys less_like paired.1)))
      | inr isnt ↦
          subst (λ os. Paired b os (lower_order bank' number' lots (y ∷ ys))) (sym (lower-there bank number lots x xs isnt))
          (subst (Paired b (x ∷ lower_order bank number lots xs)) (sym (lower-there bank' number' lots y ys (sym match ∙ isnt)))
          (paired.0, paired-lowered b bank number bank' number' lots xs ys paired.1 (λ v w there. matched v w (inr there))))
    ]

-- what stands together later stood together before
pub record StoodTogether (x y : Resting) (xs ys : List Resting) : Type 0 where
  pub first : Resting
  pub second : Resting
  pub together : Together first second xs ys
  pub first_is : x ≡ record first { left = x.left }
  pub second_is : y ≡ record second { left = y.left }

stood_later : (x y p q : Resting) (xs ys : List Resting) → StoodTogether x y xs ys → StoodTogether x y (p ∷ xs) (q ∷ ys)
stood_later x y p q xs ys stood = record {
  first = stood.first;
  second = stood.second;
  together = inr stood.together;
  first_is = stood.first_is;
  second_is = stood.second_is;
}

stood_self : (x y : Resting) (xs ys : List Resting) → Together x y xs ys → StoodTogether x y xs ys
stood_self x y xs ys together = record { first = x; second = y; together = together; first_is = refl; second_is = refl }

stood_cond : (b : Bool) (lots : ℕ) (x y p q : Resting) (xs ys : List Resting) → Together x y (cond b (lessened p lots ∷ xs) xs) (cond b (lessened q lots ∷ ys) ys) → StoodTogether x y (p ∷ xs) (q ∷ ys)
unfolding lessened
stood_cond true lots x y p q xs ys (inl here) = record {
  first = p;
  second = q;
  together = inl (refl, refl);
  first_is = here.0 ∙ ap (λ (l : ℕ). record p { left = l }) (sym (ap (λ (o : Resting). o.left) here.0));
  second_is = here.1 ∙ ap (λ (l : ℕ). record q { left = l }) (sym (ap (λ (o : Resting). o.left) here.1));
}
stood_cond true lots x y p q xs ys (inr later) = stood_later x y p q xs ys (stood_self x y xs ys later)
stood_cond false lots x y p q xs ys together = stood_later x y p q xs ys (stood_self x y xs ys together)

pub together-lowered : (b bank number bank' number' lots : ℕ) (x y : Resting) (xs ys : List Resting) → Paired b xs ys → AreMatched bank number bank' number' xs ys → Together x y (lower_order bank number lots xs) (lower_order bank' number' lots ys) → StoodTogether x y xs ys
unfolding lower_order
together-lowered b bank number bank' number' lots x y [] [] paired matched together = absurd together
together-lowered b bank number bank' number' lots x y [] (q ∷ ys) paired matched together = absurd paired
together-lowered b bank number bank' number' lots x y (p ∷ xs) [] paired matched together = absurd paired
together-lowered b bank number bank' number' lots x y (p ∷ xs) (q ∷ ys) paired matched together =
    let match : is_order bank number p ≡ is_order bank' number' q = matched p q (inl (refl, refl)) in
    let left : p.left ≡ q.left = like_left b p q paired.0 in
    elim (cases_Bool (is_order bank number p)) [
      | inl is ↦
          stood_cond (nat_lt lots p.left) lots x y p q xs ys
          (subst (λ n. Together x y (cond (nat_lt lots p.left) (lessened p lots ∷ xs) xs) (cond (nat_lt lots n) (lessened q lots ∷ ys) ys)) (sym left)
          (subst (Together x y (cond (nat_lt lots p.left) (lessened p lots ∷ xs) xs)) (lower-here bank' number' lots q ys (sym match ∙ is))
          (subst (λ os. Together x y os (lower_order bank' number' lots (q ∷ ys))) (lower-here bank number lots p xs is) together)))
      | inr isnt ↦
          elim (let it : Together x y (p ∷ lower_order bank number lots xs) (q ∷ lower_order bank' number' lots ys) =
          subst (Together x y (p ∷ lower_order bank number lots xs)) (lower-there bank' number' lots q ys (sym match ∙ isnt))
          (subst (λ os. Together x y os (lower_order bank' number' lots (q ∷ ys))) (lower-there bank number lots p xs isnt) together) in it) [
            | inl here ↦ stood_self x y (p ∷ xs) (q ∷ ys) (inl here)
            | inr later ↦ stood_later x y p q xs ys
                (together-lowered b bank number bank' number' lots x y xs ys paired.1 (λ v w there. matched v w (inr there)) later)
          ]
    ]

-- ---- orders that are found

-- tests that agree order by order find orders at one place, or none
pub record FindTogether (x y : Resting) (first second : Option Resting) (xs ys : List Resting) : Type 0 where
  pub first_is : first ≡ Some x
  pub second_is : second ≡ Some y
  pub together : Together x y xs ys

pub find-together : (b : ℕ) (test test' : Resting → Bool) (xs ys : List Resting) → Paired b xs ys → ((x y : Resting) → Together x y xs ys → test x ≡ test' y) → ((find test xs ≡ None) × (find test' ys ≡ None)) ⊎ ((x : Resting) × ((y : Resting) × FindTogether x y (find test xs) (find test' ys) xs ys))
find-together b test test' [] [] paired agree = inl (refl, refl)
find-together b test test' [] (y ∷ ys) paired agree = absurd paired
find-together b test test' (x ∷ xs) [] paired agree = absurd paired
find-together b test test' (x ∷ xs) (y ∷ ys) paired agree =
    let match : test x ≡ test' y = agree x y (inl (refl, refl)) in
    elim (cases_Bool (test x)) [
      | inl passes ↦ inr (
        x,
        (
          y,
          record {
            first_is = cond-true (test x) (Some x) (find test xs) passes;
            second_is = cond-true (test' y) (Some y) (find test' ys) (sym match ∙ passes);
            together = inl (refl, refl);
          },
        ),
      )
      | inr fails ↦
          let first : find test (x ∷ xs) ≡ find test xs = cond-false (test x) (Some x) (find test xs) fails in
          let second : find test' (y ∷ ys) ≡ find test' ys = cond-false (test' y) (Some y) (find test' ys) (sym match ∙ fails) in
          elim (find-together b test test' xs ys paired.1 (λ v w there. agree v w (inr there))) [
            | inl none ↦ inl (first ∙ none.0, second ∙ none.1)
            | inr found ↦ inr (
              found.0,
              (
                found.1.0,
                record {
                  first_is = first ∙ found.1.1.first_is;
                  second_is = second ∙ found.1.1.second_is;
                  together = inr found.1.1.together;
                },
              ),
            )
          ]
    ]

-- what passes is kept by the filter: it is found in the whole list just where it is among those kept
pub find-filter : {X : Type 0} (test keep : X → Bool) (xs : List X) → ((x : X) → test x ≡ true → keep x ≡ true) → find test (filter keep xs) ≡ find test xs
find-filter test keep [] keeps = refl
find-filter test keep (x ∷ xs) keeps =
    let rest = find-filter test keep xs keeps in
    elim (cases_Bool (test x)) [
      | inl passes ↦ ap (find test) (filter_cons_true keep x xs (keeps x passes))
          ∙ cond-true (test x) (Some x) (find test (filter keep xs)) passes ∙ sym (cond-true (test x) (Some x) (find test xs) passes)
      | inr fails ↦
          elim (cases_Bool (keep x)) [
            | inl kept ↦ ap (find test) (filter_cons_true keep x xs kept) ∙ cond-false (test x) (Some x) (find test (filter keep xs)) fails
            | inr dropped ↦ ap (find test) (filter_cons_false keep x xs dropped)
          ] ∙ rest ∙ sym (cond-false (test x) (Some x) (find test xs) fails)
    ]

-- ---- numbers below another

among_last : {X : Type 0} (xs : List X) (y x : X) → x ≡ y → Among x (xs ++ y ∷ [])
among_last [] y x is = inl is
among_last (z ∷ xs) y x is = inr (among_last xs y x is)

among_before : {X : Type 0} (xs : List X) (y x : X) → Among x xs → Among x (xs ++ y ∷ [])
among_before [] y x there = absurd there
among_before (z ∷ xs) y x (inl is) = inl is
among_before (z ∷ xs) y x (inr there) = inr (among_before xs y x there)

pub among_below : (n i : ℕ) → i < n → Among i (below n)
among_below zero i within = absurd (omega arith)
among_below (suc n) i within = elim (cases_eq i n) [
  | inl is ↦ among_last (below n) n i is
  | inr differ ↦ among_before (below n) n i (among_below n i (omega (arith, differ)))
]

pub map_same_at : {X Y : Type 0} (f g : X → Y) (xs : List X) (x : X) → map f xs ≡ map g xs → Among x xs → f x ≡ g x
map_same_at f g [] x same there = absurd there
map_same_at f g (y ∷ xs) x same (inl is) = let head : f y ≡ g y = cc in ap f is ∙ head ∙ sym (ap g is)
map_same_at f g (y ∷ xs) x same (inr there) = let tail : map f xs ≡ map g xs = cc in map_same_at f g xs x tail there
