-- An order that has lots less, among orders of one pair.
use Rattle.std.proofs.Common.{ℕ, ◌≡◌, ◌-◌, ltb, eqb, Bool, true, false, cond, List, [], ◌∷◌, ◌++◌, inl, inr, refl, ap, sym, ◌∙◌}
use Rattle.std.proofs.lemmas.Bool.{cases_Bool, cond_both, cond-true, cond-false, both_ways, eq-eqb}
use Rattle.std.specs.List.{filter}
use Rattle.fx_rules.specs.declared.orders.ActiveOrder.{ActiveOrder}
use Rattle.fx_rules.specs.declared.orders.Resting.{Resting}
use Rattle.fx_rules.specs.declared.orders.Fill.{Fill}
use Rattle.fx_rules.specs.Lists.{Among, Each}
use Rattle.fx_rules.specs.State.{orders_in}
use Rattle.fx_rules.specs.Sweep.{is_order, lowered, with_left}
use Rattle.fx_rules.proofs.ListLemmas.{filter_cons_true, filter_cons_false}
use Rattle.fx_rules.proofs.Lowering.{is_order-from}
use Rattle.fx_rules.proofs.Planning.{orders_in-here, orders_in-there}
use Rattle.credit_raise.specs.inside.Playing.{lessened, lessened_all}

-- ---- by the place where it stands

-- an order with lots less, or none where nothing is left
abbrev pub cut : ℕ → Resting → List Resting → List Resting
cut lots order orders = cond (ltb lots order.left) (record order { left = order.left - lots } ∷ orders) orders

pub lessened_here : (bank number lots : ℕ) (o : Resting) (orders : List Resting) → is_order bank number o ≡ true → lessened bank number lots (o ∷ orders) ≡ cut lots o orders
lessened_here bank number lots o orders is = cond-true (is_order bank number o) (cut lots o orders) (o ∷ lessened bank number lots orders) is

pub lessened_later : (bank number lots : ℕ) (o : Resting) (orders : List Resting) → is_order bank number o ≡ false → lessened bank number lots (o ∷ orders) ≡ o ∷ lessened bank number lots orders
lessened_later bank number lots o orders is_not = cond-false (is_order bank number o) (cut lots o orders) (o ∷ lessened bank number lots orders) is_not

-- it stands in front of more
pub lessened-front : (bank number lots : ℕ) (o : Resting) (xs ys : List Resting) → Among o xs → is_order bank number o ≡ true → lessened bank number lots (xs ++ ys) ≡ lessened bank number lots xs ++ ys
lessened-front bank number lots o [] ys there is = absurd there
lessened-front bank number lots o (x ∷ xs) ys there is =
    elim (cases_Bool (is_order bank number x)) [
      | inl here ↦
          lessened_here bank number lots x (xs ++ ys) here
          ∙ cond_both (ltb lots x.left) (record x { left = x.left - lots } ∷ xs) xs (λ (os : List Resting). cut lots x (xs ++ ys) ≡ os ++ ys)
          (λ more. cond-true (ltb lots x.left) (record x { left = x.left - lots } ∷ (xs ++ ys)) (xs ++ ys) more)
          (λ gone. cond-false (ltb lots x.left) (record x { left = x.left - lots } ∷ (xs ++ ys)) (xs ++ ys) gone)
          ∙ ap (λ (os : List Resting). os ++ ys) (sym (lessened_here bank number lots x xs here))
      | inr later ↦
          let rest : Among o xs = elim there [
            | inl same ↦ absurd (both_ways (is_order bank number x) later (ap (is_order bank number) (sym same) ∙ is))
            | inr behind ↦ behind
          ] in
          lessened_later bank number lots x (xs ++ ys) later
          ∙ ap (λ (os : List Resting). x ∷ os) (lessened-front bank number lots o xs ys rest is)
          ∙ ap (λ (os : List Resting). os ++ ys) (sym (lessened_later bank number lots x xs later))
    ]

-- it stands behind others
pub lessened-behind : (bank number lots : ℕ) (xs ys : List Resting) → Each (λ (o : Resting). is_order bank number o ≡ false) xs → lessened bank number lots (xs ++ ys) ≡ xs ++ lessened bank number lots ys
lessened-behind bank number lots [] ys all = refl
lessened-behind bank number lots (x ∷ xs) ys all =
    lessened_later bank number lots x (xs ++ ys) all.0 ∙ ap (λ (os : List Resting). x ∷ os) (lessened-behind bank number lots xs ys all.1)

-- ---- what stays true of each order

pub Each-lessened : (P : Resting → Type 0) → ((o : Resting) (left : ℕ) → P o → P (record o { left = left })) → (bank number lots : ℕ) (orders : List Resting) → Each P orders → Each P (lessened bank number lots orders)
Each-lessened P keeps bank number lots [] all = tt
Each-lessened P keeps bank number lots (o ∷ orders) all =
    cond_both (is_order bank number o) (cut lots o orders) (o ∷ lessened bank number lots orders) (Each P)
    (λ _. cond_both (ltb lots o.left) (record o { left = o.left - lots } ∷ orders) orders (Each P)
    (λ _. (keeps o (o.left - lots) all.0, all.1)) (λ _. all.1))
    (λ _. (all.0, Each-lessened P keeps bank number lots orders all.1))

pub Each-lessened_all : (P : Resting → Type 0) → ((o : Resting) (left : ℕ) → P o → P (record o { left = left })) → (orders : List Resting) (fills : List Fill) → Each P orders → Each P (lessened_all orders fills)
Each-lessened_all P keeps orders [] all = all
Each-lessened_all P keeps orders (f ∷ fills) all =
    Each-lessened_all P keeps (lessened f.maker f.maker_number f.lots orders) fills (Each-lessened P keeps f.maker f.maker_number f.lots orders all)

-- an order is its own command's
pub own_order : (o : Resting) → is_order o.bank o.number o ≡ true
own_order o = is_order-from o.bank o.number o refl refl

-- ---- in the state of the market

-- an order, where it is this command's, rests in this pair
abbrev pub OfPair : ℕ → ℕ → ℕ → ActiveOrder → Type 0
OfPair pair bank number a = is_order bank number a.order ≡ true → a.pair ≡ pair

-- a pair's orders, when one of them has lots less
pub orders_in-lowered : (pair bank number lots : ℕ) (orders : List ActiveOrder) → Each (OfPair pair bank number) orders → orders_in pair (lowered bank number lots orders) ≡ lessened bank number lots (orders_in pair orders)
orders_in-lowered pair bank number lots [] all = refl
orders_in-lowered pair bank number lots (a ∷ rest) all =
    let shorter : List ActiveOrder = cond (ltb lots a.order.left) (with_left a (a.order.left - lots) ∷ rest) rest in
    let low : List ActiveOrder = lowered bank number lots (a ∷ rest) in
    elim (cases_Bool (is_order bank number a.order)) [
      | inl is ↦
          let of_pair : eqb a.pair pair ≡ true = eq-eqb a.pair pair (all.0 is) in
          ap (orders_in pair) (cond-true (is_order bank number a.order) shorter (a ∷ lowered bank number lots rest) is)
          ∙ cond_both (ltb lots a.order.left) (record a.order { left = a.order.left - lots } ∷ orders_in pair rest) (orders_in pair rest)
          (λ (os : List Resting). orders_in pair shorter ≡ os)
          (λ more. ap (orders_in pair) (cond-true (ltb lots a.order.left) (with_left a (a.order.left - lots) ∷ rest) rest more)
          ∙ orders_in-here pair (with_left a (a.order.left - lots)) rest of_pair)
          (λ gone. ap (orders_in pair) (cond-false (ltb lots a.order.left) (with_left a (a.order.left - lots) ∷ rest) rest gone))
          ∙ sym (lessened_here bank number lots a.order (orders_in pair rest) is)
          ∙ ap (lessened bank number lots) (sym (orders_in-here pair a rest of_pair))
      | inr is_not ↦
          let later : orders_in pair (lowered bank number lots rest) ≡ lessened bank number lots (orders_in pair rest) = orders_in-lowered pair bank number lots rest all.1 in
          let walked : orders_in pair low ≡ orders_in pair (a ∷ lowered bank number lots rest) =
          ap (orders_in pair) (cond-false (is_order bank number a.order) shorter (a ∷ lowered bank number lots rest) is_not) in
          elim (cases_Bool (eqb a.pair pair)) [
            | inl of_pair ↦
                walked ∙ orders_in-here pair a (lowered bank number lots rest) of_pair
                ∙ ap (λ (os : List Resting). a.order ∷ os) later
                ∙ sym (lessened_later bank number lots a.order (orders_in pair rest) is_not)
                ∙ ap (lessened bank number lots) (sym (orders_in-here pair a rest of_pair))
            | inr other ↦
                walked ∙ orders_in-there pair a (lowered bank number lots rest) other
                ∙ later ∙ ap (lessened bank number lots) (sym (orders_in-there pair a rest other))
          ]
    ]

-- the orders that pass a test which the order's command passes, however much is left of it
pub filter-lessened : (test : Resting → Bool) (bank number lots : ℕ) (orders : List Resting) → Each (λ (o : Resting). is_order bank number o ≡ true → test o ≡ true) orders → ((o : Resting) (left : ℕ) → test (record o { left = left }) ≡ test o) → filter test (lessened bank number lots orders) ≡ lessened bank number lots (filter test orders)
filter-lessened test bank number lots [] passes same = refl
filter-lessened test bank number lots (o ∷ orders) passes same =
    let low : List Resting = lessened bank number lots (o ∷ orders) in
    elim (cases_Bool (is_order bank number o)) [
      | inl is ↦
          let kept : test o ≡ true = passes.0 is in
          ap (filter test) (lessened_here bank number lots o orders is)
          ∙ cond_both (ltb lots o.left) (record o { left = o.left - lots } ∷ filter test orders) (filter test orders)
          (λ (os : List Resting). filter test (cut lots o orders) ≡ os)
          (λ more. ap (filter test) (cond-true (ltb lots o.left) (record o { left = o.left - lots } ∷ orders) orders more)
          ∙ filter_cons_true test (record o { left = o.left - lots }) orders (same o (o.left - lots) ∙ kept))
          (λ gone. ap (filter test) (cond-false (ltb lots o.left) (record o { left = o.left - lots } ∷ orders) orders gone))
          ∙ sym (lessened_here bank number lots o (filter test orders) is)
          ∙ ap (lessened bank number lots) (sym (filter_cons_true test o orders kept))
      | inr is_not ↦
          let later : filter test (lessened bank number lots orders) ≡ lessened bank number lots (filter test orders) = filter-lessened test bank number lots orders passes.1 same in
          let walked : filter test low ≡ filter test (o ∷ lessened bank number lots orders) = ap (filter test) (lessened_later bank number lots o orders is_not) in
          elim (cases_Bool (test o)) [
            | inl kept ↦ walked ∙ filter_cons_true test o (lessened bank number lots orders) kept
                ∙ ap (λ (os : List Resting). o ∷ os) later
                ∙ sym (lessened_later bank number lots o (filter test orders) is_not)
                ∙ ap (lessened bank number lots) (sym (filter_cons_true test o orders kept))
            | inr dropped ↦ walked ∙ filter_cons_false test o (lessened bank number lots orders) dropped
                ∙ later ∙ ap (lessened bank number lots) (sym (filter_cons_false test o orders dropped))
          ]
    ]
