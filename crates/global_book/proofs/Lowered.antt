-- An order lowered in a book, in the words of what its store, its rows and its levels do.
use Rattle.std.proofs.Common.{ℕ, ◌≡◌, ◌-◌, ◌≤◌, ◌<◌, Bool, true, false, not, cond, ltb, List, [], ◌∷◌, inl, inr, refl, ap, sym, subst, ◌∙◌, map, Some}
use Rattle.std.proofs.lemmas.Bool.{cases_Bool, cond-true, cond-false, false_from_ne_true, not_from_false, not_from_true, lt-ltb, le-ltb}
use Rattle.std.specs.List.{filter}
use Rattle.fx_rules.specs.declared.orders.ActiveOrder.{ActiveOrder}
use Rattle.fx_rules.specs.declared.orders.Resting.{Resting}
use Rattle.fx_rules.specs.Lists.{Each, EachPair}
use Rattle.fx_rules.specs.Sweep.{is_order, lowered, with_left}
use Rattle.fx_rules.specs.Sound.{ArrivesBefore}
use Rattle.fx_rules.proofs.ListLemmas.{Each-weaker, filter_cons_true, filter_cons_false}
use Rattle.fx_rules.proofs.Lowering.{is_order-says}
use Rattle.global_book.specs.Book.{relotted, first}
use Rattle.global_book.specs.Lowered.{in_market, lowered_in}

-- the order with so many lots left
abbrev pub relot : Resting → ℕ → Resting
relot order left = record order { left = left }

from_market : (orders : List Resting) → map (λ (a : ActiveOrder). a.order) (in_market orders) ≡ orders
from_market [] = refl
from_market (o ∷ orders) = ap (λ (os : List Resting). o ∷ os) (from_market orders)

cut : (orders : List Resting) (o : Resting) (lots : ℕ) (b : Bool) → map (λ (a : ActiveOrder). a.order) (cond b (with_left (record { pair = 0; order = o }) (o.left - lots) ∷ in_market orders) (in_market orders)) ≡ cond b (relot o (o.left - lots) ∷ orders) orders
cut orders o lots true = ap (λ (os : List Resting). relot o (o.left - lots) ∷ os) (from_market orders)
cut orders o lots false = from_market orders

-- the first order of a book is the one that is lowered, or it is a later one
pub lowered-here : (bank number lots : ℕ) (o : Resting) (orders : List Resting) → is_order bank number o ≡ true → lowered_in bank number lots (o ∷ orders) ≡ cond (ltb lots o.left) (relot o (o.left - lots) ∷ orders) orders
lowered-here bank number lots o orders is =
    ap (map (λ (a : ActiveOrder). a.order))
    (cond-true (is_order bank number o) (cond (ltb lots o.left) (with_left (record { pair = 0; order = o }) (o.left - lots) ∷ in_market orders) (in_market orders))
    (record { pair = 0; order = o } ∷ lowered bank number lots (in_market orders)) is)
    ∙ cut orders o lots (ltb lots o.left)

pub lowered-later : (bank number lots : ℕ) (o : Resting) (orders : List Resting) → is_order bank number o ≡ false → lowered_in bank number lots (o ∷ orders) ≡ o ∷ lowered_in bank number lots orders
lowered-later bank number lots o orders is_not =
    ap (map (λ (a : ActiveOrder). a.order))
    (cond-false (is_order bank number o) (cond (ltb lots o.left) (with_left (record { pair = 0; order = o }) (o.left - lots) ∷ in_market orders) (in_market orders))
    (record { pair = 0; order = o } ∷ lowered bank number lots (in_market orders)) is_not)

pub lowered-more : (bank number lots : ℕ) (o : Resting) (orders : List Resting) → is_order bank number o ≡ true → lots < o.left → lowered_in bank number lots (o ∷ orders) ≡ relot o (o.left - lots) ∷ orders
lowered-more bank number lots o orders is more =
    lowered-here bank number lots o orders is ∙ cond-true (ltb lots o.left) (relot o (o.left - lots) ∷ orders) orders (lt-ltb lots o.left more)

pub lowered-gone : (bank number lots : ℕ) (o : Resting) (orders : List Resting) → is_order bank number o ≡ true → o.left ≤ lots → lowered_in bank number lots (o ∷ orders) ≡ orders
lowered-gone bank number lots o orders is gone =
    lowered-here bank number lots o orders is ∙ cond-false (ltb lots o.left) (relot o (o.left - lots) ∷ orders) orders (le-ltb lots o.left gone)

-- none of the orders is the one of this bank and number
abbrev pub NoneIs : ℕ → ℕ → List Resting → Type 0
NoneIs bank number orders = Each (λ order. is_order bank number order ≡ false) orders

pub lowered-none : (bank number lots : ℕ) (orders : List Resting) → NoneIs bank number orders → lowered_in bank number lots orders ≡ orders
lowered-none bank number lots [] none = refl
lowered-none bank number lots (o ∷ orders) none =
    lowered-later bank number lots o orders none.0 ∙ ap (λ (os : List Resting). o ∷ os) (lowered-none bank number lots orders none.1)

-- behind an order that is the one there is no other
pub none_later : (bank number : ℕ) (o : Resting) (orders : List Resting) → Each (ArrivesBefore o) orders → is_order bank number o ≡ true → NoneIs bank number orders
none_later bank number o orders before is =
    Each-weaker (ArrivesBefore o) (λ (p : Resting). is_order bank number p ≡ false)
    (λ p rises. false_from_ne_true (is_order bank number p) (λ too.
    let here = is_order-says bank number o is in
    let there = is_order-says bank number p too in
    rises.number (here.0 ∙ sym there.0) (here.1 ∙ sym there.1)))
    orders before

-- The list of the orders as a key's order is lowered or goes.

pub relotted-none : (bank number left : ℕ) (orders : List Resting) → NoneIs bank number orders → map (relotted bank number left) orders ≡ orders
relotted-none bank number left [] none = refl
relotted-none bank number left (o ∷ orders) none =
    ap (λ (p : Resting). p ∷ map (relotted bank number left) orders) (cond-false (is_order bank number o) (relot o left) o none.0)
    ∙ ap (λ (os : List Resting). o ∷ os) (relotted-none bank number left orders none.1)

pub removed-none : (bank number : ℕ) (orders : List Resting) → NoneIs bank number orders → filter (λ (o : Resting). not (is_order bank number o)) orders ≡ orders
removed-none bank number [] none = refl
removed-none bank number (o ∷ orders) none =
    filter_cons_true (λ (p : Resting). not (is_order bank number p)) o orders (not_from_false (is_order bank number o) none.0)
    ∙ ap (λ (os : List Resting). o ∷ os) (removed-none bank number orders none.1)

-- the order that is found has more lots left
pub relotted-lowered : (bank number lots left : ℕ) (orders rest : List Resting) (found : Resting) → EachPair ArrivesBefore orders → filter (λ (o : Resting). is_order bank number o) orders ≡ found ∷ rest → lots < found.left → left ≡ found.left - lots → map (relotted bank number left) orders ≡ lowered_in bank number lots orders
relotted-lowered bank number lots left [] rest found rising is more left_is = absurd (cc)
relotted-lowered bank number lots left (o ∷ orders) rest found rising is more left_is =
    elim (cases_Bool (is_order bank number o)) [
      | inl here ↦
          let same : o ∷ filter (λ (p : Resting). is_order bank number p) orders ≡ found ∷ rest = sym (filter_cons_true (λ (p : Resting). is_order bank number p) o orders here) ∙ is in
          let found_is : o ≡ found = cc in
          ap (λ (p : Resting). p ∷ map (relotted bank number left) orders) (cond-true (is_order bank number o) (relot o left) o here)
          ∙ ap (λ (os : List Resting). relot o left ∷ os) (relotted-none bank number left orders (none_later bank number o orders rising.0 here))
          ∙ ap (λ n. relot o n ∷ orders) (left_is ∙ ap (λ (p : Resting). p.left - lots) (sym found_is))
          ∙ sym (lowered-more bank number lots o orders here (subst (λ (p : Resting). lots < p.left) (sym found_is) more))
      | inr other ↦
          ap (λ (p : Resting). p ∷ map (relotted bank number left) orders) (cond-false (is_order bank number o) (relot o left) o other)
          ∙ ap (λ (os : List Resting). o ∷ os)
          (relotted-lowered bank number lots left orders rest found rising.1 (sym (filter_cons_false (λ (p : Resting). is_order bank number p) o orders other) ∙ is) more left_is)
          ∙ sym (lowered-later bank number lots o orders other)
    ]

-- the order that is found has no more lots left
pub removed-lowered : (bank number lots : ℕ) (orders rest : List Resting) (found : Resting) → EachPair ArrivesBefore orders → filter (λ (o : Resting). is_order bank number o) orders ≡ found ∷ rest → found.left ≤ lots → filter (λ (o : Resting). not (is_order bank number o)) orders ≡ lowered_in bank number lots orders
removed-lowered bank number lots [] rest found rising is gone = absurd (cc)
removed-lowered bank number lots (o ∷ orders) rest found rising is gone =
    elim (cases_Bool (is_order bank number o)) [
      | inl here ↦
          let same : o ∷ filter (λ (p : Resting). is_order bank number p) orders ≡ found ∷ rest = sym (filter_cons_true (λ (p : Resting). is_order bank number p) o orders here) ∙ is in
          let found_is : o ≡ found = cc in
          filter_cons_false (λ (p : Resting). not (is_order bank number p)) o orders (not_from_true (is_order bank number o) here)
          ∙ removed-none bank number orders (none_later bank number o orders rising.0 here)
          ∙ sym (lowered-gone bank number lots o orders here (subst (λ (p : Resting). p.left ≤ lots) (sym found_is) gone))
      | inr other ↦
          filter_cons_true (λ (p : Resting). not (is_order bank number p)) o orders (not_from_false (is_order bank number o) other)
          ∙ ap (λ (os : List Resting). o ∷ os)
          (removed-lowered bank number lots orders rest found rising.1 (sym (filter_cons_false (λ (p : Resting). is_order bank number p) o orders other) ∙ is) gone)
          ∙ sym (lowered-later bank number lots o orders other)
    ]

-- what a search by bank and number finds
pub first-some : (orders : List Resting) (found : Resting) → first orders ≡ Some found → (rest : List Resting) × (orders ≡ found ∷ rest)
first-some [] found is = absurd (cc)
first-some (o ∷ orders) found is = (orders, ap (λ (p : Resting). p ∷ orders) (let same : o ≡ found = cc in same))

-- none is found
pub none-lowered : (bank number lots : ℕ) (orders : List Resting) → filter (λ (o : Resting). is_order bank number o) orders ≡ [] → lowered_in bank number lots orders ≡ orders
none-lowered bank number lots [] none = refl
none-lowered bank number lots (o ∷ orders) none =
    elim (cases_Bool (is_order bank number o)) [
      | inl here ↦ absurd (let bad : o ∷ filter (λ (p : Resting). is_order bank number p) orders ≡ [] = sym (filter_cons_true (λ (p : Resting). is_order bank number p) o orders here) ∙ none in cc)
      | inr other ↦ lowered-later bank number lots o orders other
          ∙ ap (λ (os : List Resting). o ∷ os) (none-lowered bank number lots orders (sym (filter_cons_false (λ (p : Resting). is_order bank number p) o orders other) ∙ none))
    ]
