-- An order lowered in a book, and in the market.
use Rattle.std.proofs.Common.{ℕ, ◌≡◌, ◌-◌, Bool, true, false, cond, eqb, ltb, List, [], ◌∷◌, inl, inr, refl, ap, sym, subst, ◌∙◌, Some}
use Rattle.std.proofs.lemmas.Bool.{cases_Bool, cond-true, cond-false, false_from_ne_true}
use Rattle.std.specs.List.{filter}
use Rattle.fx_rules.specs.declared.orders.ActiveOrder.{ActiveOrder}
use Rattle.fx_rules.specs.declared.orders.Resting.{Resting}
use Rattle.fx_rules.specs.declared.orders.Fill.{Fill}
use Rattle.fx_rules.specs.Lists.{Among, Each, EachPair}
use Rattle.fx_rules.specs.State.{State, orders_in}
use Rattle.fx_rules.specs.Sweep.{is_order, lowered, with_left, filled, filled_all}
use Rattle.fx_rules.specs.Sound.{Rises}
use Rattle.fx_rules.proofs.ListLemmas.{Among-filter}
use Rattle.fx_rules.proofs.Lowering.{rising-lowered, is_order-says}
use Rattle.fx_rules.proofs.Planning.{orders_in-here, orders_in-there}
use Rattle.global_book.specs.Book.{first}
use Rattle.global_book.specs.Lowered.{lowered_in}
use Rattle.global_book.proofs.Lowered.{relot, NoneIs, lowered-here, lowered-later, lowered-none, first-some}
use Rattle.match_sweep.specs.Carries.{filled_in, carried}

-- what a search by bank and number finds is among the orders
pub found-among : (bank number : ℕ) (orders : List Resting) (found : Resting) → first (filter (λ (o : Resting). is_order bank number o) orders) ≡ Some found → Among found orders × (is_order bank number found ≡ true)
found-among bank number orders found is =
    let split = first-some (filter (λ (o : Resting). is_order bank number o) orders) found is in
    Among-filter (λ (o : Resting). is_order bank number o) orders found
    (subst (Among found) (sym split.1) (inl refl))

-- The market.

none_in : (bank number pair : ℕ) (a : ActiveOrder) (orders : List ActiveOrder) → Each (Rises a) orders → is_order bank number a.order ≡ true → NoneIs bank number (orders_in pair orders)
none_in bank number pair a [] before is = tt
none_in bank number pair a (b ∷ orders) before is =
    let other : is_order bank number b.order ≡ false = false_from_ne_true (is_order bank number b.order) (λ too.
    let here = is_order-says bank number a.order is in
    let there = is_order-says bank number b.order too in
    before.0.number (here.0 ∙ sym there.0) (here.1 ∙ sym there.1)) in
    let later : NoneIs bank number (orders_in pair orders) = none_in bank number pair a orders before.1 is in
    elim (cases_Bool (eqb b.pair pair)) [
      | inl of_pair ↦ subst (NoneIs bank number) (sym (orders_in-here pair b orders of_pair)) (other, later)
      | inr not_of ↦ subst (NoneIs bank number) (sym (orders_in-there pair b orders not_of)) later
    ]

cut-here : (pair : ℕ) (a : ActiveOrder) (lots : ℕ) (orders : List ActiveOrder) → eqb a.pair pair ≡ true → (b : Bool) → orders_in pair (cond b (with_left a (a.order.left - lots) ∷ orders) orders) ≡ cond b (relot a.order (a.order.left - lots) ∷ orders_in pair orders) (orders_in pair orders)
cut-here pair a lots orders is true = orders_in-here pair (with_left a (a.order.left - lots)) orders is
cut-here pair a lots orders is false = refl

cut-there : (pair : ℕ) (a : ActiveOrder) (lots : ℕ) (orders : List ActiveOrder) → eqb a.pair pair ≡ false → (b : Bool) → orders_in pair (cond b (with_left a (a.order.left - lots) ∷ orders) orders) ≡ orders_in pair orders
cut-there pair a lots orders is_not true = orders_in-there pair (with_left a (a.order.left - lots)) orders is_not
cut-there pair a lots orders is_not false = refl

-- an order of the market is lowered in its pair's book, and leaves every other book
pub orders_in-lowered : (pair bank number lots : ℕ) (orders : List ActiveOrder) → EachPair Rises orders → orders_in pair (lowered bank number lots orders) ≡ lowered_in bank number lots (orders_in pair orders)
orders_in-lowered pair bank number lots [] rising = refl
orders_in-lowered pair bank number lots (a ∷ orders) rising =
    let kept : List ActiveOrder = cond (ltb lots a.order.left) (with_left a (a.order.left - lots) ∷ orders) orders in
    elim (cases_Bool (is_order bank number a.order)) [
      | inl is ↦
          ap (orders_in pair) (cond-true (is_order bank number a.order) kept (a ∷ lowered bank number lots orders) is)
          ∙ elim (cases_Bool (eqb a.pair pair)) [
            | inl of_pair ↦
                cut-here pair a lots orders of_pair (ltb lots a.order.left)
                ∙ sym (lowered-here bank number lots a.order (orders_in pair orders) is)
                ∙ ap (lowered_in bank number lots) (sym (orders_in-here pair a orders of_pair))
            | inr not_of ↦
                cut-there pair a lots orders not_of (ltb lots a.order.left)
                ∙ sym (lowered-none bank number lots (orders_in pair orders) (none_in bank number pair a orders rising.0 is))
                ∙ ap (lowered_in bank number lots) (sym (orders_in-there pair a orders not_of))
          ]
      | inr is_not ↦
          ap (orders_in pair) (cond-false (is_order bank number a.order) kept (a ∷ lowered bank number lots orders) is_not)
          ∙ elim (cases_Bool (eqb a.pair pair)) [
            | inl of_pair ↦
                orders_in-here pair a (lowered bank number lots orders) of_pair
                ∙ ap (λ (os : List Resting). a.order ∷ os) (orders_in-lowered pair bank number lots orders rising.1)
                ∙ sym (lowered-later bank number lots a.order (orders_in pair orders) is_not)
                ∙ ap (lowered_in bank number lots) (sym (orders_in-here pair a orders of_pair))
            | inr not_of ↦
                orders_in-there pair a (lowered bank number lots orders) not_of
                ∙ orders_in-lowered pair bank number lots orders rising.1
                ∙ ap (lowered_in bank number lots) (sym (orders_in-there pair a orders not_of))
          ]
    ]

pub rising-filled : (S : State) (f : Fill) → EachPair Rises S.orders → EachPair Rises (filled S f).orders
rising-filled S f rising =
    rising-lowered f.taker f.taker_number f.lots (lowered f.maker f.maker_number f.lots S.orders) (rising-lowered f.maker f.maker_number f.lots S.orders rising)

-- a fill in the market is one in its book
pub orders_in-filled : (pair : ℕ) (S : State) (f : Fill) → EachPair Rises S.orders → orders_in pair (filled S f).orders ≡ filled_in (orders_in pair S.orders) f
orders_in-filled pair S f rising =
    orders_in-lowered pair f.taker f.taker_number f.lots (lowered f.maker f.maker_number f.lots S.orders) (rising-lowered f.maker f.maker_number f.lots S.orders rising)
    ∙ ap (lowered_in f.taker f.taker_number f.lots) (orders_in-lowered pair f.maker f.maker_number f.lots S.orders rising)

-- and so are fills in order
pub carried-market : (pair : ℕ) (S : State) (fills : List Fill) → EachPair Rises S.orders → carried (orders_in pair S.orders) fills ≡ orders_in pair (filled_all S fills).orders
carried-market pair S [] rising = refl
carried-market pair S (f ∷ fills) rising =
    ap (λ (os : List Resting). carried os fills) (sym (orders_in-filled pair S f rising)) ∙ carried-market pair (filled S f) fills (rising-filled S f rising)
