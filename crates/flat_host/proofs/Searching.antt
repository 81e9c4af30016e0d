-- The best so far, after one more order.
use Rattle.std.proofs.Common.{ℕ, ◌≡◌, ◌+◌, ◌<◌, Bool, true, false, ◌&&◌, List, [], ◌∷◌, ◌++◌, inl, inr, refl, ap, sym, subst, ◌∙◌, length, get_or, take, map, Option, Some, None}
use Rattle.std.proofs.lemmas.List.{take_more, map-append, append-nil}
use Rattle.std.proofs.lemmas.List.Elements.{filter-append}
use Rattle.std.proofs.lemmas.Bool.{cases_Bool, cond-true, cond-false, false_from_ne_true, both_ways, and_from, and_left, and_right}
use Rattle.std.specs.List.{filter}
use Rattle.fx_amounts.specs.declared.side.Side.{Side}
use Rattle.fx_rules.specs.declared.orders.ActiveOrder.{ActiveOrder}
use Rattle.fx_rules.specs.declared.orders.Resting.{Resting}
use Rattle.fx_rules.specs.Lists.{Among, Each}
use Rattle.fx_rules.specs.Sweep.{is_preferred, IsBest}
use Rattle.fx_rules.proofs.ListLemmas.{Each-append, Each-weaker, filter_cons_true, filter_cons_false}
use Rattle.fx_rules.proofs.Preference.{preferred_self, preferred_trans}
use Rattle.flat_host.specs.inside.Search.{preferred_of, IsBestOf}

-- the orders that pass a test
abbrev pub chosen : (ActiveOrder → Bool) → List ActiveOrder → List Resting
chosen test orders = map (λ (a : ActiveOrder). a.order) (filter test orders)

pub chosen-yes : (test : ActiveOrder → Bool) (orders : List ActiveOrder) (i : ℕ) (a : ActiveOrder) → i < length orders → a ≡ get_or orders i a → test a ≡ true → chosen test (take (i + 1) orders) ≡ chosen test (take i orders) ++ a.order ∷ []
chosen-yes test orders i a within is passes =
    ap (chosen test) (take_more orders i a within ∙ ap (λ (b : ActiveOrder). take i orders ++ b ∷ []) (sym is))
    ∙ ap (map (λ (b : ActiveOrder). b.order)) (filter-append test (take i orders) (a ∷ []) ∙ ap (λ (rest : List ActiveOrder). filter test (take i orders) ++ rest) (filter_cons_true test a [] passes))
    ∙ map-append (λ (b : ActiveOrder). b.order) (filter test (take i orders)) (a ∷ [])

pub chosen-no : (test : ActiveOrder → Bool) (orders : List ActiveOrder) (i : ℕ) (a : ActiveOrder) → i < length orders → a ≡ get_or orders i a → test a ≡ false → chosen test (take (i + 1) orders) ≡ chosen test (take i orders)
chosen-no test orders i a within is fails =
    ap (chosen test) (take_more orders i a within ∙ ap (λ (b : ActiveOrder). take i orders ++ b ∷ []) (sym is))
    ∙ ap (map (λ (b : ActiveOrder). b.order)) (filter-append test (take i orders) (a ∷ []) ∙ ap (λ (rest : List ActiveOrder). filter test (take i orders) ++ rest) (filter_cons_false test a [] fails))
    ∙ map-append (λ (b : ActiveOrder). b.order) (filter test (take i orders)) []
    ∙ append-nil (chosen test (take i orders))

among_last : (orders : List Resting) (o : Resting) → Among o (orders ++ o ∷ [])
among_last [] o = inl refl
among_last (x ∷ orders) o = inr (among_last orders o)

among_more : (orders : List Resting) (o next : Resting) → Among o orders → Among o (orders ++ next ∷ [])
among_more [] o next there = absurd there
among_more (x ∷ orders) o next (inl is) = inl is
among_more (x ∷ orders) o next (inr there) = inr (among_more orders o next there)

next_best : (side : Side) (orders : List Resting) (best next : Resting) → IsBest side orders best → is_preferred side next best ≡ true → IsBest side (orders ++ next ∷ []) next
next_best side orders best next is better = record {
  there = among_last orders next;
  first = Each-append (λ other. is_preferred side other next ≡ false) orders (next ∷ [])
      (Each-weaker (λ other. is_preferred side other best ≡ false) (λ other. is_preferred side other next ≡ false)
      (λ other not_best. false_from_ne_true (is_preferred side other next) (λ too.
      both_ways (is_preferred side other best) not_best (preferred_trans side other next best too better)))
      orders is.first)
      (false_from_ne_true (is_preferred side next next) (preferred_self side next), tt);
}

still_best : (side : Side) (orders : List Resting) (best next : Resting) → IsBest side orders best → is_preferred side next best ≡ false → IsBest side (orders ++ next ∷ []) best
still_best side orders best next is worse = record {
  there = among_more orders best next is.there;
  first = Each-append (λ other. is_preferred side other best ≡ false) orders (next ∷ []) is.first (worse, tt);
}

best_push : (side : Side) (orders : List Resting) (best : Option Resting) (next : Resting) → IsBestOf side orders best → IsBest side (orders ++ next ∷ []) (preferred_of side best next)
best_push side orders None next none = record {
  there = among_last orders next;
  first = subst (λ (os : List Resting). Each (λ other. is_preferred side other next ≡ false) (os ++ next ∷ [])) (sym none)
      (false_from_ne_true (is_preferred side next next) (preferred_self side next), tt);
}
best_push side orders (Some best) next is =
    elim (cases_Bool (is_preferred side next best)) [
      | inl better ↦ subst (IsBest side (orders ++ next ∷ [])) (sym (cond-true (is_preferred side next best) next best better)) (next_best side orders best next is better)
      | inr worse ↦ subst (IsBest side (orders ++ next ∷ [])) (sym (cond-false (is_preferred side next best) next best worse)) (still_best side orders best next is worse)
    ]

pub best-yes : (side : Side) (test : ActiveOrder → Bool) (orders : List ActiveOrder) (i : ℕ) (a : ActiveOrder) (best : Option Resting) → i < length orders → a ≡ get_or orders i a → test a ≡ true → IsBestOf side (chosen test (take i orders)) best → IsBestOf side (chosen test (take (i + 1) orders)) (Some (preferred_of side best a.order))
best-yes side test orders i a best within is passes so_far =
    subst (λ os. IsBest side os (preferred_of side best a.order)) (sym (chosen-yes test orders i a within is passes))
    (best_push side (chosen test (take i orders)) best a.order so_far)

pub best-no : (side : Side) (test : ActiveOrder → Bool) (orders : List ActiveOrder) (i : ℕ) (a : ActiveOrder) (best : Option Resting) → i < length orders → a ≡ get_or orders i a → test a ≡ false → IsBestOf side (chosen test (take i orders)) best → IsBestOf side (chosen test (take (i + 1) orders)) best
best-no side test orders i a best within is fails so_far =
    subst (λ os. IsBestOf side os best) (sym (chosen-no test orders i a within is fails)) so_far

-- two tests, one after the other
pub chosen-both : (here : ActiveOrder → Bool) (test : Resting → Bool) (orders : List ActiveOrder) → chosen (λ (a : ActiveOrder). here a && test a.order) orders ≡ filter test (map (λ (a : ActiveOrder). a.order) (filter here orders))
chosen-both here test [] = refl
chosen-both here test (a ∷ orders) =
    let both : ActiveOrder → Bool = λ (b : ActiveOrder). here b && test b.order in
    let order : ActiveOrder → Resting = λ (b : ActiveOrder). b.order in
    let rest : map order (filter both orders) ≡ filter test (map order (filter here orders)) = chosen-both here test orders in
    elim (cases_Bool (here a)) [
      | inl is ↦ elim (cases_Bool (test a.order)) [
        | inl passes ↦ ap (map order) (filter_cons_true both a orders (and_from (here a) (test a.order) is passes)) ∙ ap (λ (os : List Resting). a.order ∷ os) rest
            ∙ sym (filter_cons_true test a.order (map order (filter here orders)) passes)
            ∙ sym (ap (λ (kept : List ActiveOrder). filter test (map order kept)) (filter_cons_true here a orders is))
        | inr fails ↦ ap (map order) (filter_cons_false both a orders (and_right (here a) (test a.order) fails)) ∙ rest
            ∙ sym (filter_cons_false test a.order (map order (filter here orders)) fails)
            ∙ sym (ap (λ (kept : List ActiveOrder). filter test (map order kept)) (filter_cons_true here a orders is))
      ]
      | inr is_not ↦ ap (map order) (filter_cons_false both a orders (and_left (here a) (test a.order) is_not)) ∙ rest
          ∙ sym (ap (λ (kept : List ActiveOrder). filter test (map order kept)) (filter_cons_false here a orders is_not))
    ]
