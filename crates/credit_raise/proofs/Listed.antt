-- A list of orders that wait: the best of some, and one with lots less.
use Rattle.std.proofs.Common.{ℕ, zero, suc, ◌≡◌, ◌-◌, ◌≤◌, ◌<◌, ltb, true, false, List, [], ◌∷◌, ◌++◌, Option, Some, None, inl, inr, refl, ap, sym, subst, ◌∙◌, arith, length, get_or, ◌+◌, take, append-nil}
use Rattle.std.proofs.Math.ListN.{set}
use Rattle.std.proofs.lemmas.Bool.{cases_Bool, cond_both, cond-true, cond-false, both_ways, false_from_ne_true, lt-ltb, le-ltb}
use Rattle.std.proofs.lemmas.List.{take_more}
use Rattle.std.proofs.lemmas.List.Elements.{filter-append}
use Rattle.std.specs.List.{remove}
use Rattle.fx_amounts.specs.Side.{opposite}
use Rattle.fx_amounts.specs.declared.side.Side.{Side}
use Rattle.fx_rules.specs.declared.orders.Resting.{Resting}
use Rattle.fx_rules.specs.Sweep.{is_order, is_preferred, IsBest}
use Rattle.fx_rules.proofs.ListLemmas.{Each-append, Each-weaker, filter_cons_true, filter_cons_false}
use Rattle.fx_rules.proofs.Preference.{preferred_self, preferred_trans}
use Rattle.global_book.specs.Behind.{is_owned_behind, owned_behind}
use Rattle.global_book.specs.Lowered.{lowered_in}
use Rattle.global_book.proofs.Lowered.{lowered-here, lowered-later, relot}
use Rattle.credit_raise.specs.inside.Playing.{IsBestOf, lessened}
use Rattle.credit_raise.specs.inside.Waiting.{StandsAt, better_of}
use Rattle.credit_raise.proofs.Lessening.{lessened_here, lessened_later}
use Rattle.credit_raise.proofs.Meeting.{among_front, among_middle}

-- a book takes lots from an order as a list does
pub lowered_lessened : (bank number lots : ℕ) (orders : List Resting) → lowered_in bank number lots orders ≡ lessened bank number lots orders
lowered_lessened bank number lots [] = refl
lowered_lessened bank number lots (o ∷ orders) =
    elim (cases_Bool (is_order bank number o)) [
      | inl is ↦ lowered-here bank number lots o orders is ∙ sym (lessened_here bank number lots o orders is)
      | inr other ↦
          lowered-later bank number lots o orders other
          ∙ ap (λ (os : List Resting). o ∷ os) (lowered_lessened bank number lots orders)
          ∙ sym (lessened_later bank number lots o orders other)
    ]

-- ---- the best so far, and an order more

best_alone : (taker : Side) (order : Resting) → IsBest taker (order ∷ []) order
best_alone taker order = record { there = inl refl; first = (false_from_ne_true (is_preferred taker order order) (preferred_self taker order), tt) }

pub best-push : (taker : Side) (orders : List Resting) (best : Option Resting) (order : Resting) → IsBestOf taker orders best → IsBest taker (orders ++ order ∷ []) (better_of taker best order)
best-push taker orders None order none = subst (λ (os : List Resting). IsBest taker (os ++ order ∷ []) order) (sym none) (best_alone taker order)
best-push taker orders (Some best) order is =
    cond_both (is_preferred taker order best) order best (λ (o : Resting). IsBest taker (orders ++ order ∷ []) o)
    (λ above. record {
      there = among_middle orders order [];
      first = Each-append (λ (o : Resting). is_preferred taker o order ≡ false) orders (order ∷ [])
          (Each-weaker (λ (o : Resting). is_preferred taker o best ≡ false) (λ (o : Resting). is_preferred taker o order ≡ false)
          (λ o below. false_from_ne_true (is_preferred taker o order) (λ better. both_ways (is_preferred taker o best) below (preferred_trans taker o order best better above)))
          orders is.first)
          (best_alone taker order).first;
    })
    (λ below. record {
      there = among_front orders (order ∷ []) best is.there;
      first = Each-append (λ (o : Resting). is_preferred taker o best ≡ false) orders (order ∷ []) is.first (below, tt);
    })

-- the orders of a list that were passed, and the next one
passed : (side : Side) (bank before : ℕ) (orders : List Resting) (at : ℕ) (order : Resting) → at < length orders → order ≡ get_or orders at order
    → owned_behind side bank before None (take (at + 1) orders) ≡ owned_behind side bank before None (take at orders) ++ owned_behind side bank before None (order ∷ [])
passed side bank before orders at order within is =
    ap (owned_behind side bank before None) (take_more orders at order within ∙ ap (λ (o : Resting). take at orders ++ o ∷ []) (sym is))
    ∙ filter-append (is_owned_behind (opposite side) bank before None) (take at orders) (order ∷ [])

pub best-with : (side : Side) (bank before : ℕ) (orders : List Resting) (at : ℕ) (order : Resting) (best : Option Resting) → at < length orders → order ≡ get_or orders at order
    → IsBestOf (opposite side) (owned_behind side bank before None (take at orders)) best → is_owned_behind (opposite side) bank before None order ≡ true
    → IsBest (opposite side) (owned_behind side bank before None (take (at + 1) orders)) (better_of (opposite side) best order)
best-with side bank before orders at order best within is so_far own =
    subst (λ (os : List Resting). IsBest (opposite side) os (better_of (opposite side) best order))
    (sym (passed side bank before orders at order within is
    ∙ ap (λ (os : List Resting). owned_behind side bank before None (take at orders) ++ os) (filter_cons_true (is_owned_behind (opposite side) bank before None) order [] own)))
    (best-push (opposite side) (owned_behind side bank before None (take at orders)) best order so_far)

pub best-without : (side : Side) (bank before : ℕ) (orders : List Resting) (at : ℕ) (order : Resting) (best : Option Resting) → at < length orders → order ≡ get_or orders at order
    → IsBestOf (opposite side) (owned_behind side bank before None (take at orders)) best → is_owned_behind (opposite side) bank before None order ≡ false
    → IsBestOf (opposite side) (owned_behind side bank before None (take (at + 1) orders)) best
best-without side bank before orders at order best within is so_far other =
    subst (λ (os : List Resting). IsBestOf (opposite side) os best)
    (sym (passed side bank before orders at order within is
    ∙ ap (λ (os : List Resting). owned_behind side bank before None (take at orders) ++ os) (filter_cons_false (is_owned_behind (opposite side) bank before None) order [] other)
    ∙ append-nil (owned_behind side bank before None (take at orders))))
    so_far

-- ---- one with lots less

tail_at : (bank number : ℕ) (b : Resting) (rest : List Resting) (i : ℕ) (a : Resting) → StandsAt bank number (b ∷ rest) (suc i) a → StandsAt bank number rest i a
tail_at bank number b rest i a at' = record {
  within = omega (arith, at'.within);
  is = at'.is;
  first = λ k below. at'.first (suc k) (omega (arith, below));
}

less_at : (bank number lots : ℕ) (orders : List Resting) (i : ℕ) (a : Resting) → StandsAt bank number orders i a → lots < (get_or orders i a).left → lessened bank number lots orders ≡ set orders i (relot (get_or orders i a) ((get_or orders i a).left - lots))
less_at bank number lots [] i a at' more = absurd (omega (arith, at'.within))
less_at bank number lots (b ∷ rest) zero a at' more =
    lessened_here bank number lots b rest at'.is
    ∙ cond-true (ltb lots b.left) (relot b (b.left - lots) ∷ rest) rest (lt-ltb lots b.left more)
less_at bank number lots (b ∷ rest) (suc i) a at' more =
    lessened_later bank number lots b rest (at'.first 0 (omega arith))
    ∙ ap (λ (os : List Resting). b ∷ os) (less_at bank number lots rest i a (tail_at bank number b rest i a at') more)

gone_at : (bank number lots : ℕ) (orders : List Resting) (i : ℕ) (a : Resting) → StandsAt bank number orders i a → (get_or orders i a).left ≤ lots → lessened bank number lots orders ≡ remove orders i
gone_at bank number lots [] i a at' gone = absurd (omega (arith, at'.within))
gone_at bank number lots (b ∷ rest) zero a at' gone =
    lessened_here bank number lots b rest at'.is
    ∙ cond-false (ltb lots b.left) (relot b (b.left - lots) ∷ rest) rest (le-ltb lots b.left gone)
gone_at bank number lots (b ∷ rest) (suc i) a at' gone =
    lessened_later bank number lots b rest (at'.first 0 (omega arith))
    ∙ ap (λ (os : List Resting). b ∷ os) (gone_at bank number lots rest i a (tail_at bank number b rest i a at') gone)

pub lessened-none : (bank number lots : ℕ) (orders : List Resting) → ((k : ℕ) (d : Resting) → k < length orders → is_order bank number (get_or orders k d) ≡ false) → lessened bank number lots orders ≡ orders
lessened-none bank number lots [] none = refl
lessened-none bank number lots (b ∷ rest) none =
    lessened_later bank number lots b rest (none 0 b (omega arith))
    ∙ ap (λ (os : List Resting). b ∷ os) (lessened-none bank number lots rest (λ k d below. none (suc k) d (omega (arith, below))))

-- the same of the order that was read there
pub lessened-set : (bank number lots : ℕ) (orders : List Resting) (i left : ℕ) (x : Resting) → x ≡ get_or orders i x → StandsAt bank number orders i x → left ≡ x.left - lots → 1 ≤ left → set orders i (relot x left) ≡ lessened bank number lots orders
lessened-set bank number lots orders i left x read at' left_is some =
    ap (λ (n : ℕ). set orders i (relot x n)) left_is
    ∙ ap (λ (y : Resting). set orders i (relot y (y.left - lots))) read
    ∙ sym (less_at bank number lots orders i x at' (subst (λ (y : Resting). lots < y.left) read (omega arith)))

pub lessened-removed : (bank number lots : ℕ) (orders : List Resting) (i : ℕ) (x : Resting) → x ≡ get_or orders i x → StandsAt bank number orders i x → x.left ≤ lots → remove orders i ≡ lessened bank number lots orders
lessened-removed bank number lots orders i x read at' gone =
    sym (gone_at bank number lots orders i x at' (subst (λ (y : Resting). y.left ≤ lots) read gone))
