-- The orders of a list, by arrival, and the places where they stand.
use Rattle.std.proofs.Common.{ℕ, zero, suc, ◌≡◌, ◌<◌, true, false, cond, not, Bool, List, [], ◌∷◌, ◌++◌, Option, Some, None, length, map, get_or, count_by, is_some, inl, inr, refl, ap, sym, ◌∙◌, arith}
use Rattle.std.proofs.Math.ListN.{set}
use Rattle.std.proofs.lemmas.Bool.{cond-false, cond-true, false_from_ne_true, not_from_false, not_from_true}
use Rattle.std.proofs.lemmas.List.Sums.{sum_by-cons}
use Rattle.std.specs.List.{filter}
use Rattle.fx_amounts.specs.Side.{opposite}
use Rattle.fx_amounts.specs.declared.side.Side.{Side}
use Rattle.fx_rules.specs.declared.orders.Resting.{Resting}
use Rattle.fx_rules.specs.Lists.{Among, Each, EachPair}
use Rattle.fx_rules.specs.Sound.{ArrivesBefore}
use Rattle.fx_rules.specs.Sweep.{IsBest, is_order, is_preferred}
use Rattle.fx_rules.proofs.ListLemmas.{Among-filter, Each-of, among_filter, filter_cons_false, filter_cons_true}
use Rattle.fx_rules.proofs.Lowering.{is_order-says}
use Rattle.order_store.specs.Linked.{AreRising}
use Rattle.global_book.specs.Book.{first, relotted}
use Rattle.global_book.specs.inside.Bests.{IsBestAt}
use Rattle.global_book.specs.inside.Ends.{orders_of}
use Rattle.global_book.proofs.Lowered.{NoneIs, relot, relotted-none, removed-none}

no_order : (order : Resting) → None ≡ Some order → ⊥
no_order order is = cc

same_order : (a b : Resting) → Some a ≡ Some b → a ≡ b
same_order a b is = cc

pub among-at : (slots : List (Option Resting)) (place : ℕ) (order : Resting) → get_or slots place None ≡ Some order → Among order (orders_of slots)
among-at [] place order is = absurd (no_order order is)
among-at (None ∷ slots) zero order is = absurd (no_order order is)
among-at (None ∷ slots) (suc place) order is = among-at slots place order is
among-at (Some one ∷ slots) zero order is = inl (sym (same_order one order is))
among-at (Some one ∷ slots) (suc place) order is = inr (among-at slots place order is)

pub at-among : (slots : List (Option Resting)) (order : Resting) → Among order (orders_of slots) → (place : ℕ) × (get_or slots place None ≡ Some order)
at-among [] order there = absurd there
at-among (None ∷ slots) order there = let at = at-among slots order there in (suc at.0, at.1)
at-among (Some one ∷ slots) order there =
    elim there [
      | inl same ↦ (0, ap (λ (o : Resting). Some o) (sym same))
      | inr later ↦ let at = at-among slots order later in (suc at.0, at.1)
    ]

-- what holds of the order at each place holds of each order
pub each-at : (P : Resting → Type 0) (slots : List (Option Resting)) → ((place : ℕ) (order : Resting) → get_or slots place None ≡ Some order → P order) → Each P (orders_of slots)
each-at P slots holds = Each-of P (orders_of slots) (λ order there. let at = at-among slots order there in holds at.0 order at.1)

pub orders-pushed : (slots : List (Option Resting)) (order : Resting) → orders_of (slots ++ Some order ∷ []) ≡ orders_of slots ++ order ∷ []
orders-pushed [] order = refl
orders-pushed (None ∷ slots) order = orders-pushed slots order
orders-pushed (Some one ∷ slots) order = ap (λ (os : List Resting). one ∷ os) (orders-pushed slots order)

pub orders-counted : (slots : List (Option Resting)) → count_by is_some slots ≡ length (orders_of slots)
orders-counted [] = refl
orders-counted (None ∷ slots) = omega (arith, orders-counted slots, sum_by-cons (λ (o : Option Resting). cond (is_some o) 1 0) None slots)
orders-counted (Some one ∷ slots) = omega (arith, orders-counted slots, sum_by-cons (λ (o : Option Resting). cond (is_some o) 1 0) (Some one) slots)

-- no two orders are of one bank and number
abbrev pub AreUnique : List (Option Resting) → Type 0
AreUnique slots = (place other : ℕ) (order same : Resting) → get_or slots place None ≡ Some order → get_or slots other None ≡ Some same → order.bank ≡ same.bank → order.number ≡ same.number → place ≡ other

unique-rest : (slot : Option Resting) (slots : List (Option Resting)) → AreUnique (slot ∷ slots) → AreUnique slots
unique-rest slot slots unique place other order same is is' bank number = let it = unique (suc place) (suc other) order same is is' bank number in omega (arith, it)

pub orders-rising : (slots : List (Option Resting)) → AreRising (λ at. get_or slots at None) → AreUnique slots → EachPair ArrivesBefore (orders_of slots)
orders-rising [] rising unique = tt
orders-rising (None ∷ slots) rising unique = orders-rising slots (λ place other order later is is' before. rising (suc place) (suc other) order later is is' (omega (arith, before))) (unique-rest None slots unique)
orders-rising (Some one ∷ slots) rising unique = (
  each-at (ArrivesBefore one) slots (λ place order is. record {
    arrival = rising 0 (suc place) one order refl is (omega arith);
    number = λ bank number. let it = unique 0 (suc place) one order refl is bank number in omega (arith, it);
  }),
  orders-rising slots (λ place other order later is is' before. rising (suc place) (suc other) order later is is' (omega (arith, before))) (unique-rest (Some one) slots unique),
)

-- The first order that passes.
pub first-at : (test : Resting → Bool) (slots : List (Option Resting)) (place : ℕ) (order : Resting) → get_or slots place None ≡ Some order → test order ≡ true
    → ((other : ℕ) (one : Resting) → other < place → get_or slots other None ≡ Some one → test one ≡ false) → first (filter test (orders_of slots)) ≡ Some order
first-at test [] place order is passes before = absurd (no_order order is)
first-at test (None ∷ slots) zero order is passes before = absurd (no_order order is)
first-at test (None ∷ slots) (suc place) order is passes before = first-at test slots place order is passes (λ other one less at. before (suc other) one (omega (arith, less)) at)
first-at test (Some one ∷ slots) zero order is passes before =
    let same : one ≡ order = same_order one order is in
    ap first (filter_cons_true test one (orders_of slots) (ap test same ∙ passes)) ∙ ap (λ (o : Resting). Some o) same
first-at test (Some one ∷ slots) (suc place) order is passes before =
    ap first (filter_cons_false test one (orders_of slots) (before 0 one (omega arith) refl))
    ∙ first-at test slots place order is passes (λ other o less at. before (suc other) o (omega (arith, less)) at)

pub none-at : (test : Resting → Bool) (slots : List (Option Resting)) → ((place : ℕ) (order : Resting) → get_or slots place None ≡ Some order → test order ≡ false) → filter test (orders_of slots) ≡ []
none-at test [] none = refl
none-at test (None ∷ slots) none = none-at test slots (λ place order is. none (suc place) order is)
none-at test (Some one ∷ slots) none = filter_cons_false test one (orders_of slots) (none 0 one refl) ∙ none-at test slots (λ place order is. none (suc place) order is)

-- The best order that passes.
pub best-listed : (slots : List (Option Resting)) (passes : Resting → Bool) (side : Side) (place : ℕ) (best : IsBestAt slots passes side place) → IsBest (opposite side) (filter passes (orders_of slots)) best.order
best-listed slots passes side place best = record {
  there = among_filter passes (orders_of slots) best.order (among-at slots place best.order best.is) best.passes_it;
  first = Each-of (λ other. is_preferred (opposite side) other best.order ≡ false) (filter passes (orders_of slots)) (λ other there.
      let it = Among-filter passes (orders_of slots) other there in
      let at = at-among slots other it.0 in
      best.best at.0 other at.1 it.1);
}

-- The order of a bank and a number goes, or has other lots left.
none-else : (slots : List (Option Resting)) (order : Resting) (bank number : ℕ) → AreUnique (Some order ∷ slots) → is_order bank number order ≡ true → NoneIs bank number (orders_of slots)
none-else slots order bank number unique is =
    each-at (λ one. is_order bank number one ≡ false) slots (λ place one at. false_from_ne_true (is_order bank number one) (λ too.
    let here = is_order-says bank number order is in
    let there = is_order-says bank number one too in
    let it = unique 0 (suc place) order one refl at (here.0 ∙ sym there.0) (here.1 ∙ sym there.1) in
    omega (arith, it)))

another : (slots : List (Option Resting)) (one order : Resting) (place bank number : ℕ) → AreUnique (Some one ∷ slots) → get_or slots place None ≡ Some order → is_order bank number order ≡ true → is_order bank number one ≡ false
another slots one order place bank number unique at is = false_from_ne_true (is_order bank number one) (λ too.
    let here = is_order-says bank number order is in
    let there = is_order-says bank number one too in
    let it = unique 0 (suc place) one order refl at (there.0 ∙ sym here.0) (there.1 ∙ sym here.1) in
    omega (arith, it))

pub orders-removed : (slots : List (Option Resting)) (place : ℕ) (order : Resting) (bank number : ℕ) → AreUnique slots → get_or slots place None ≡ Some order → is_order bank number order ≡ true
    → orders_of (set slots place None) ≡ filter (λ (o : Resting). not (is_order bank number o)) (orders_of slots)
orders-removed [] place order bank number unique at is = absurd (no_order order at)
orders-removed (None ∷ slots) zero order bank number unique at is = absurd (no_order order at)
orders-removed (None ∷ slots) (suc place) order bank number unique at is = orders-removed slots place order bank number (unique-rest None slots unique) at is
orders-removed (Some one ∷ slots) zero order bank number unique at is =
    let here : is_order bank number one ≡ true = ap (is_order bank number) (same_order one order at) ∙ is in
    sym (filter_cons_false (λ (o : Resting). not (is_order bank number o)) one (orders_of slots) (not_from_true (is_order bank number one) here)
    ∙ removed-none bank number (orders_of slots) (none-else slots one bank number unique here))
orders-removed (Some one ∷ slots) (suc place) order bank number unique at is =
    ap (λ (os : List Resting). one ∷ os) (orders-removed slots place order bank number (unique-rest (Some one) slots unique) at is)
    ∙ sym (filter_cons_true (λ (o : Resting). not (is_order bank number o)) one (orders_of slots) (not_from_false (is_order bank number one) (another slots one order place bank number unique at is)))

pub orders-lowered : (slots : List (Option Resting)) (place : ℕ) (order : Resting) (bank number left : ℕ) → AreUnique slots → get_or slots place None ≡ Some order → is_order bank number order ≡ true
    → orders_of (set slots place (Some (relot order left))) ≡ map (relotted bank number left) (orders_of slots)
orders-lowered [] place order bank number left unique at is = absurd (no_order order at)
orders-lowered (None ∷ slots) zero order bank number left unique at is = absurd (no_order order at)
orders-lowered (None ∷ slots) (suc place) order bank number left unique at is = orders-lowered slots place order bank number left (unique-rest None slots unique) at is
orders-lowered (Some one ∷ slots) zero order bank number left unique at is =
    let same : one ≡ order = same_order one order at in
    let here : is_order bank number one ≡ true = ap (is_order bank number) same ∙ is in
    ap (λ (o : Resting). relot o left ∷ orders_of slots) (sym same)
    ∙ sym (ap (λ (p : Resting). p ∷ map (relotted bank number left) (orders_of slots)) (cond-true (is_order bank number one) (relot one left) one here)
    ∙ ap (λ (os : List Resting). relot one left ∷ os) (relotted-none bank number left (orders_of slots) (none-else slots one bank number unique here)))
orders-lowered (Some one ∷ slots) (suc place) order bank number left unique at is =
    ap (λ (os : List Resting). one ∷ os) (orders-lowered slots place order bank number left (unique-rest (Some one) slots unique) at is)
    ∙ sym (ap (λ (p : Resting). p ∷ map (relotted bank number left) (orders_of slots)) (cond-false (is_order bank number one) (relot one left) one (another slots one order place bank number unique at is)))
