-- The orders of a book that cross given prices, gathered bank by bank and put in the order of their arrivals.
use Rattle.std.proofs.Common.{ℕ, zero, suc, ◌≡◌, ◌+◌, ◌<◌, ◌≤◌, Bool, true, false, ◌&&◌, ◌||◌, List, [], ◌∷◌, ◌++◌, inl, inr, refl, ap, sym, subst, ◌∙◌, arith, length, get_or, take}
use Rattle.std.proofs.lemmas.Bool.{or_cases, or_left, or_right, eqb-true, eq-eqb, false≢true}
use Rattle.std.proofs.lemmas.List.{get_or-take, get_or_default, length-take, take_more, take_all}
use Rattle.std.proofs.lemmas.List.Kept.{AllPairs-from_increasing}
use Rattle.std.proofs.lemmas.List.Sorted.{IsPermutation-refl, IsPermutation-trans}
use Rattle.std.specs.List.{filter, Contains}
use Rattle.std.specs.List.Sorted.{IsPermutation, IsNonDecreasingBy, IsStrictlyIncreasing}
use Rattle.fx_rules.specs.declared.orders.Resting.{Resting}
use Rattle.fx_rules.specs.Lists.{EachPair}
use Rattle.fx_rules.specs.Sound.{ArrivesBefore}
use Rattle.fx_rules.proofs.ListLemmas.{Each-among, Each-of, EachPair-filter, filter_agree_on}
use Rattle.global_book.specs.Book.{AreOwners, Book, IsBook, is_of}
use Rattle.credit_raise.specs.declared.prices.Tops.{Tops}
use Rattle.credit_raise.specs.inside.Prices.{Gathers, crosses_tops, is_live_of}
use Rattle.credit_raise.proofs.Gathering.{Earlier, IsEither, gathers-both, pairs_weaker, sorted-back}
use Rattle.credit_raise.proofs.Living.{none_kept}

-- an order of one of some banks
abbrev pub is_of_any : List ℕ → Resting → Bool
is_of_any [] order = false
is_of_any (bank ∷ banks) order = is_of bank order || is_of_any banks order

-- one that crosses these prices
abbrev pub crosses_of : Tops → List ℕ → Resting → Bool
crosses_of tops banks order = is_of_any banks order && crosses_tops tops order

or_assoc : (a b c : Bool) → (a || (b || c)) ≡ ((a || b) || c)
or_assoc true b c = refl
or_assoc false b c = refl

or_none : (a : Bool) → (a || false) ≡ a
or_none true = refl
or_none false = refl

any_more : (banks : List ℕ) (bank : ℕ) (o : Resting) → is_of_any (banks ++ bank ∷ []) o ≡ (is_of_any banks o || is_of bank o)
any_more [] bank o = or_none (is_of bank o)
any_more (b ∷ banks) bank o = ap (λ t. is_of b o || t) (any_more banks bank o) ∙ or_assoc (is_of b o) (is_of_any banks o) (is_of bank o)

any_contains : (banks : List ℕ) (o : Resting) → is_of_any banks o ≡ true → Contains banks o.bank
any_contains [] o is = absurd (false≢true is)
any_contains (b ∷ banks) o is =
    elim (or_cases (is_of b o) (is_of_any banks o) is) [
      | inl first ↦ (0, omega arith, sym (eqb-true o.bank b first))
      | inr later ↦ let found = any_contains banks o later in (suc found.0, omega (arith, found.1), found.2)
    ]

any-of : (banks : List ℕ) (o : Resting) (k : ℕ) → k < length banks → get_or banks k o.bank ≡ o.bank → is_of_any banks o ≡ true
any-of [] o k within at = absurd (omega (arith, within))
any-of (b ∷ banks) o zero within at = or_left (is_of b o) (is_of_any banks o) (eq-eqb o.bank b (sym at))
any-of (b ∷ banks) o (suc k) within at = or_right (is_of b o) (is_of_any banks o) (any-of banks o k (omega (arith, within)) at)

either_test : (a b c : Bool) → (a ≡ true → b ≡ true → ⊥) → (((a && c) && (b && c)) ≡ false) × (((a || b) && c) ≡ ((a && c) || (b && c)))
either_test true true c apart = absurd (apart refl refl)
either_test true false true apart = (refl, refl)
either_test true false false apart = (refl, refl)
either_test false true true apart = (refl, refl)
either_test false true false apart = (refl, refl)
either_test false false c apart = (refl, refl)

-- where each is above those before it, the next is none of these
not_passed : (xs : List ℕ) (k d : ℕ) → IsStrictlyIncreasing xs → k < length xs → Contains (take k xs) (get_or xs k d) → ⊥
not_passed xs k d rises within there =
    let x : ℕ = get_or xs k d in
    let below : there.0 < k = omega (arith, there.1, length-take k xs) in
    let here : get_or xs there.0 x ≡ x = sym (get_or-take k xs there.0 x below) ∙ there.2 in
    omega (arith, AllPairs-from_increasing xs rises there.0 k x below within, here, get_or_default xs k x d within)

-- the next bank's orders are none of those before
either_more : (tops : Tops) (book : Book) (owners : List ℕ) (k bank : ℕ) → AreOwners book owners → k < length owners → bank ≡ get_or owners k bank
    → IsEither (crosses_of tops (take k owners)) (is_live_of bank tops) (crosses_of tops (take (k + 1) owners))
either_more tops book owners k bank are within at o =
    let more : take (k + 1) owners ≡ take k owners ++ bank ∷ [] =
    take_more owners k bank within ∙ ap (λ (b : ℕ). take k owners ++ b ∷ []) (sym at) in
    let test = either_test (is_of_any (take k owners) o) (is_of bank o) (crosses_tops tops o) (λ passed here.
    let same : o.bank ≡ bank = eqb-true o.bank bank here in
    not_passed owners k bank are.rising within
    (subst (Contains (take k owners)) (same ∙ at) (any_contains (take k owners) o passed))) in (
      test.0,
      ap (λ (bs : List ℕ). is_of_any bs o && crosses_tops tops o) more ∙ ap (λ t. t && crosses_tops tops o) (any_more (take k owners) bank o) ∙ test.1,
    )

pub crossing-begins : (tops : Tops) (orders none : List Resting) → none ≡ [] → Gathers (crosses_of tops []) orders [] none
crossing-begins tops orders none empty = record {
  gathered = [];
  behind = empty;
  all = subst (λ (os : List Resting). IsPermutation os [])
      (sym (none_kept (crosses_of tops []) orders (Each-of (λ (o : Resting). crosses_of tops [] o ≡ false) orders (λ o _. refl)))) (IsPermutation-refl []);
}

pub crossing-more : (tops : Tops) (book : Book) (owners : List ℕ) (k bank : ℕ) (old new : List Resting) → AreOwners book owners → k < length owners → bank ≡ get_or owners k bank
    → Gathers (crosses_of tops (take k owners)) book.orders [] old → Gathers (is_live_of bank tops) book.orders old new
    → Gathers (crosses_of tops (take (k + 1) owners)) book.orders [] new
crossing-more tops book owners k bank old new are within at one two =
    gathers-both (crosses_of tops (take k owners)) (is_live_of bank tops) (crosses_of tops (take (k + 1) owners)) book.orders [] old new
    (either_more tops book owners k bank are within at) one two

-- what is gathered of all owners is, in order, all that crosses
pub crossing-all : (tops : Tops) (book : Book) (owners : List ℕ) (k : ℕ) (gathered sorted : List Resting) → IsBook book → AreOwners book owners → length owners ≤ k
    → Gathers (crosses_of tops (take k owners)) book.orders [] gathered → IsPermutation gathered sorted → IsNonDecreasingBy (λ (o : Resting). o.arrival) sorted
    → sorted ≡ filter (crosses_tops tops) book.orders
crossing-all tops book owners k gathered sorted valid are past all same falls_not =
    let test : Resting → Bool = crosses_of tops (take k owners) in
    let agree : filter test book.orders ≡ filter (crosses_tops tops) book.orders = filter_agree_on test (crosses_tops tops) book.orders (λ o there.
    let found : Contains owners o.bank = Each-among (λ (q : Resting). Contains owners q.bank) book.orders o are.all there in
    ap (λ (bs : List ℕ). is_of_any bs o && crosses_tops tops o) (take_all k owners past)
    ∙ ap (λ t. t && crosses_tops tops o) (any-of owners o found.0 found.1 found.2)) in
    let kept : EachPair ArrivesBefore (filter (crosses_tops tops) book.orders) = EachPair-filter ArrivesBefore (crosses_tops tops) book.orders valid.rising in
    sorted-back (filter (crosses_tops tops) book.orders) sorted
    (pairs_weaker ArrivesBefore Earlier (λ a b is. is.arrival) (filter (crosses_tops tops) book.orders) kept)
    (IsPermutation-trans (filter (crosses_tops tops) book.orders) gathered sorted
    (subst (λ (os : List Resting). IsPermutation os gathered) agree (subst (IsPermutation (filter test book.orders)) (sym all.behind) all.all)) same)
    falls_not
