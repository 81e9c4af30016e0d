-- A walk along a bank's orders of a side, one behind the other, and past those that arrived too late.
use Rattle.std.proofs.Common.{ℕ, ◌≡◌, ◌≢◌, ◌≤◌, ◌<◌, ◌+◌, ◌^◌, ◌↔◌, true, false, Bool, ◌&&◌, ltb, List, [], ◌∷◌, Option, Some, None, length, inl, inr, refl, ap, sym, subst, ◌∙◌, arith}
use Rattle.std.proofs.lemmas.Bool.{and_from, and_parts, and_right, both_ways, cases_Bool, eqb-true, false_from_ne_true, lt-ltb, ltb-false, ltb-true}
use Rattle.std.specs.List.{filter}
use Rattle.std.specs.Option.{IfSome}
use Rattle.fx_amounts.specs.Side.{opposite}
use Rattle.fx_amounts.specs.declared.side.Side.{Side}
use Rattle.fx_rules.specs.declared.orders.Resting.{Resting}
use Rattle.fx_rules.specs.Lists.{Among}
use Rattle.fx_rules.specs.Plan.{is_behind}
use Rattle.fx_rules.specs.Sweep.{IsBest, is_opposite, is_preferred}
use Rattle.fx_rules.proofs.ListLemmas.{Among-filter, Each-among, Each-of, among_filter, filter_agree_on}
use Rattle.fx_rules.proofs.Preference.{preferred_either, preferred_self, preferred_trans}
use Rattle.global_book.specs.Behind.{IsCursor, is_owned_behind, owned_behind}
use Rattle.global_book.specs.Book.{AreInTime, Book, IsBook, IsHeld, is_of}
use Rattle.global_book.specs.inside.Late.{PassesLate, still_to_come}
use Rattle.global_book.proofs.Ending.{same_side}
use Rattle.global_book.proofs.Pulling.{one_fewer}

behind_still : (side : Side) (last : Option Resting) (best o : Resting) → is_behind side last best ≡ true → is_preferred side best o ≡ true → is_behind side last o ≡ true
behind_still side None best o behind later = refl
behind_still side (Some last) best o behind later = preferred_trans side last best o behind later

-- two tests that agree where the others pass
and_same : (a b c : Bool) → (a ≡ true → b ≡ c) → (a && b) ≡ (a && c)
and_same true b c same = same refl
and_same false b c same = refl

-- an order that is found is one of the bank's and the side's
pub cursor-from : (orders : List Resting) (bank : ℕ) (side : Side) (before : ℕ) (past : Option Resting) (order : Resting) → Among order (owned_behind side bank before past orders) → IsCursor orders bank side order
cursor-from orders bank side before past order there =
    let found = Among-filter (is_owned_behind (opposite side) bank before past) orders order there in
    let outer = and_parts (is_opposite (opposite side) order.side && is_of bank order && ltb order.arrival before) (is_behind (opposite side) past order) found.1 in
    let inner = and_parts (is_opposite (opposite side) order.side && is_of bank order) (ltb order.arrival before) outer.0 in
    let own = and_parts (is_opposite (opposite side) order.side) (is_of bank order) inner.0 in
    record { rests = found.0; bank_is = eqb-true order.bank bank own.1; side_is = sym (same_side side order.side own.0) }

module _ (book : Book) (bank : ℕ) (side : Side) (last : Option Resting) (best : Resting) (valid : IsBook book) (is_best : IsBest (opposite side) (owned_behind side bank (2 ^ 64) last book.orders) best) where
  -- behind the best order are the others that are behind the last one
  next-same : (o : Resting) → Among o book.orders → o.arrival ≢ best.arrival → is_owned_behind (opposite side) bank (2 ^ 64) (Some best) o ≡ is_owned_behind (opposite side) bank (2 ^ 64) last o
  next-same o there differ =
      let taker : Side = opposite side in
      let timely : Resting → Bool = λ o. is_opposite taker o.side && is_of bank o && ltb o.arrival (2 ^ 64) in
      let ahead : Resting → Bool = λ o. is_behind taker last o in
      let found = Among-filter (is_owned_behind taker bank (2 ^ 64) last) book.orders best is_best.there in
      let parts = and_parts (timely best) (ahead best) found.1 in
      and_same (timely o) (is_preferred taker best o) (ahead o) (λ in_time. elim (cases_Bool (ahead o)) [
        | inl behind ↦
            let below : is_preferred taker o best ≡ false = Each-among (λ other. is_preferred taker other best ≡ false) (owned_behind side bank (2 ^ 64) last book.orders) o is_best.first
            (among_filter (is_owned_behind taker bank (2 ^ 64) last) book.orders o there (and_from (timely o) (ahead o) in_time behind)) in
            preferred_either taker o best differ below ∙ sym behind
        | inr passed ↦ false_from_ne_true (is_preferred taker best o) (λ later. both_ways (ahead o) passed (behind_still taker last best o parts.1 later)) ∙ sym passed
      ])

  -- there is one less of them
  pub next-less : length (owned_behind side bank (2 ^ 64) (Some best) book.orders) + 1 ≡ length (owned_behind side bank (2 ^ 64) last book.orders)
  next-less =
      let taker : Side = opposite side in
      let found = Among-filter (is_owned_behind taker bank (2 ^ 64) last) book.orders best is_best.there in
      one_fewer (is_owned_behind taker bank (2 ^ 64) (Some best)) (is_owned_behind taker bank (2 ^ 64) last) book.orders best valid.rising found.0
      (and_right (is_opposite taker best.side && is_of bank best && ltb best.arrival (2 ^ 64)) (is_preferred taker best best) (false_from_ne_true (is_preferred taker best best) (preferred_self taker best)))
      found.1 next-same

-- an order that arrived in time, behind another one
in-time : (book : Book) (bank : ℕ) (side : Side) (before : ℕ) (past : Option Resting) (o : Resting) → IsBook book → Among o book.orders → o.arrival < before
    → is_owned_behind (opposite side) bank before past o ≡ is_owned_behind (opposite side) bank (2 ^ 64) past o
in-time book bank side before past o valid there less =
    ap (λ (t : Bool). is_opposite (opposite side) o.side && is_of bank o && t && is_behind (opposite side) past o)
    (lt-ltb o.arrival before less ∙ sym (lt-ltb o.arrival (2 ^ 64) (Each-among (IsHeld book.banks) book.orders o valid.held there).arrival_most))

pub too-late : (bank : ℕ) (side : Side) (before : ℕ) (past : Option Resting) (o : Resting) → before ≤ o.arrival → is_owned_behind (opposite side) bank before past o ≡ false
too-late bank side before past o late =
    false_from_ne_true (is_owned_behind (opposite side) bank before past o) (λ is.
    let outer = and_parts (is_opposite (opposite side) o.side && is_of bank o && ltb o.arrival before) (is_behind (opposite side) past o) is in
    let inner = and_parts (is_opposite (opposite side) o.side && is_of bank o) (ltb o.arrival before) outer.0 in
    let early = ltb-true o.arrival before inner.1 in
    omega (arith, early, late))

-- The walk begins behind an order, or with all.
pub late-begun : (orders : List Resting) (bank : ℕ) (side : Side) (before : ℕ) (past next : Option Resting) → (next ≡ None) ↔ (owned_behind side bank (2 ^ 64) past orders ≡ [])
    → IfSome next (IsBest (opposite side) (owned_behind side bank (2 ^ 64) past orders)) → PassesLate orders bank side before past next
late-begun orders bank side before past next none best = record { last = past; same = λ order there. refl; none = none; best = best }

-- The order that it comes to is one of the bank's and the side's.
pub late-cursor : (orders : List Resting) (bank : ℕ) (side : Side) (before : ℕ) (past next : Option Resting) (order : Resting) → PassesLate orders bank side before past next → next ≡ Some order → IsCursor orders bank side order
late-cursor orders bank side before past next order passes is =
    let here : IsBest (opposite side) (owned_behind side bank (2 ^ 64) passes.last orders) order =
    subst (λ (f : Option Resting). IfSome f (IsBest (opposite side) (owned_behind side bank (2 ^ 64) passes.last orders))) is passes.best in
    cursor-from orders bank side (2 ^ 64) passes.last order here.there

-- It passes an order that arrived too late.
pub late-passed : (book : Book) (bank : ℕ) (side : Side) (before : ℕ) (past next next' : Option Resting) (order : Resting) → IsBook book → PassesLate book.orders bank side before past next → next ≡ Some order → before ≤ order.arrival
    → (next' ≡ None) ↔ (owned_behind side bank (2 ^ 64) (Some order) book.orders ≡ []) → IfSome next' (IsBest (opposite side) (owned_behind side bank (2 ^ 64) (Some order) book.orders))
    → PassesLate book.orders bank side before past next'
late-passed book bank side before past next next' order valid passes is late none best =
    let here : IsBest (opposite side) (owned_behind side bank (2 ^ 64) passes.last book.orders) order =
    subst (λ (f : Option Resting). IfSome f (IsBest (opposite side) (owned_behind side bank (2 ^ 64) passes.last book.orders))) is passes.best in
    record {
      last = Some order;
      same = λ o there. passes.same o there ∙ elim (cases_Bool (ltb o.arrival before)) [
        | inl early ↦
            let less = ltb-true o.arrival before early in
            in-time book bank side before passes.last o valid there less
            ∙ sym (next-same book bank side passes.last order valid here o there (λ same. omega (arith, same, less, late)))
            ∙ sym (in-time book bank side before (Some order) o valid there less)
        | inr after ↦
            let more = ltb-false o.arrival before after in
            too-late bank side before passes.last o more ∙ sym (too-late bank side before (Some order) o more)
      ];
      none = none;
      best = best;
    }

-- It comes to one that arrived in time, which is the best of these, or to an end.
pub late-found : (book : Book) (bank : ℕ) (side : Side) (before : ℕ) (past next : Option Resting) (order : Resting) → IsBook book → PassesLate book.orders bank side before past next → next ≡ Some order → order.arrival < before
    → IsBest (opposite side) (owned_behind side bank before past book.orders) order
late-found book bank side before past next order valid passes is early =
    let here : IsBest (opposite side) (owned_behind side bank (2 ^ 64) passes.last book.orders) order =
    subst (λ (f : Option Resting). IfSome f (IsBest (opposite side) (owned_behind side bank (2 ^ 64) passes.last book.orders))) is passes.best in
    let found = Among-filter (is_owned_behind (opposite side) bank (2 ^ 64) passes.last) book.orders order here.there in
    let same : owned_behind side bank before past book.orders ≡ owned_behind side bank before passes.last book.orders =
    filter_agree_on (is_owned_behind (opposite side) bank before past) (is_owned_behind (opposite side) bank before passes.last) book.orders passes.same in
    subst (λ os. IsBest (opposite side) os order) (sym same) (record {
      there = among_filter (is_owned_behind (opposite side) bank before passes.last) book.orders order found.0 (in-time book bank side before passes.last order valid found.0 early ∙ found.1);
      first = Each-of (λ o. is_preferred (opposite side) o order ≡ false) (owned_behind side bank before passes.last book.orders) (λ o there.
          let own = Among-filter (is_owned_behind (opposite side) bank before passes.last) book.orders o there in
          let outer = and_parts (is_opposite (opposite side) o.side && is_of bank o && ltb o.arrival before) (is_behind (opposite side) passes.last o) own.1 in
          let inner = and_parts (is_opposite (opposite side) o.side && is_of bank o) (ltb o.arrival before) outer.0 in
          Each-among (λ one. is_preferred (opposite side) one order ≡ false) (owned_behind side bank (2 ^ 64) passes.last book.orders) o here.first
          (among_filter (is_owned_behind (opposite side) bank (2 ^ 64) passes.last) book.orders o own.0
          (sym (in-time book bank side before passes.last o valid own.0 (ltb-true o.arrival before inner.1)) ∙ own.1)));
    })

pub late-ended : (book : Book) (bank : ℕ) (side : Side) (before : ℕ) (past next : Option Resting) → IsBook book → PassesLate book.orders bank side before past next → next ≡ None → owned_behind side bank before past book.orders ≡ []
late-ended book bank side before past next valid passes is =
    let bare : owned_behind side bank (2 ^ 64) passes.last book.orders ≡ [] = passes.none.0 is in
    filter_agree_on (is_owned_behind (opposite side) bank before past) (is_owned_behind (opposite side) bank before passes.last) book.orders passes.same
    ∙ all-none (is_owned_behind (opposite side) bank before passes.last) book.orders (λ o there. false_from_ne_true (is_owned_behind (opposite side) bank before passes.last o) (λ on.
    let outer = and_parts (is_opposite (opposite side) o.side && is_of bank o && ltb o.arrival before) (is_behind (opposite side) passes.last o) on in
    let inner = and_parts (is_opposite (opposite side) o.side && is_of bank o) (ltb o.arrival before) outer.0 in
    subst (Among o) bare (among_filter (is_owned_behind (opposite side) bank (2 ^ 64) passes.last) book.orders o there
    (sym (in-time book bank side before passes.last o valid there (ltb-true o.arrival before inner.1)) ∙ on))))
  where
    none_among : (x : Resting) → Among x [] → ⊥
    none_among x there = there

    all-none : (test : Resting → Bool) (xs : List Resting) → ((x : Resting) → Among x xs → test x ≡ false) → filter test xs ≡ []
    all-none test xs none = filter_agree_on test (λ _. false) xs none ∙ none-pass xs
      where
        none-pass : (xs : List Resting) → filter (λ (_ : Resting). false) xs ≡ []
        none-pass [] = refl
        none-pass (x ∷ xs) = none-pass xs

-- the walk comes to an end
pub late-smaller : (book : Book) (bank : ℕ) (side : Side) (next' : Option Resting) (order : Resting) → IsBook book → IfSome next' (IsBest (opposite side) (owned_behind side bank (2 ^ 64) (Some order) book.orders))
    → still_to_come book.orders bank side next' < still_to_come book.orders bank side (Some order)
late-smaller book bank side None order valid best = omega arith
late-smaller book bank side (Some next') order valid best = let less = next-less book bank side (Some order) next' valid best in omega (arith, less)

-- Where all orders of the side arrived in time, the first one found did.
pub if-early : (orders : List Resting) (bank : ℕ) (side : Side) (before : ℕ) (past next : Option Resting) → AreInTime side before orders → IfSome next (IsBest (opposite side) (owned_behind side bank (2 ^ 64) past orders))
    → IfSome next (λ order. order.arrival < before)
if-early orders bank side before past None timely best = tt
if-early orders bank side before past (Some order) timely best =
    let cursor = cursor-from orders bank side (2 ^ 64) past order best.there in
    Each-among (λ (o : Resting). o.side ≡ side → o.arrival < before) orders order timely cursor.rests cursor.side_is
