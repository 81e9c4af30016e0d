-- Each taker has a planned sweep.
use Rattle.std.proofs.Common.{ℕ, zero, suc, ◌≡◌, ◌≤◌, ◌<◌, ◌/◌, ◌*◌, Bool, true, false, ◌&&◌, List, [], ◌∷◌, inl, inr, length, Option, Some, None, refl, ap, sym, subst, arith}
use Rattle.std.proofs.lemmas.Bool.{cases_Bool, cases_lt, false_from_ne_true, both_ways, and_parts}
use Rattle.std.specs.List.{filter}
use Rattle.fx_amounts.specs.declared.side.Side.{Side}
use Rattle.fx_rules.specs.declared.orders.Fill.{Fill}
use Rattle.fx_rules.specs.declared.orders.Resting.{Resting}
use Rattle.fx_rules.specs.Lists.{Among}
use Rattle.fx_rules.specs.Sweep.{Taker, is_open, is_preferred, IsBest, amount, fill_with, less}
use Rattle.fx_rules.specs.Plan.{Planned, is_behind, open_behind, spend}
use Rattle.fx_rules.proofs.ListLemmas.{Each-weaker, Among-filter, filter_cons_true, filter_cons_false}
use Rattle.fx_rules.proofs.Preference.{preferred_self, preferred_trans}

-- an order to which no other is preferred, where none is to one that it is preferred to
not_to : (side : Side) (best o q : Resting) → is_preferred side o best ≡ true → is_preferred side q best ≡ false → is_preferred side q o ≡ false
not_to side best o q above below =
    false_from_ne_true (is_preferred side q o) (λ better. both_ways (is_preferred side q best) below (preferred_trans side q o best better above))

-- a list that is not empty has a best order
pub best-exists : (side : Side) (o : Resting) (orders : List Resting) → (best : Resting) × IsBest side (o ∷ orders) best
best-exists side o [] = (o, record { there = inl refl; first = (false_from_ne_true (is_preferred side o o) (preferred_self side o), tt) })
best-exists side o (p ∷ orders) =
    let last = best-exists side p orders in
    elim (cases_Bool (is_preferred side o last.0)) [
      | inl above ↦ (
        o,
        record {
          there = inl refl;
          first = (
            false_from_ne_true (is_preferred side o o) (preferred_self side o),
            Each-weaker (λ q. is_preferred side q last.0 ≡ false) (λ q. is_preferred side q o ≡ false) (λ q below. not_to side last.0 o q above below)
                (p ∷ orders) last.1.first,
          );
        },
      )
      | inr below ↦ (last.0, record { there = inr last.1.there; first = (below, last.1.first) })
    ]

-- a test that passes no more than another keeps no more, and less where it fails at one that the other passes
fewer_or_same : (p q : Resting → Bool) (xs : List Resting) → ((x : Resting) → p x ≡ true → q x ≡ true) → length (filter p xs) ≤ length (filter q xs)
fewer_or_same p q [] weaker = omega arith
fewer_or_same p q (x ∷ xs) weaker =
    elim (cases_Bool (p x)) [
      | inl passes ↦ omega (arith, fewer_or_same p q xs weaker, ap (λ (l : List Resting). length l) (filter_cons_true p x xs passes), ap (λ (l : List Resting). length l) (filter_cons_true q x xs (weaker x passes)))
      | inr fails ↦
          elim (cases_Bool (q x)) [
            | inl other ↦ omega (arith, fewer_or_same p q xs weaker, ap (λ (l : List Resting). length l) (filter_cons_false p x xs fails), ap (λ (l : List Resting). length l) (filter_cons_true q x xs other))
            | inr neither ↦ omega (arith, fewer_or_same p q xs weaker, ap (λ (l : List Resting). length l) (filter_cons_false p x xs fails), ap (λ (l : List Resting). length l) (filter_cons_false q x xs neither))
          ]
    ]

fewer : (p q : Resting → Bool) (xs : List Resting) (x : Resting) → ((y : Resting) → p y ≡ true → q y ≡ true) → Among x xs → p x ≡ false → q x ≡ true → length (filter p xs) < length (filter q xs)
fewer p q [] x weaker there fails passes = absurd there
fewer p q (y ∷ xs) x weaker (inl is) fails passes =
    omega (
      arith,
      fewer_or_same p q xs weaker,
      ap (λ (l : List Resting). length l) (filter_cons_false p y xs (subst (λ (z : Resting). p z ≡ false) is fails)),
      ap (λ (l : List Resting). length l) (filter_cons_true q y xs (subst (λ (z : Resting). q z ≡ true) is passes)),
    )
fewer p q (y ∷ xs) x weaker (inr there) fails passes =
    elim (cases_Bool (p y)) [
      | inl here ↦ omega (arith, fewer p q xs x weaker there fails passes, ap (λ (l : List Resting). length l) (filter_cons_true p y xs here), ap (λ (l : List Resting). length l) (filter_cons_true q y xs (weaker y here)))
      | inr not_here ↦
          elim (cases_Bool (q y)) [
            | inl other ↦ omega (arith, fewer p q xs x weaker there fails passes, ap (λ (l : List Resting). length l) (filter_cons_false p y xs not_here), ap (λ (l : List Resting). length l) (filter_cons_true q y xs other))
            | inr neither ↦ omega (arith, fewer p q xs x weaker there fails passes, ap (λ (l : List Resting). length l) (filter_cons_false p y xs not_here), ap (λ (l : List Resting). length l) (filter_cons_false q y xs neither))
          ]
    ]

-- behind an order that comes behind the last there are less
behind_last : (side : Side) (last : Option Resting) (best o : Resting) → is_behind side last best ≡ true → is_preferred side best o ≡ true → is_behind side last o ≡ true
behind_last side None best o behind later = refl
behind_last side (Some last) best o behind later = preferred_trans side last best o behind later

fewer_behind : (side : Side) (last : Option Resting) (best : Resting) (book : List Resting) → Among best book → is_behind side last best ≡ true → length (filter (is_behind side (Some best)) book) < length (filter (is_behind side last) book)
fewer_behind side last best book there behind =
    fewer (is_behind side (Some best)) (is_behind side last) book best (λ o later. behind_last side last best o behind later) there
    (false_from_ne_true (is_preferred side best best) (preferred_self side best)) behind

-- the sweep from where so many orders at most are behind the last, and these are open
planned_to : (weight n : ℕ) (lines : ℕ → ℕ) (book : List Resting) (t : Taker) (last : Option Resting) (opens : List Resting) → open_behind (λ bank. lines bank / weight) t last book ≡ opens → length (filter (is_behind t.side last) book) ≤ n → (fills : List Fill) × (left : ℕ) × Planned weight lines book t last fills left
planned_to weight n lines book t last [] is few = ([], t.left, (refl, inr is))
planned_to weight zero lines book t last (o ∷ opens) is few =
    let found = best-exists t.side o opens in
    let there : Among found.0 (open_behind (λ bank. lines bank / weight) t last book) = subst (Among found.0) (sym is) found.1.there in
    let kept = Among-filter (λ (q : Resting). is_open t (lines q.bank / weight) q && is_behind t.side last q) book found.0 there in
    let behind : is_behind t.side last found.0 ≡ true = (and_parts (is_open t (lines found.0.bank / weight) found.0) (is_behind t.side last found.0) kept.1).1 in
    absurd (omega (arith, few, fewer_behind t.side last found.0 book kept.0 behind))
planned_to weight (suc n) lines book t last (o ∷ opens) is few =
    elim (cases_lt 0 t.left) [
      | inr none ↦ ([], t.left, (refl, inl (omega (arith, none))))
      | inl some ↦
          let found = best-exists t.side o opens in
          let best : Resting = found.0 in
          let best_is : IsBest t.side (open_behind (λ bank. lines bank / weight) t last book) best = subst (λ (os : List Resting). IsBest t.side os best) (sym is) found.1 in
          let kept = Among-filter (λ (q : Resting). is_open t (lines q.bank / weight) q && is_behind t.side last q) book best best_is.there in
          let behind : is_behind t.side last best ≡ true = (and_parts (is_open t (lines best.bank / weight) best) (is_behind t.side last best) kept.1).1 in
          let lots : ℕ = amount t best (lines best.bank / weight) in
          let spent : ℕ → ℕ = spend lines best.bank (lots * weight) in
          let more = planned_to weight n spent book (less t lots) (Some best) (open_behind (λ bank. spent bank / weight) (less t lots) (Some best) book) refl
          (omega (arith, few, fewer_behind t.side last best book kept.0 behind)) in
          (fill_with t best lots ∷ more.0, more.1, (best, omega (arith, some), best_is, refl, more.2))
    ]

-- each taker has a planned sweep, from wherever it is
pub planned-exists : (weight : ℕ) (lines : ℕ → ℕ) (book : List Resting) (t : Taker) (last : Option Resting) → (fills : List Fill) × (left : ℕ) × Planned weight lines book t last fills left
planned-exists weight lines book t last =
    planned_to weight (length (filter (is_behind t.side last) book)) lines book t last (open_behind (λ bank. lines bank / weight) t last book) refl (omega arith)
