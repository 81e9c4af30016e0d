-- What a bank has used with all others, as uses are added and given back.
use Rattle.std.proofs.Common.{ℕ, zero, suc, ◌≡◌, ◌≢◌, ◌+◌, ◌-◌, ◌≤◌, ◌<◌, Bool, not, cond, eqb, List, [], ◌∷◌, ◌++◌, inl, inr, refl, ap, ◌∙◌, arith, length}
use Rattle.std.specs.List.{filter}
use Rattle.std.proofs.lemmas.Bool.{cases_Bool, cases_eq, cond-true, cond-false, eq-eqb, ne_eqb, eqb-false, not-true}
use Rattle.std.proofs.lemmas.List.Elements.{filter-append}
use Rattle.fx_rules.specs.Lists.{Among, total, below}
use Rattle.fx_rules.proofs.Below.{below_more}
use Rattle.fx_rules.proofs.ListLemmas.{total-append, filter_cons_true, filter_cons_false, Among-filter}
use Rattle.fx_rules.proofs.Totals.{total_adds}
use Rattle.flat_host.specs.FlatState.{use_place, use_in, others_of}
use Rattle.flat_host.proofs.Carrying.{use_place-swap, use_place-same, places_same, raised, raised_here, raised_there}

among_append : (xs ys : List ℕ) (x : ℕ) → Among x (xs ++ ys) → (P : ℕ → Type 0) → ((y : ℕ) → Among y xs → P y) → ((y : ℕ) → Among y ys → P y) → P x
among_append [] ys x there P first second = second x there
among_append (y ∷ xs) ys x (inl is) P first second = first x (inl is)
among_append (y ∷ xs) ys x (inr there) P first second = among_append xs ys x there P (λ z at. first z (inr at)) second

among_last : (n y : ℕ) → Among y (n ∷ []) → y < suc n
among_last n y (inl is) = omega (arith, is)
among_last n y (inr there) = absurd there

below_among : (n k : ℕ) → Among k (below n) → k < n
below_among zero k there = absurd there
below_among (suc n) k there =
    among_append (below n) (n ∷ []) k there (λ y. y < suc n) (λ y at. omega (arith, below_among n y at)) (among_last n)

-- those are other banks
pub others-in : (banks bank other : ℕ) → Among other (others_of banks bank) → (other < banks) × (other ≢ bank)
others-in banks bank other there =
    let found = Among-filter (λ k. not (eqb k bank)) (below banks) other there in
    (below_among banks other found.0, eqb-false other bank (not-true (eqb other bank) found.1))

-- sums over the same items
pub total_same : (f g : ℕ → ℕ) (xs : List ℕ) → ((x : ℕ) → Among x xs → f x ≡ g x) → total f xs ≡ total g xs
total_same f g [] same = refl
total_same f g (x ∷ xs) same = omega (arith, same x (inl refl), total_same f g xs (λ y there. same y (inr there)))

pub total_most : (f g : ℕ → ℕ) (xs : List ℕ) → ((x : ℕ) → Among x xs → f x ≤ g x) → total f xs ≤ total g xs
total_most f g [] most = omega arith
total_most f g (x ∷ xs) most = omega (arith, most x (inl refl), total_most f g xs (λ y there. most y (inr there)))

pub total_none : (f : ℕ → ℕ) (xs : List ℕ) → ((x : ℕ) → f x ≡ 0) → total f xs ≡ 0
total_none f [] none = refl
total_none f (x ∷ xs) none = omega (arith, none x, total_none f xs none)

-- one bank more
pub others-more : (f : ℕ → ℕ) (n bank : ℕ) → total f (others_of (n + 1) bank) ≡ total f (others_of n bank) + cond (not (eqb n bank)) (f n) 0
others-more f n bank =
    let keep : ℕ → Bool = λ k. not (eqb k bank) in
    let parts : total f (filter keep (below (n + 1))) ≡ total f (filter keep (below n)) + total f (filter keep (n ∷ [])) =
    ap (λ (xs : List ℕ). total f (filter keep xs)) (below_more n)
    ∙ ap (total f) (filter-append keep (below n) (n ∷ []))
    ∙ total-append f (filter keep (below n)) (filter keep (n ∷ [])) in
    elim (cases_Bool (keep n)) [
      | inl is ↦ omega (arith, parts, ap (total f) (filter_cons_true keep n [] is), cond-true (keep n) (f n) 0 is)
      | inr isnt ↦ omega (arith, parts, ap (total f) (filter_cons_false keep n [] isnt), cond-false (keep n) (f n) 0 isnt)
    ]

pub others-other : (f : ℕ → ℕ) (n bank : ℕ) → n ≢ bank → total f (others_of (n + 1) bank) ≡ total f (others_of n bank) + f n
others-other f n bank differ =
    others-more f n bank ∙ ap (λ m. total f (others_of n bank) + m) (cond-true (not (eqb n bank)) (f n) 0 (ap not (ne_eqb n bank differ)))

pub others-own : (f : ℕ → ℕ) (n bank : ℕ) → n ≡ bank → total f (others_of (n + 1) bank) ≡ total f (others_of n bank)
others-own f n bank same =
    omega (arith, others-more f n bank, cond-false (not (eqb n bank)) (f n) 0 (ap not (eq-eqb n bank same)))

-- what counts at one bank alone is counted once at most
once : ℕ → ℕ → ℕ → ℕ
once j units k = cond (eqb k j) units 0

counted_once : (n bank j units : ℕ) → (total (once j units) (others_of n bank) ≤ units) × (n ≤ j → total (once j units) (others_of n bank) ≡ 0)
unfolding once
counted_once zero bank j units = (omega arith, λ _. refl)
counted_once (suc n) bank j units =
    let before = counted_once n bank j units in
    let more : total (once j units) (others_of (n + 1) bank) ≡ total (once j units) (others_of n bank) + cond (not (eqb n bank)) (once j units n) 0 = others-more (once j units) n bank in
    let most : cond (not (eqb n bank)) (once j units n) 0 ≤ once j units n = elim (cases_Bool (not (eqb n bank))) [
      | inl is ↦ omega (arith, cond-true (not (eqb n bank)) (once j units n) 0 is)
      | inr isnt ↦ omega (arith, cond-false (not (eqb n bank)) (once j units n) 0 isnt)
    ] in
    let next : total (once j units) (others_of (suc n) bank) ≡ total (once j units) (others_of (n + 1) bank) = ap (λ m. total (once j units) (others_of m bank)) (let one : suc n ≡ n + 1 = omega arith in one) in
    elim (cases_eq n j) [
      | inl same ↦ (
        omega (arith, next, more, most, before.1 (omega (arith, same)), cond-true (eqb n j) units 0 (eq-eqb n j same)),
        λ past. absurd (omega (arith, past, same)),
      )
      | inr other ↦ (
        omega (arith, next, more, most, before.0, cond-false (eqb n j) units 0 (ne_eqb n j other)),
        λ past. omega (arith, next, more, most, before.1 (omega (arith, past)), cond-false (eqb n j) units 0 (ne_eqb n j other)),
      )
    ]

-- units added between a bank and another one add to the bank's sum no more than themselves
own_sum : (uses : List ℕ) (banks bank other units : ℕ) → length uses ≡ 4225 → banks ≤ 64 → bank < 65 → other < 65 → (more : List ℕ) → ((k : ℕ) → k < 65 → k ≢ bank → k ≡ other → use_in more bank k ≡ use_in uses bank k + units) → ((k : ℕ) → k < 65 → k ≢ bank → k ≢ other → use_in more bank k ≡ use_in uses bank k) → total (use_in more bank) (others_of banks bank) ≤ total (use_in uses bank) (others_of banks bank) + units
unfolding once
own_sum uses banks bank other units full few bank_in other_in more here there =
    let sum : ℕ → ℕ = λ k. use_in uses bank k + once other units k in
    let rises : total (use_in more bank) (others_of banks bank) ≤ total sum (others_of banks bank) =
    total_most (use_in more bank) sum (others_of banks bank)
    (λ k at'. let is = others-in banks bank k at' in elim (cases_eq k other) [
      | inl same ↦ omega (arith, here k (omega (arith, is.0)) is.1 same, cond-true (eqb k other) units 0 (eq-eqb k other same))
      | inr apart ↦ omega (arith, there k (omega (arith, is.0)) is.1 apart, cond-false (eqb k other) units 0 (ne_eqb k other apart))
    ]) in
    let adds : total sum (others_of banks bank) ≡ total (use_in uses bank) (others_of banks bank) + total (once other units) (others_of banks bank) =
    total_adds (use_in uses bank) sum (once other units) (others_of banks bank) (λ _. refl) in
    omega (arith, rises, adds, (counted_once banks bank other units).0)

apart_place : (i k a b : ℕ) → i < 65 → k < 65 → a < 65 → b < 65 → k ≢ i → (i ≡ a → k ≡ b → ⊥) → (i ≡ b → k ≡ a → ⊥) → use_place i k ≡ use_place a b → ⊥
apart_place i k a b i_in k_in a_in b_in differ not_one not_other same = elim (use_place-same i k a b i_in k_in a_in b_in same) [
  | inl is ↦ not_one is.0 is.1
  | inr is ↦ not_other is.0 is.1
]

-- the first of the two banks,
pub spent-first : (uses : List ℕ) (banks a b units : ℕ) → length uses ≡ 4225 → banks ≤ 64 → a < 65 → b < 65 → total (use_in (raised uses a b units) a) (others_of banks a) ≤ total (use_in uses a) (others_of banks a) + units
spent-first uses banks a b units full few a_in b_in =
    own_sum uses banks a b units full few a_in b_in (raised uses a b units)
    (λ k k_in differ same. raised_here uses a k a b units full a_in b_in (places_same a k a b refl same))
    (λ k k_in differ apart. raised_there uses a k a b units
    (apart_place a k a b a_in k_in a_in b_in differ (λ _ same. apart same) (λ _ own. differ own)))

-- the second,
pub spent-second : (uses : List ℕ) (banks a b units : ℕ) → length uses ≡ 4225 → banks ≤ 64 → a < 65 → b < 65 → total (use_in (raised uses a b units) b) (others_of banks b) ≤ total (use_in uses b) (others_of banks b) + units
spent-second uses banks a b units full few a_in b_in =
    own_sum uses banks b a units full few b_in a_in (raised uses a b units)
    (λ k k_in differ same. raised_here uses b k a b units full a_in b_in (use_place-swap b k ∙ places_same k b a b same refl))
    (λ k k_in differ apart. raised_there uses b k a b units
    (apart_place b k a b b_in k_in a_in b_in differ (λ _ own. differ own) (λ _ same. apart same)))

-- and any other
pub spent-third : (uses : List ℕ) (banks a b units i : ℕ) → banks ≤ 64 → a < 65 → b < 65 → i < 65 → i ≢ a → i ≢ b → total (use_in (raised uses a b units) i) (others_of banks i) ≡ total (use_in uses i) (others_of banks i)
spent-third uses banks a b units i few a_in b_in i_in not_first not_second =
    total_same (use_in (raised uses a b units) i) (use_in uses i) (others_of banks i)
    (λ k at'. let is = others-in banks i k at' in
    raised_there uses i k a b units
    (apart_place i k a b i_in (omega (arith, is.0)) a_in b_in is.1 (λ own _. not_first own) (λ own _. not_second own)))
