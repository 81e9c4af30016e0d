-- Sums over the other banks of a session.
use Rattle.std.proofs.Common.{ℕ, zero, suc, ◌≡◌, ◌≢◌, ◌+◌, ◌*◌, ◌≤◌, ◌<◌, Bool, not, cond, eqb, List, [], ◌∷◌, map, inl, inr, refl, ap, sym, ◌∙◌, arith}
use Rattle.std.specs.List.{filter}
use Rattle.std.proofs.lemmas.Bool.{cases_Bool, cases_eq, cond-true, cond-false, eq-eqb, ne_eqb, not_from_true, not_from_false}
use Rattle.fx_rules.specs.Lists.{total, below}
use Rattle.fx_rules.specs.Session.{Header, bank_count}
use Rattle.fx_rules.specs.State.{others}
use Rattle.fx_rules.proofs.ListLemmas.{total-append, filter_cons_true, filter_cons_false}

pub total_rises : (f g : ℕ → ℕ) (xs : List ℕ) → ((x : ℕ) → f x ≤ g x) → total f xs ≤ total g xs
total_rises f g [] less = omega arith
total_rises f g (x ∷ xs) less = omega (arith, less x, total_rises f g xs less)

pub total_adds : (f g d : ℕ → ℕ) (xs : List ℕ) → ((x : ℕ) → g x ≡ f x + d x) → total g xs ≡ total f xs + total d xs
total_adds f g d [] adds = refl
total_adds f g d (x ∷ xs) adds = omega (arith, adds x, total_adds f g d xs adds)

pub total_map : {X : Type 0} (f : X → ℕ) (make : ℕ → X) (xs : List ℕ) → total f (map make xs) ≡ total (λ x. f (make x)) xs
total_map f make [] = refl
total_map f make (x ∷ xs) = ap (λ n. f (make x) + n) (total_map f make xs)

no_more : (n : ℕ) → n ≡ 0 + n
no_more n = omega arith

-- a sum over the items that pass is one over all, in which those that do not pass count for nothing
total_passed : (f : ℕ → ℕ) (keep : ℕ → Bool) (xs : List ℕ) → total f (filter keep xs) ≡ total (λ x. cond (keep x) (f x) 0) xs
total_passed f keep [] = refl
total_passed f keep (x ∷ xs) = elim (cases_Bool (keep x)) [
  | inl is ↦ ap (total f) (filter_cons_true keep x xs is) ∙ ap (λ n. f x + n) (total_passed f keep xs)
      ∙ ap (λ n. n + total (λ y. cond (keep y) (f y) 0) xs) (sym (cond-true (keep x) (f x) 0 is))
  | inr isnt ↦ ap (total f) (filter_cons_false keep x xs isnt) ∙ total_passed f keep xs ∙ no_more (total (λ y. cond (keep y) (f y) 0) xs)
      ∙ ap (λ n. n + total (λ y. cond (keep y) (f y) 0) xs) (sym (cond-false (keep x) (f x) 0 isnt))
]

below_none : (g : ℕ → ℕ) (n : ℕ) → ((k : ℕ) → k < n → g k ≡ 0) → total g (below n) ≡ 0
below_none g zero none = refl
below_none g (suc n) none =
    omega (arith, total-append g (below n) (n ∷ []), below_none g n (λ k within. none k (omega (arith, within))), none n (omega arith))

below_one : (g : ℕ → ℕ) (n m : ℕ) → m < n → ((k : ℕ) → k ≢ m → g k ≡ 0) → total g (below n) ≡ g m
below_one g zero m within none = absurd (omega (arith, within))
below_one g (suc n) m within none = elim (cases_eq m n) [
  | inl last ↦
      omega (arith, total-append g (below n) (n ∷ []), below_none g n (λ k k_in. none k (λ same. omega (arith, k_in, same, last))), ap g last)
  | inr before ↦
      omega (arith, total-append g (below n) (n ∷ []), below_one g n m (omega (arith, within, before)) none, none n (λ same. before (sym same)))
]

below_most : (g : ℕ → ℕ) (n most : ℕ) → ((k : ℕ) → k < n → g k ≤ most) → total g (below n) ≤ n * most
below_most g zero most each = omega arith
below_most g (suc n) most each =
    omega (arith, total-append g (below n) (n ∷ []), below_most g n most (λ k within. each k (omega (arith, within))), each n (omega arith))

-- what counts of another bank, and of the bank itself
counts_of : (ℕ → ℕ) → ℕ → ℕ → ℕ
counts_of f i k = cond (not (eqb k i)) (f k) 0

counts_all : (h : Header) (i : ℕ) (f : ℕ → ℕ) → total f (others h i) ≡ total (counts_of f i) (below (bank_count h))
unfolding counts_of
counts_all h i f = total_passed f (λ k. not (eqb k i)) (below (bank_count h))

counts_other : (f : ℕ → ℕ) (i k : ℕ) → k ≢ i → counts_of f i k ≡ f k
unfolding counts_of
counts_other f i k differ = cond-true (not (eqb k i)) (f k) 0 (not_from_false (eqb k i) (ne_eqb k i differ))

counts_own : (f : ℕ → ℕ) (i k : ℕ) → k ≡ i → counts_of f i k ≡ 0
unfolding counts_of
counts_own f i k same = cond-false (not (eqb k i)) (f k) 0 (not_from_true (eqb k i) (eq-eqb k i same))

-- a sum over the other banks in which one alone counts
pub total_others-one : (h : Header) (i j : ℕ) (f : ℕ → ℕ) → j < bank_count h → j ≢ i → ((k : ℕ) → k ≢ j → f k ≡ 0) → total f (others h i) ≡ f j
total_others-one h i j f j_in differ none =
    counts_all h i f
    ∙ below_one (counts_of f i) (bank_count h) j j_in (λ k other. elim (cases_eq k i) [
      | inl own ↦ counts_own f i k own
      | inr not_own ↦ counts_other f i k not_own ∙ none k other
    ])
    ∙ counts_other f i j differ

-- one in which none does
pub total_others-none : (h : Header) (i : ℕ) (f : ℕ → ℕ) → ((k : ℕ) → f k ≡ 0) → total f (others h i) ≡ 0
total_others-none h i f none =
    counts_all h i f
    ∙ below_none (counts_of f i) (bank_count h) (λ k _. elim (cases_eq k i) [
      | inl own ↦ counts_own f i k own
      | inr not_own ↦ counts_other f i k not_own ∙ none k
    ])

-- one of numbers that are bounded
pub total_others-most : (h : Header) (i most : ℕ) (f : ℕ → ℕ) → ((k : ℕ) → k < bank_count h → k ≢ i → f k ≤ most) → total f (others h i) ≤ bank_count h * most
total_others-most h i most f each =
    omega (
      arith,
      counts_all h i f,
      below_most (counts_of f i) (bank_count h) most (λ k k_in. elim (cases_eq k i) [
        | inl own ↦ omega (arith, counts_own f i k own)
        | inr not_own ↦ omega (arith, counts_other f i k not_own, each k k_in not_own)
      ]),
    )
