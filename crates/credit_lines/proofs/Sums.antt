-- Sums over the other banks: what one that changes does to them.
use Rattle.std.proofs.Common.{ℕ, zero, suc, ◌≡◌, ◌≢◌, ◌+◌, ◌*◌, ◌≤◌, ◌<◌, not, cond, eqb, [], ◌∷◌, inl, inr, refl, ap, ap₂, sym, subst, ◌∙◌, arith, replicate}
use Rattle.std.specs.List.{filter}
use Rattle.std.proofs.lemmas.Bool.{cases_eq, cond-true, cond-false, eq-eqb, ne_eqb, not_from_true, not_from_false}
use Rattle.std.proofs.lemmas.List.{length-replicate}
use Rattle.std.proofs.lemmas.List.Elements.{filter-append}
use Rattle.fx_rules.specs.Lists.{total, below}
use Rattle.fx_rules.specs.Session.{Header, bank_count}
use Rattle.fx_rules.proofs.ListLemmas.{total-append, filter_cons_true, filter_cons_false}
use Rattle.fx_rules.proofs.Totals.{total_adds, total_others-one, total_others-most}
use Rattle.credit_lines.specs.Credit.{others_of}

-- a header of so many banks
of_banks : ℕ → Header
of_banks n = record { version = 1; banks = replicate n []; pairs = []; limits = []; totals = [] }

counts_banks : (n : ℕ) → bank_count (of_banks n) ≡ n
unfolding of_banks
counts_banks n = length-replicate n []

others-only : (n i j : ℕ) (f : ℕ → ℕ) → j < n → j ≢ i → ((k : ℕ) → k ≢ j → f k ≡ 0) → total f (others_of n i) ≡ f j
others-only n i j f j_in differ none =
    subst (λ m. total f (others_of m i) ≡ f j) (counts_banks n)
    (total_others-one (of_banks n) i j f (subst (λ m. j < m) (sym (counts_banks n)) j_in) differ none)

-- of numbers that are bounded
pub others-most : (n i most : ℕ) (f : ℕ → ℕ) → ((k : ℕ) → k < n → k ≢ i → f k ≤ most) → total f (others_of n i) ≤ n * most
others-most n i most f each =
    subst (λ m. total f (others_of m i) ≤ m * most) (counts_banks n)
    (total_others-most (of_banks n) i most f (λ k k_in. each k (subst (λ m. k < m) (counts_banks n) k_in)))

last_of : (f : ℕ → ℕ) (i n : ℕ) → total f (others_of (suc n) i) ≡ total f (others_of n i) + total f (filter (λ other. not (eqb other i)) (n ∷ []))
last_of f i n =
    ap (total f) (filter-append (λ other. not (eqb other i)) (below n) (n ∷ []))
    ∙ total-append f (others_of n i) (filter (λ other. not (eqb other i)) (n ∷ []))

last-agrees : (f g : ℕ → ℕ) (i n : ℕ) → (n ≢ i → f n ≡ g n) → total f (filter (λ other. not (eqb other i)) (n ∷ [])) ≡ total g (filter (λ other. not (eqb other i)) (n ∷ []))
last-agrees f g i n same = elim (cases_eq n i) [
  | inl own ↦
      let none = filter_cons_false (λ other. not (eqb other i)) n [] (not_from_true (eqb n i) (eq-eqb n i own)) in
      ap (total f) none ∙ sym (ap (total g) none)
  | inr other ↦
      let one = filter_cons_true (λ other. not (eqb other i)) n [] (not_from_false (eqb n i) (ne_eqb n i other)) in
      ap (total f) one ∙ ap (λ u. u + 0) (same other) ∙ sym (ap (total g) one)
]

-- where each number is the same, the sum is
pub others-agree : (f g : ℕ → ℕ) (n i : ℕ) → ((k : ℕ) → k < n → k ≢ i → f k ≡ g k) → total f (others_of n i) ≡ total g (others_of n i)
others-agree f g zero i same = refl
others-agree f g (suc n) i same =
    last_of f i n
    ∙ ap₂ (λ u v. u + v) (others-agree f g n i (λ k k_in apart. same k (omega (arith, k_in)) apart)) (last-agrees f g i n (λ apart. same n (omega arith) apart))
    ∙ sym (last_of g i n)

added : ℕ → ℕ → ℕ → ℕ
added j units k = cond (eqb k j) units 0

added-here : (j units k : ℕ) → k ≡ j → added j units k ≡ units
unfolding added
added-here j units k same = cond-true (eqb k j) units 0 (eq-eqb k j same)

added-other : (j units k : ℕ) → k ≢ j → added j units k ≡ 0
unfolding added
added-other j units k other = cond-false (eqb k j) units 0 (ne_eqb k j other)

-- where one number is so much more and the others are the same, so is the sum
pub others-more : (f g : ℕ → ℕ) (n i j units : ℕ) → j < n → j ≢ i → g j ≡ f j + units → ((k : ℕ) → k < n → k ≢ i → k ≢ j → g k ≡ f k) → total g (others_of n i) ≡ total f (others_of n i) + units
others-more f g n i j units j_in differ here same =
    let both : ℕ → ℕ = λ k. f k + added j units k in
    let more : (k : ℕ) → k < n → k ≢ i → g k ≡ both k = λ k k_in apart. elim (cases_eq k j) [
      | inl own ↦ omega (arith, ap g own, here, ap f own, added-here j units k own)
      | inr other ↦ omega (arith, same k k_in apart other, added-other j units k other)
    ] in
    omega (
      arith,
      others-agree g both n i more,
      total_adds f both (added j units) (others_of n i) (λ k. refl),
      others-only n i j (added j units) j_in differ (added-other j units),
      added-here j units j refl,
    )
