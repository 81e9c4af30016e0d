-- Tables of lines, and what lines add up to.
use Rattle.std.proofs.Common.{ℕ, zero, suc, ◌≡◌, ◌+◌, ◌*◌, ◌≤◌, ◌<◌, List, [], ◌∷◌, refl, sym, subst, ◌∙◌, arith, inl, inr, length, get_or, replicate, get_or-set_same, get_or-set_other}
use Rattle.std.proofs.Math.ListN.{set}
use Rattle.std.proofs.lemmas.Bool.{cases_eq}
use Rattle.fx_rules.specs.Lists.{total}

-- a sum of numbers that are each at most one
pub total-most : (xs : List ℕ) (most : ℕ) → ((k : ℕ) → get_or xs k 0 ≤ most) → total (λ n. n) xs ≤ length xs * most
total-most [] most each' = omega arith
total-most (x ∷ xs) most each' = omega (arith, each' 0, total-most xs most (λ k. each' (suc k)))

-- a sum with one number changed
pub total-changed : (xs : List ℕ) (i n : ℕ) → i < length xs → total (λ m. m) (set xs i n) + get_or xs i 0 ≡ total (λ m. m) xs + n
total-changed [] i n within = absurd (omega arith)
total-changed (x ∷ xs) zero n within = omega arith
total-changed (x ∷ xs) (suc i) n within = omega (arith, total-changed xs i n (omega arith))

-- a table of one entry
pub replicate-at : {X : Type 0} (entry : X) (n k : ℕ) → get_or (replicate n entry) k entry ≡ entry
replicate-at entry zero k = refl
replicate-at entry (suc n) zero = refl
replicate-at entry (suc n) (suc k) = replicate-at entry n k

-- a bank with which there is no line, after another's line fell
pub none-kept : (xs : List ℕ) (i own n : ℕ) → i < length xs → n ≤ get_or xs i 0 → get_or xs own 0 ≡ 0 → get_or (set xs i n) own 0 ≡ 0
none-kept xs i own n within fell none =
    elim (cases_eq own i) [
      | inl same ↦ subst (λ (j : ℕ). get_or (set xs i n) j 0 ≡ 0) (sym same)
          (omega (arith, get_or-set_same xs i n 0 within, subst (λ (j : ℕ). get_or xs j 0 ≡ 0) same none))
      | inr other ↦ get_or-set_other xs i own n 0 other ∙ none
    ]
