-- Amounts by bank: their sums, and how many of them are something.
use Rattle.std.proofs.Common.{ℕ, zero, suc, ◌≡◌, ◌+◌, ◌≤◌, ◌<◌, ◌-◌, List, [], ◌∷◌, length, get_or, set, min, cond, eqb, inl, inr, refl, ap, sym, ◌∙◌, arith}
use Rattle.std.proofs.lemmas.Bool.{cases_lt, cases_eq, eq-eqb, ne_eqb}
use Rattle.std.proofs.lemmas.List.{get_or-set_same, get_or-set_other}
use Rattle.fx_rules.specs.Lists.{total}
use Rattle.fx_rules.proofs.ListLemmas.{total-set}

-- the amount at a place
abbrev pub at : List ℕ → ℕ → ℕ
at xs i = get_or xs i 0

abbrev pub sum : List ℕ → ℕ
sum xs = total (λ n. n) xs

-- 1 where a number is something
abbrev pub sign : ℕ → ℕ
sign zero = 0
sign (suc n) = 1

abbrev pub some : List ℕ → ℕ
some xs = total sign xs

pub sign_some : (n : ℕ) → 1 ≤ n → sign n ≡ 1
sign_some zero has = absurd (omega arith)
sign_some (suc n) has = refl

pub sign_most : (n : ℕ) → sign n ≤ 1
sign_most zero = omega arith
sign_most (suc n) = omega arith

-- what is something stands within
pub at_within : (xs : List ℕ) (i : ℕ) → 1 ≤ at xs i → i < length xs
at_within [] i has = absurd (omega arith)
at_within (x ∷ xs) zero has = omega arith
at_within (x ∷ xs) (suc i) has = omega (arith, at_within xs i has)

pub some_at : (xs : List ℕ) (i : ℕ) → 1 ≤ at xs i → 1 ≤ some xs
some_at [] i has = absurd (omega arith)
some_at (zero ∷ xs) zero has = absurd (omega arith)
some_at (suc x ∷ xs) zero has = omega arith
some_at (x ∷ xs) (suc i) has = omega (arith, some_at xs i has)

-- all are nothing
pub sum_none : (xs : List ℕ) → ((k : ℕ) → k < length xs → at xs k ≡ 0) → sum xs ≡ 0
sum_none [] none = refl
sum_none (x ∷ xs) none =
    let here : x ≡ 0 = none 0 (omega arith) in
    let rest : sum xs ≡ 0 = sum_none xs (λ k within. none (suc k) (omega arith)) in
    omega arith

pub none_at : (xs : List ℕ) (k : ℕ) → sum xs ≡ 0 → at xs k ≡ 0
none_at [] k is = refl
none_at (x ∷ xs) zero is = omega arith
none_at (x ∷ xs) (suc k) is = none_at xs k (omega arith)

-- as many as there are banks, where none is in both
pub some_apart : (xs ys : List ℕ) → length xs ≡ length ys → ((k : ℕ) → 1 ≤ at xs k → at ys k ≡ 0) → some xs + some ys ≤ length xs
some_apart [] [] same apart = omega arith
some_apart [] (y ∷ ys) same apart = absurd (omega arith)
some_apart (x ∷ xs) [] same apart = absurd (omega arith)
some_apart (zero ∷ xs) (zero ∷ ys) same apart = let rest : some xs + some ys ≤ length xs = some_apart xs ys (omega arith) (λ k has. apart (suc k) has) in omega arith
some_apart (zero ∷ xs) (suc y ∷ ys) same apart = let rest : some xs + some ys ≤ length xs = some_apart xs ys (omega arith) (λ k has. apart (suc k) has) in omega arith
some_apart (suc x ∷ xs) (zero ∷ ys) same apart = let rest : some xs + some ys ≤ length xs = some_apart xs ys (omega arith) (λ k has. apart (suc k) has) in omega arith
some_apart (suc x ∷ xs) (suc y ∷ ys) same apart = let no : suc y ≡ 0 = apart 0 (omega arith) in absurd (omega arith)

-- What is left once a part of one amount is taken.

less_in : (before after here m : ℕ) → after + here ≡ before + (here - m) → m ≤ here → after + m ≡ before
less_in before after here m is most = omega arith

pub sum-taken : (xs : List ℕ) (i m : ℕ) → i < length xs → m ≤ at xs i → sum (set xs i (at xs i - m)) + m ≡ sum xs
sum-taken xs i m within most = less_in (sum xs) (sum (set xs i (at xs i - m))) (at xs i) m (total-set (λ n. n) xs i (at xs i - m) 0 within) most

pub some-taken : (xs : List ℕ) (i m : ℕ) → i < length xs → 1 ≤ at xs i → some (set xs i (at xs i - m)) + 1 ≡ some xs + sign (at xs i - m)
some-taken xs i m within has =
    ap (λ n. some (set xs i (at xs i - m)) + n) (sym (sign_some (at xs i) has)) ∙ total-set sign xs i (at xs i - m) 0 within

pub at-taken : (xs : List ℕ) (i m k : ℕ) → i < length xs → m ≤ at xs i → cond (eqb i k) m 0 + at (set xs i (at xs i - m)) k ≡ at xs k
at-taken xs i m k within most =
    elim (cases_eq i k) [
      | inl same ↦
          let here : cond (eqb i k) m 0 ≡ m = ap (λ t. cond t m 0) (eq-eqb i k same) in
          let now : at (set xs i (at xs i - m)) k ≡ at xs i - m = ap (at (set xs i (at xs i - m))) (sym same) ∙ get_or-set_same xs i (at xs i - m) 0 within in
          let was : at xs k ≡ at xs i = ap (at xs) (sym same) in
          omega arith
      | inr other ↦
          let here : cond (eqb i k) m 0 ≡ 0 = ap (λ t. cond t m 0) (ne_eqb i k other) in
          let now : at (set xs i (at xs i - m)) k ≡ at xs k = get_or-set_other xs i k (at xs i - m) 0 (λ same. other (sym same)) in
          omega arith
    ]

-- The lesser of two.

pub lesser_left : (a b m : ℕ) → m ≡ min a b → m ≤ a
lesser_left a b m is = omega arith

pub lesser_right : (a b m : ℕ) → m ≡ min a b → m ≤ b
lesser_right a b m is = omega arith

pub some_lesser : (a b m : ℕ) → 1 ≤ a → 1 ≤ b → m ≡ min a b → 1 ≤ m
some_lesser a b m p q is = omega arith

zero_left : (a b m : ℕ) → m ≡ min a b → a ≤ b → a - m ≡ 0
zero_left a b m is less = omega arith

zero_right : (a b m : ℕ) → m ≡ min a b → b ≤ a → b - m ≡ 0
zero_right a b m is more = omega arith

-- one of the two has nothing left
pub one_done : (a b m : ℕ) → m ≡ min a b → sign (a - m) + sign (b - m) ≤ 1
one_done a b m is =
    elim (cases_lt a b) [
      | inl less ↦ let none : sign (a - m) ≡ 0 = ap sign (zero_left a b m is (omega arith)) in omega (arith, sign_most (b - m))
      | inr more ↦ let none : sign (b - m) ≡ 0 = ap sign (zero_right a b m is more) in omega (arith, sign_most (a - m))
    ]
