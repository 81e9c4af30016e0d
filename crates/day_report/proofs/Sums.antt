-- Sums over lists, and over the numbers below one.
use Rattle.std.proofs.Common.{ℕ, zero, suc, ◌≡◌, ◌+◌, ◌*◌, ◌≤◌, ◌<◌, Bool, true, false, ◌&&◌, eqb, cond, List, [], ◌∷◌, ◌++◌, inl, inr, refl, ap, sym, ◌∙◌, arith}
use Rattle.std.proofs.lemmas.Bool.{cases_Bool, cases_eq, eq-eqb, ne_eqb}
use Rattle.std.specs.List.{filter}
use Rattle.fx_rules.specs.Lists.{Each, total, below}
use Rattle.fx_rules.proofs.ListLemmas.{total-append, filter_cons_true, filter_cons_false}

-- a number where a test holds
abbrev pub when : Bool → ℕ → ℕ
when test n = cond test n 0

pub when_most : (test : Bool) (n : ℕ) → when test n ≤ n
when_most true n = omega arith
when_most false n = omega arith

pub total_push : {X : Type 0} (f : X → ℕ) (xs : List X) (x : X) → total f (xs ++ x ∷ []) ≡ total f xs + f x
total_push f xs x = let one : total f (xs ++ x ∷ []) ≡ total f xs + (f x + 0) = total-append f xs (x ∷ []) in omega arith

pub total_agree : {X : Type 0} (f g : X → ℕ) (xs : List X) → ((x : X) → f x ≡ g x) → total f xs ≡ total g xs
total_agree f g [] agree = refl
total_agree f g (x ∷ xs) agree =
    let here : f x ≡ g x = agree x in
    let rest : total f xs ≡ total g xs = total_agree f g xs agree in
    omega arith

pub total_le : {X : Type 0} (f g : X → ℕ) (xs : List X) → Each (λ x. f x ≤ g x) xs → total f xs ≤ total g xs
total_le f g [] all = omega arith
total_le f g (x ∷ xs) all = let rest : total f xs ≤ total g xs = total_le f g xs all.1 in omega (arith, all.0)

pub total_zero : {X : Type 0} (xs : List X) → total (λ (_ : X). 0) xs ≡ 0
total_zero [] = refl
total_zero {X = X} (x ∷ xs) = let rest : total (λ (_ : X). 0) xs ≡ 0 = total_zero xs in omega arith

pub total_add : {X : Type 0} (f g : X → ℕ) (xs : List X) → total (λ x. f x + g x) xs ≡ total f xs + total g xs
total_add f g [] = refl
total_add {X = X} f g (x ∷ xs) = let rest : total (λ (y : X). f y + g y) xs ≡ total f xs + total g xs = total_add f g xs in omega arith

pub total_mul : {X : Type 0} (f : X → ℕ) (k : ℕ) (xs : List X) → total (λ x. f x * k) xs ≡ total f xs * k
total_mul f k [] = omega arith
total_mul {X = X} f k (x ∷ xs) = let rest : total (λ (y : X). f y * k) xs ≡ total f xs * k = total_mul f k xs in omega arith

-- sums in two directions
pub total_swap : {X Y : Type 0} (f : X → Y → ℕ) (xs : List X) (ys : List Y) → total (λ x. total (f x) ys) xs ≡ total (λ y. total (λ x. f x y) xs) ys
total_swap {Y = Y} f [] ys = sym (total_zero ys)
total_swap {X = X} {Y = Y} f (x ∷ xs) ys =
    let rest : total (λ (a : X). total (f a) ys) xs ≡ total (λ (y : Y). total (λ (a : X). f a y) xs) ys = total_swap f xs ys in
    ap (λ n. total (f x) ys + n) rest ∙ sym (total_add (f x) (λ y. total (λ a. f a y) xs) ys)

pub total_filter : {X : Type 0} (f : X → ℕ) (test : X → Bool) (xs : List X) → total f (filter test xs) ≡ total (λ x. when (test x) (f x)) xs
total_filter f test [] = refl
total_filter {X = X} f test (x ∷ xs) =
    let rest : total f (filter test xs) ≡ total (λ (y : X). when (test y) (f y)) xs = total_filter f test xs in
    elim (cases_Bool (test x)) [
      | inl kept ↦
          ap (total f) (filter_cons_true test x xs kept) ∙ ap (λ n. f x + n) rest
          ∙ ap (λ t. when t (f x) + total (λ y. when (test y) (f y)) xs) (sym kept)
      | inr dropped ↦
          let none : total (λ (y : X). when (test y) (f y)) xs ≡ 0 + total (λ (y : X). when (test y) (f y)) xs = omega arith in
          ap (total f) (filter_cons_false test x xs dropped) ∙ rest ∙ none
          ∙ ap (λ t. when t (f x) + total (λ y. when (test y) (f y)) xs) (sym dropped)
    ]

-- at no number below n but one
pub none_below : (n v a : ℕ) → n ≤ v → total (λ k. when (eqb v k) a) (below n) ≡ 0
none_below zero v a past = refl
none_below (suc n) v a past =
    let here : when (eqb v n) a ≡ 0 = ap (λ t. when t a) (ne_eqb v n (λ same. omega arith)) in
    let rest : total (λ k. when (eqb v k) a) (below n) ≡ 0 = none_below n v a (omega arith) in
    total_push (λ k. when (eqb v k) a) (below n) n ∙ omega arith

pub pick_below : (n v a : ℕ) → v < n → total (λ k. when (eqb v k) a) (below n) ≡ a
pick_below zero v a within = absurd (omega arith)
pick_below (suc n) v a within =
    let push : total (λ k. when (eqb v k) a) (below (suc n)) ≡ total (λ k. when (eqb v k) a) (below n) + when (eqb v n) a = total_push (λ k. when (eqb v k) a) (below n) n in
    elim (cases_eq v n) [
      | inl same ↦
          let here : when (eqb v n) a ≡ a = ap (λ t. when t a) (eq-eqb v n same) in
          let rest : total (λ k. when (eqb v k) a) (below n) ≡ 0 = none_below n v a (omega arith) in
          omega arith
      | inr other ↦
          let here : when (eqb v n) a ≡ 0 = ap (λ t. when t a) (ne_eqb v n other) in
          let rest : total (λ k. when (eqb v k) a) (below n) ≡ a = pick_below n v a (omega arith) in
          omega arith
    ]

-- a number that two others name is in one cell
pub cells : (n c a b : ℕ) → a < n → b < n → total (λ i. total (λ j. when (eqb a i && eqb b j) c) (below n)) (below n) ≡ c
cells n c a b p q =
    let row : (i : ℕ) → total (λ j. when (eqb a i && eqb b j) c) (below n) ≡ when (eqb a i) c = λ i.
    elim (cases_Bool (eqb a i)) [
      | inl is ↦
          total_agree (λ j. when (eqb a i && eqb b j) c) (λ j. when (eqb b j) c) (below n) (λ j. ap (λ t. when (t && eqb b j) c) is)
          ∙ pick_below n b c q ∙ ap (λ t. when t c) (sym is)
      | inr other ↦
          total_agree (λ j. when (eqb a i && eqb b j) c) (λ _. 0) (below n) (λ j. ap (λ t. when (t && eqb b j) c) other)
          ∙ total_zero (below n) ∙ ap (λ t. when t c) (sym other)
    ] in
    total_agree (λ i. total (λ j. when (eqb a i && eqb b j) c) (below n)) (λ i. when (eqb a i) c) (below n) row
    ∙ pick_below n a c p
