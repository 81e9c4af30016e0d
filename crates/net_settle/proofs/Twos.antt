-- Sums over each two banks, and over what they pay each other.
use Rattle.std.proofs.Common.{ℕ, zero, suc, ◌≡◌, ◌+◌, ◌-◌, ◌≤◌, ◌<◌, Bool, true, false, ◌&&◌, ◌||◌, nat_lt, eqb, cond, List, [], ◌∷◌, map, inl, inr, refl, ap, sym, ◌∙◌, arith}
use Rattle.std.specs.List.{filter, flat_map}
use Rattle.std.proofs.lemmas.Bool.{cases_lt, cases_Bool, cases_eq, cases_order, eq-eqb, ne_eqb, lt-ltb, le-ltb}
use Rattle.fx_rules.specs.Lists.{total, below}
use Rattle.fx_rules.proofs.ListLemmas.{total-append}
use Rattle.day_report.proofs.Sums.{when, when_most, total_push, total_agree, total_add, total_swap, total_zero, total_filter, none_below, pick_below, cells}
use Rattle.day_report.proofs.Balance.{when_total}
use Rattle.net_settle.specs.declared.payment.Payment.{Payment}
use Rattle.net_settle.specs.Payments.{pay, pay_two, got_by, paid_by, moves}

pub total-flat_map : {X Y : Type 0} (f : Y → ℕ) (g : X → List Y) (xs : List X) → total f (flat_map g xs) ≡ total (λ x. total f (g x)) xs
total-flat_map f g [] = refl
total-flat_map f g (x ∷ xs) = total-append f (g x) (flat_map g xs) ∙ ap (λ n. total f (g x) + n) (total-flat_map f g xs)

pub total-map : {X : Type 0} (f : X → ℕ) (xs : List X) → total (λ n. n) (map f xs) ≡ total f xs
total-map f [] = refl
total-map f (x ∷ xs) = ap (λ n. f x + n) (total-map f xs)

pub le_below : (f g : ℕ → ℕ) (n : ℕ) → ((k : ℕ) → k < n → f k ≤ g k) → total f (below n) ≤ total g (below n)
le_below f g zero all = omega arith
le_below f g (suc n) all = omega (arith, total_push f (below n) n, total_push g (below n) n, all n (omega arith), le_below f g n (λ k within. all k (omega arith)))

-- a difference either way
pub sum-cross : (f g : ℕ → ℕ) (xs : List ℕ) → total (λ k. f k - g k) xs + total g xs ≡ total (λ k. g k - f k) xs + total f xs
sum-cross f g [] = refl
sum-cross f g (x ∷ xs) =
    let rest : total (λ k. f k - g k) xs + total g xs ≡ total (λ k. g k - f k) xs + total f xs = sum-cross f g xs in
    omega arith

when_plus : (t : Bool) (m n : ℕ) → when t (m + n) ≡ when t m + when t n
when_plus true m n = refl
when_plus false m n = refl

pub when_and : (s t : Bool) (m : ℕ) → when (s && t) m ≡ when s (when t m)
when_and true t m = refl
when_and false t m = refl

pub when_or : (s t : Bool) (m : ℕ) → when (s || t) m ≤ when s m + when t m
when_or true t m = omega (arith, when_most t m)
when_or false t m = omega arith

pub when_zero : (t : Bool) → when t 0 ≡ 0
when_zero true = refl
when_zero false = refl

-- One cell at most.

pub picked : (n v a : ℕ) → total (λ k. when (eqb v k) a) (below n) ≤ a
picked n v a =
    elim (cases_lt v n) [
      | inl within ↦ let is : total (λ k. when (eqb v k) a) (below n) ≡ a = pick_below n v a within in omega arith
      | inr past ↦ let none : total (λ k. when (eqb v k) a) (below n) ≡ 0 = none_below n v a past in omega arith
    ]

pub cells-most : (n c a b : ℕ) → total (λ i. total (λ j. when (eqb a i && eqb b j) c) (below n)) (below n) ≤ c
cells-most n c a b =
    let row : (i : ℕ) → total (λ j. when (eqb a i && eqb b j) c) (below n) ≤ when (eqb a i) c = λ i.
    elim (cases_Bool (eqb a i)) [
      | inl is ↦
          let here : total (λ j. when (eqb a i && eqb b j) c) (below n) ≡ total (λ j. when (eqb b j) c) (below n) =
          total_agree (λ j. when (eqb a i && eqb b j) c) (λ j. when (eqb b j) c) (below n) (λ j. ap (λ t. when (t && eqb b j) c) is) in
          let all : when (eqb a i) c ≡ c = ap (λ t. when t c) is in
          omega (arith, picked n b c)
      | inr other ↦
          let none : total (λ j. when (eqb a i && eqb b j) c) (below n) ≡ 0 =
          total_agree (λ j. when (eqb a i && eqb b j) c) (λ _. 0) (below n) (λ j. ap (λ t. when (t && eqb b j) c) other) ∙ total_zero (below n) in
          omega arith
    ] in
    omega (arith, le_below (λ i. total (λ j. when (eqb a i && eqb b j) c) (below n)) (λ i. when (eqb a i) c) n (λ i within. row i), picked n a c)

-- what stands in one cell, asked for by the cell
pub cell-is : (E : ℕ → ℕ → ℕ) (a b x y : ℕ) → when (eqb b y && eqb a x) (E a b) ≡ when (eqb x a && eqb y b) (E x y)
cell-is E a b x y =
    elim (cases_eq x a) [
      | inl same ↦ elim (cases_eq y b) [
        | inl also ↦
            ap (λ t. when (t && eqb a x) (E a b)) (eq-eqb b y (sym also)) ∙ ap (λ t. when (true && t) (E a b)) (eq-eqb a x (sym same))
            ∙ ap (λ i. E i b) (sym same) ∙ ap (E x) (sym also)
            ∙ ap (λ t. when (true && t) (E x y)) (sym (eq-eqb y b also)) ∙ ap (λ t. when (t && eqb y b) (E x y)) (sym (eq-eqb x a same))
        | inr other ↦
            ap (λ t. when (t && eqb a x) (E a b)) (ne_eqb b y (λ is. other (sym is)))
            ∙ ap (λ t. when (true && t) (E x y)) (sym (ne_eqb y b other)) ∙ ap (λ t. when (t && eqb y b) (E x y)) (sym (eq-eqb x a same))
      ]
      | inr other ↦
          when_and (eqb b y) (eqb a x) (E a b) ∙ ap (λ t. when (eqb b y) (when t (E a b))) (ne_eqb a x (λ is. other (sym is))) ∙ when_zero (eqb b y)
          ∙ ap (λ t. when (t && eqb y b) (E x y)) (sym (ne_eqb x a other))
    ]

one-is : (F : ℕ → ℕ) (a x : ℕ) → when (eqb a x) (F a) ≡ when (eqb x a) (F x)
one-is F a x =
    elim (cases_eq x a) [
      | inl same ↦ ap (λ t. when t (F a)) (eq-eqb a x (sym same)) ∙ ap F (sym same) ∙ ap (λ t. when t (F x)) (sym (eq-eqb x a same))
      | inr other ↦ ap (λ t. when t (F a)) (ne_eqb a x (λ is. other (sym is))) ∙ ap (λ t. when t (F x)) (sym (ne_eqb x a other))
    ]

-- Each two, and each of all with each of all.

pub two_sums : (n : ℕ) (P Q : ℕ → ℕ → ℕ) → total (λ a. total (λ b. P a b + Q a b) (below n)) (below n) ≡ total (λ a. total (P a) (below n)) (below n) + total (λ a. total (Q a) (below n)) (below n)
two_sums n P Q =
    total_agree (λ a. total (λ b. P a b + Q a b) (below n)) (λ a. total (P a) (below n) + total (Q a) (below n)) (below n) (λ a. total_add (P a) (Q a) (below n))
    ∙ total_add (λ a. total (P a) (below n)) (λ a. total (Q a) (below n)) (below n)

one_order : (a b m : ℕ) → (a ≡ b → m ≡ 0) → when (nat_lt a b) m + when (nat_lt b a) m ≡ m
one_order a b m own =
    elim (cases_order a b) [
      | inl same ↦
          let p : when (nat_lt a b) m ≡ 0 = ap (λ t. when t m) (le-ltb a b (omega arith)) in
          let q : when (nat_lt b a) m ≡ 0 = ap (λ t. when t m) (le-ltb b a (omega arith)) in
          let none : m ≡ 0 = own same in
          omega arith
      | inr other ↦ elim other [
        | inl before ↦
            let p : when (nat_lt a b) m ≡ m = ap (λ t. when t m) (lt-ltb a b before) in
            let q : when (nat_lt b a) m ≡ 0 = ap (λ t. when t m) (le-ltb b a (omega arith)) in
            omega arith
        | inr past ↦
            let p : when (nat_lt a b) m ≡ 0 = ap (λ t. when t m) (le-ltb a b (omega arith)) in
            let q : when (nat_lt b a) m ≡ m = ap (λ t. when t m) (lt-ltb b a past) in
            omega arith
      ]
    ]

pub upper : (n : ℕ) (M : ℕ → ℕ → ℕ) → ((a : ℕ) → M a a ≡ 0) → total (λ a. total (λ b. M a b + M b a) (filter (nat_lt a) (below n))) (below n) ≡ total (λ a. total (M a) (below n)) (below n)
upper n M own =
    let P : ℕ → ℕ → ℕ = λ a b. when (nat_lt a b) (M a b) in
    let Q : ℕ → ℕ → ℕ = λ a b. when (nat_lt a b) (M b a) in
    let R : ℕ → ℕ → ℕ = λ a b. when (nat_lt b a) (M a b) in
    total_agree (λ a. total (λ b. M a b + M b a) (filter (nat_lt a) (below n))) (λ a. total (λ b. P a b + Q a b) (below n)) (below n)
    (λ a. total_filter (λ b. M a b + M b a) (nat_lt a) (below n)
    ∙ total_agree (λ b. when (nat_lt a b) (M a b + M b a)) (λ b. P a b + Q a b) (below n) (λ b. when_plus (nat_lt a b) (M a b) (M b a)))
    ∙ two_sums n P Q
    ∙ ap (λ m. total (λ a. total (P a) (below n)) (below n) + m) (total_swap Q (below n) (below n))
    ∙ sym (two_sums n P R)
    ∙ total_agree (λ a. total (λ b. P a b + R a b) (below n)) (λ a. total (M a) (below n)) (below n)
    (λ a. total_agree (λ b. P a b + R a b) (M a) (below n) (λ b. one_order a b (M a b) (λ same. ap (M a) (sym same) ∙ own a)))

-- What two banks pay each other.

-- what is counted of a payment, by its banks and its amount
abbrev pub of_banks : (ℕ → ℕ → Bool) → (ℕ → ℕ) → Payment → ℕ
of_banks test w p = when (test p.payer p.payee) (w p.amount)

none_of : (t : Bool) (w : ℕ → ℕ) (m : ℕ) → m ≡ 0 → w 0 ≡ 0 → when t (w m) ≡ 0
none_of t w m is zero' = ap (λ n. when t (w n)) is ∙ ap (when t) zero' ∙ when_zero t

two-total : (c : List ℕ) (test : ℕ → ℕ → Bool) (w : ℕ → ℕ) (a b x y : ℕ) → w 0 ≡ 0
    → total (of_banks test w) (pay_two c a b x y) ≡ when (test b a) (w (x - y)) + when (test a b) (w (y - x))
two-total c test w a b x y zero' =
    let F : Payment → ℕ = of_banks test w in
    let first : List Payment = pay b a c (x - y) ∷ [] in
    let second : List Payment = pay a b c (y - x) ∷ [] in
    elim (cases_order x y) [
      | inl same ↦
          let is : total F (pay_two c a b x y) ≡ 0 =
          ap (λ t. total F (cond t first (cond (nat_lt x y) second []))) (le-ltb y x (omega arith)) ∙ ap (λ t. total F (cond t second [])) (le-ltb x y (omega arith)) in
          let p : when (test b a) (w (x - y)) ≡ 0 = none_of (test b a) w (x - y) (omega arith) zero' in
          let q : when (test a b) (w (y - x)) ≡ 0 = none_of (test a b) w (y - x) (omega arith) zero' in
          omega arith
      | inr other ↦ elim other [
        | inl less ↦
            let is : total F (pay_two c a b x y) ≡ when (test a b) (w (y - x)) + 0 =
            ap (λ t. total F (cond t first (cond (nat_lt x y) second []))) (le-ltb y x (omega arith)) ∙ ap (λ t. total F (cond t second [])) (lt-ltb x y less) in
            let p : when (test b a) (w (x - y)) ≡ 0 = none_of (test b a) w (x - y) (omega arith) zero' in
            omega arith
        | inr more ↦
            let is : total F (pay_two c a b x y) ≡ when (test b a) (w (x - y)) + 0 =
            ap (λ t. total F (cond t first (cond (nat_lt x y) second []))) (lt-ltb y x more) in
            let q : when (test a b) (w (y - x)) ≡ 0 = none_of (test a b) w (y - x) (omega arith) zero' in
            omega arith
      ]
    ]

-- what each two of n banks pay where `D a b` is due to a from b
abbrev pub twos : ℕ → List ℕ → (ℕ → ℕ → ℕ) → List Payment
twos n c D = flat_map (λ a. flat_map (λ b. pay_two c a b (D a b) (D b a)) (filter (nat_lt a) (below n))) (below n)

pub twos-total : (n : ℕ) (c : List ℕ) (test : ℕ → ℕ → Bool) (w : ℕ → ℕ) (D : ℕ → ℕ → ℕ) → w 0 ≡ 0
    → total (of_banks test w) (twos n c D) ≡ total (λ a. total (λ b. when (test b a) (w (D a b - D b a))) (below n)) (below n)
twos-total n c test w D zero' =
    let M : ℕ → ℕ → ℕ = λ a b. when (test b a) (w (D a b - D b a)) in
    let own : (a : ℕ) → M a a ≡ 0 = λ a. none_of (test a a) w (D a a - D a a) (omega arith) zero' in
    total-flat_map (of_banks test w) (λ a. flat_map (λ b. pay_two c a b (D a b) (D b a)) (filter (nat_lt a) (below n))) (below n)
    ∙ total_agree (λ a. total (of_banks test w) (flat_map (λ b. pay_two c a b (D a b) (D b a)) (filter (nat_lt a) (below n)))) (λ a. total (λ b. M a b + M b a) (filter (nat_lt a) (below n))) (below n)
    (λ a. total-flat_map (of_banks test w) (λ b. pay_two c a b (D a b) (D b a)) (filter (nat_lt a) (below n))
    ∙ total_agree (λ b. total (of_banks test w) (pay_two c a b (D a b) (D b a))) (λ b. M a b + M b a) (filter (nat_lt a) (below n))
    (λ b. two-total c test w a b (D a b) (D b a) zero'))
    ∙ upper n M own

pub moves-twos : (n : ℕ) (c : List ℕ) (D : ℕ → ℕ → ℕ) (from to : ℕ) → from < n → to < n → total (moves from to) (twos n c D) ≡ D to from - D from to
moves-twos n c D from to p q =
    let E : ℕ → ℕ → ℕ = λ a b. D a b - D b a in
    twos-total n c (λ x y. eqb x from && eqb y to) (λ m. m) D refl
    ∙ total_agree (λ a. total (λ b. when (eqb b from && eqb a to) (E a b)) (below n)) (λ a. total (λ b. when (eqb to a && eqb from b) (E to from)) (below n)) (below n)
    (λ a. total_agree (λ b. when (eqb b from && eqb a to) (E a b)) (λ b. when (eqb to a && eqb from b) (E to from)) (below n) (λ b. cell-is E a b to from))
    ∙ cells n (E to from) to from q p

pub got-twos : (n : ℕ) (c : List ℕ) (D : ℕ → ℕ → ℕ) (bank : ℕ) → bank < n → total (got_by bank) (twos n c D) ≡ total (λ b. D bank b - D b bank) (below n)
got-twos n c D bank within =
    let E : ℕ → ℕ → ℕ = λ a b. D a b - D b a in
    twos-total n c (λ x y. eqb y bank) (λ m. m) D refl
    ∙ total_agree (λ a. total (λ b. when (eqb a bank) (E a b)) (below n)) (λ a. when (eqb bank a) (total (E bank) (below n))) (below n)
    (λ a. when_total (eqb a bank) (E a) (below n) ∙ one-is (λ x. total (E x) (below n)) a bank)
    ∙ pick_below n bank (total (E bank) (below n)) within

pub paid-twos : (n : ℕ) (c : List ℕ) (D : ℕ → ℕ → ℕ) (bank : ℕ) → bank < n → total (paid_by bank) (twos n c D) ≡ total (λ b. D b bank - D bank b) (below n)
paid-twos n c D bank within =
    let E : ℕ → ℕ → ℕ = λ a b. D a b - D b a in
    twos-total n c (λ x y. eqb x bank) (λ m. m) D refl
    ∙ total_swap (λ a b. when (eqb b bank) (E a b)) (below n) (below n)
    ∙ total_agree (λ b. total (λ a. when (eqb b bank) (E a b)) (below n)) (λ b. when (eqb bank b) (total (λ a. E a bank) (below n))) (below n)
    (λ b. when_total (eqb b bank) (λ a. E a b) (below n) ∙ one-is (λ x. total (λ a. E a x) (below n)) b bank)
    ∙ pick_below n bank (total (λ a. E a bank) (below n)) within

pub sum-twos : (n : ℕ) (c : List ℕ) (D : ℕ → ℕ → ℕ) → total (λ (p : Payment). p.amount) (twos n c D) ≡ total (λ a. total (λ b. D a b - D b a) (below n)) (below n)
sum-twos n c D = twos-total n c (λ x y. true) (λ m. m) D refl
