-- What each two banks pay settles each two, and so the day.
use Rattle.std.proofs.Common.{ℕ, suc, ◌≡◌, ◌+◌, ◌-◌, ◌≤◌, ◌<◌, Bool, true, ◌&&◌, ◌||◌, nat_lt, eqb, cond, pos, ◌-ℤ◌, List, [], ◌∷◌, length, inl, inr, refl, ap, sym, subst, ◌∙◌, arith}
use Rattle.std.specs.Prelude.{◌⊎◌}
use Rattle.std.specs.List.{filter, flat_map}
use Rattle.std.proofs.lemmas.Bool.{cases_lt, cond_both, cases_Bool, ltb-true}
use Rattle.std.proofs.lemmas.Int.{ints}
use Rattle.fx_rules.specs.Lists.{Each, total, below}
use Rattle.fx_rules.specs.Session.{Header, bank_count}
use Rattle.fx_rules.specs.State.{State}
use Rattle.fx_rules.specs.inside.Trade.{IsTrade}
use Rattle.fx_rules.proofs.ListLemmas.{Each-append, filter_cons_true, filter_cons_false}
use Rattle.day_report.specs.Report.{currencies, banks_behind, received, paid}
use Rattle.day_report.specs.Sums.{code_at}
use Rattle.day_report.proofs.Sums.{when}
use Rattle.day_report.proofs.Listing.{each-below, each-kept}
use Rattle.net_settle.specs.declared.payment.Payment.{Payment}
use Rattle.net_settle.specs.Payments.{due, payments_in, between, sum_in, got_by, paid_by, moves, Settles, SettlesEachTwo, IsOfBanks, pay, pay_two, twos_of, bilateral_of, LeastEachTwo}
use Rattle.net_settle.proofs.Amounts.{sign, sign_some, sign_most}
use Rattle.net_settle.proofs.Twos.{sum-cross, le_below, when_or, cells-most, cell-is, two_sums, of_banks, twos-total, moves-twos, got-twos, paid-twos, sum-twos}
use Rattle.net_settle.proofs.Flows.{Absent, CodesStand, dues-received, dues-paid, due-absent, received-absent, paid-absent}
use Rattle.net_settle.proofs.InCurrency.{part-of, by-places, each-flat}
use Rattle.net_settle.proofs.Least.{least_twos}

-- All payments have what those of each two banks have.

each-in : (P : Payment → Type 0) (f : ℕ → List Payment) (xs : List ℕ) → ((x : ℕ) → Each P (f x)) → Each P (flat_map f xs)
each-in P f [] all = tt
each-in P f (x ∷ xs) all = Each-append P (f x) (flat_map f xs) (all x) (each-in P f xs all)

each-two : (P : Payment → Type 0) (c : List ℕ) (a b x y : ℕ) → ((from to m : ℕ) → 1 ≤ m → P (pay from to c m)) → Each P (pay_two c a b x y)
each-two P c a b x y has =
    cond_both (nat_lt y x) (pay b a c (x - y) ∷ []) (cond (nat_lt x y) (pay a b c (y - x) ∷ []) []) (Each P)
    (λ is. (has b a (x - y) (omega (arith, ltb-true y x is)), tt))
    (λ other. cond_both (nat_lt x y) (pay a b c (y - x) ∷ []) [] (Each P) (λ is. (has a b (y - x) (omega (arith, ltb-true x y is)), tt)) (λ none. tt))

each-twos : (h : Header) (S : State) (P : Payment → Type 0) (c : List ℕ) → ((from to m : ℕ) → 1 ≤ m → P (pay from to c m)) → Each P (twos_of h S c)
each-twos h S P c has =
    each-in P (λ a. flat_map (λ b. pay_two c a b (due h S a b c) (due h S b a c)) (banks_behind h a)) (below (bank_count h))
    (λ a. each-in P (λ b. pay_two c a b (due h S a b c) (due h S b a c)) (banks_behind h a) (λ b. each-two P c a b (due h S a b c) (due h S b a c) has))

-- They are made between banks of the session.

each-where : (Q : ℕ → Type 0) (P : Payment → Type 0) (f : ℕ → List Payment) (xs : List ℕ) → ((x : ℕ) → Q x → Each P (f x)) → Each Q xs → Each P (flat_map f xs)
each-where Q P f [] all are = tt
each-where Q P f (x ∷ xs) all are = Each-append P (f x) (flat_map f xs) (all x are.0) (each-where Q P f xs all are.1)

two-banks : (h : Header) (c : List ℕ) (a b x y : ℕ) → a < bank_count h → b < bank_count h → Each (IsOfBanks h) (pay_two c a b x y)
two-banks h c a b x y p q =
    cond_both (nat_lt y x) (pay b a c (x - y) ∷ []) (cond (nat_lt x y) (pay a b c (y - x) ∷ []) []) (Each (IsOfBanks h)) (λ is. ((q, p), tt))
    (λ other. cond_both (nat_lt x y) (pay a b c (y - x) ∷ []) [] (Each (IsOfBanks h)) (λ is. ((p, q), tt)) (λ none. tt))

twos-banks : (h : Header) (S : State) (c : List ℕ) → Each (IsOfBanks h) (twos_of h S c)
twos-banks h S c =
    each-where (λ a. a < bank_count h) (IsOfBanks h) (λ a. flat_map (λ b. pay_two c a b (due h S a b c) (due h S b a c)) (banks_behind h a)) (below (bank_count h))
    (λ a p. each-where (λ b. (b < bank_count h) × (nat_lt a b ≡ true)) (IsOfBanks h) (λ b. pay_two c a b (due h S a b c) (due h S b a c)) (banks_behind h a)
    (λ b both. two-banks h c a b (due h S a b c) (due h S b a c) p both.0)
    (each-kept (λ b. b < bank_count h) (nat_lt a) (below (bank_count h)) (each-below (λ b. b < bank_count h) (bank_count h) (λ i inside. inside))))
    (each-below (λ a. a < bank_count h) (bank_count h) (λ i inside. inside))

pub bilateral-banks : (h : Header) (S : State) → Each (IsOfBanks h) (bilateral_of h S)
bilateral-banks h S =
    subst (Each (IsOfBanks h)) (sym (by-places (twos_of h S) (currencies h)))
    (each-flat (IsOfBanks h) (λ k. twos_of h S (code_at (currencies h) k)) (length (currencies h)) (λ k within. twos-banks h S (code_at (currencies h) k)))

pub bilateral-some : (h : Header) (S : State) → Each (λ (p : Payment). 1 ≤ p.amount) (bilateral_of h S)
bilateral-some h S =
    subst (Each (λ (p : Payment). 1 ≤ p.amount)) (sym (by-places (twos_of h S) (currencies h)))
    (each-flat (λ p. 1 ≤ p.amount) (λ k. twos_of h S (code_at (currencies h) k)) (length (currencies h))
    (λ k within. each-twos h S (λ p. 1 ≤ p.amount) (code_at (currencies h) k) (λ from to m has. has)))

-- The payments of a currency.

pub bilateral-in : (h : Header) (S : State) (c : List ℕ) → (payments_in c (bilateral_of h S) ≡ twos_of h S c) ⊎ (Absent h c × (payments_in c (bilateral_of h S) ≡ []))
bilateral-in h S c =
    let part : ℕ → List Payment = λ k. twos_of h S (code_at (currencies h) k) in
    let places : payments_in c (bilateral_of h S) ≡ payments_in c (flat_map part (below (length (currencies h)))) = ap (payments_in c) (by-places (twos_of h S) (currencies h)) in
    elim (part-of h part c (λ k within. each-twos h S (λ p. p.currency ≡ code_at (currencies h) k) (code_at (currencies h) k) (λ from to m has. refl))) [
      | inl found ↦ inl (places ∙ found.2 ∙ ap (twos_of h S) found.1.is)
      | inr none ↦ inr (none.0, places ∙ none.1)
    ]

-- It settles.

pub one_way : (x y m n : ℕ) → m ≡ x - y → n ≡ y - x → pos m -ℤ pos n ≡ pos x -ℤ pos y
one_way x y m n p q = omega (arith, ints)

pub none_both : (x y : ℕ) → x ≡ 0 → y ≡ 0 → pos 0 -ℤ pos 0 ≡ pos x -ℤ pos y
none_both x y p q = omega (arith, ints)

crossed : (got gave r p : ℕ) → got + p ≡ gave + r → pos got -ℤ pos gave ≡ pos r -ℤ pos p
crossed got gave r p is = omega (arith, ints)

pub bilateral-each-two : (h : Header) (S : State) → CodesStand h → Each (IsTrade h) S.fills → SettlesEachTwo h S (bilateral_of h S)
bilateral-each-two h S stand trades a b c p q differ =
    let D : ℕ → ℕ → ℕ = λ i j. due h S i j c in
    elim (bilateral-in h S c) [
      | inl is ↦
          ap (λ (qs : List Payment). pos (total (moves b a) qs) -ℤ pos (total (moves a b) qs)) is
          ∙ one_way (D a b) (D b a) (total (moves b a) (twos_of h S c)) (total (moves a b) (twos_of h S c)) (moves-twos (bank_count h) c D b a q p) (moves-twos (bank_count h) c D a b p q)
      | inr none ↦
          ap (λ (qs : List Payment). pos (total (moves b a) qs) -ℤ pos (total (moves a b) qs)) none.1
          ∙ none_both (D a b) (D b a) (due-absent h S.fills a b c stand none.0 trades) (due-absent h S.fills b a c stand none.0 trades)
    ]

pub bilateral-day : (h : Header) (S : State) → CodesStand h → Each (IsTrade h) S.fills → Settles h S (bilateral_of h S)
bilateral-day h S stand trades bank c within =
    let D : ℕ → ℕ → ℕ = λ i j. due h S i j c in
    elim (bilateral-in h S c) [
      | inl is ↦
          let got : total (got_by bank) (twos_of h S c) ≡ total (λ b. D bank b - D b bank) (below (bank_count h)) = got-twos (bank_count h) c D bank within in
          let gave : total (paid_by bank) (twos_of h S c) ≡ total (λ b. D b bank - D bank b) (below (bank_count h)) = paid-twos (bank_count h) c D bank within in
          let cross : total (λ b. D bank b - D b bank) (below (bank_count h)) + total (λ b. D b bank) (below (bank_count h)) ≡ total (λ b. D b bank - D bank b) (below (bank_count h)) + total (D bank) (below (bank_count h)) =
          sum-cross (D bank) (λ b. D b bank) (below (bank_count h)) in
          let r : total (D bank) (below (bank_count h)) ≡ total (received h bank c) S.fills = dues-received h S.fills bank c trades in
          let p : total (λ b. D b bank) (below (bank_count h)) ≡ total (paid h bank c) S.fills = dues-paid h S.fills bank c trades in
          ap (λ (qs : List Payment). pos (total (got_by bank) qs) -ℤ pos (total (paid_by bank) qs)) is
          ∙ crossed (total (got_by bank) (twos_of h S c)) (total (paid_by bank) (twos_of h S c)) (total (received h bank c) S.fills) (total (paid h bank c) S.fills) (omega arith)
      | inr none ↦
          ap (λ (qs : List Payment). pos (total (got_by bank) qs) -ℤ pos (total (paid_by bank) qs)) none.1
          ∙ none_both (total (received h bank c) S.fills) (total (paid h bank c) S.fills) (received-absent h S.fills bank c stand none.0 trades) (paid-absent h S.fills bank c stand none.0 trades)
    ]

-- One payment at most between two banks.

counted : (test : ℕ → ℕ → Bool) (qs : List Payment) → Each (λ (p : Payment). 1 ≤ p.amount) qs → length (filter (λ p. test p.payer p.payee) qs) ≤ total (of_banks test sign) qs
counted test [] some = omega arith
counted test (p ∷ qs) some =
    let rest : length (filter (λ q. test q.payer q.payee) qs) ≤ total (of_banks test sign) qs = counted test qs some.1 in
    elim (cases_Bool (test p.payer p.payee)) [
      | inl is ↦
          let kept : length (filter (λ q. test q.payer q.payee) (p ∷ qs)) ≡ suc (length (filter (λ q. test q.payer q.payee) qs)) = ap length (filter_cons_true (λ (q : Payment). test q.payer q.payee) p qs is) in
          let here : of_banks test sign p ≡ 1 = ap (λ t. when t (sign p.amount)) is ∙ sign_some p.amount some.0 in
          omega arith
      | inr other ↦
          let dropped : length (filter (λ q. test q.payer q.payee) (p ∷ qs)) ≡ length (filter (λ q. test q.payer q.payee) qs) = ap length (filter_cons_false (λ (q : Payment). test q.payer q.payee) p qs other) in
          omega arith
    ]

one_sign : (x y : ℕ) → sign (x - y) + sign (y - x) ≤ 1
one_sign x y =
    elim (cases_lt x y) [
      | inl less ↦ let none : sign (x - y) ≡ 0 = ap sign (let is : x - y ≡ 0 = omega arith in is) in omega (arith, sign_most (y - x))
      | inr more ↦ let none : sign (y - x) ≡ 0 = ap sign (let is : y - x ≡ 0 = omega arith in is) in omega (arith, sign_most (x - y))
    ]

one-between : (n : ℕ) (D : ℕ → ℕ → ℕ) (u v : ℕ) → total (λ a. total (λ b. when ((eqb b u && eqb a v) || (eqb b v && eqb a u)) (sign (D a b - D b a))) (below n)) (below n) ≤ 1
one-between n D u v =
    let F : ℕ → ℕ → ℕ = λ a b. sign (D a b - D b a) in
    let P : ℕ → ℕ → ℕ = λ a b. when (eqb v a && eqb u b) (F v u) in
    let Q : ℕ → ℕ → ℕ = λ a b. when (eqb u a && eqb v b) (F u v) in
    let cell : (a b : ℕ) → when ((eqb b u && eqb a v) || (eqb b v && eqb a u)) (F a b) ≤ P a b + Q a b = λ a b.
    omega (arith, when_or (eqb b u && eqb a v) (eqb b v && eqb a u) (F a b), cell-is F a b v u, cell-is F a b u v) in
    let all : total (λ a. total (λ b. when ((eqb b u && eqb a v) || (eqb b v && eqb a u)) (F a b)) (below n)) (below n) ≤ total (λ a. total (λ b. P a b + Q a b) (below n)) (below n) =
    le_below (λ a. total (λ b. when ((eqb b u && eqb a v) || (eqb b v && eqb a u)) (F a b)) (below n)) (λ a. total (λ b. P a b + Q a b) (below n)) n
    (λ a p. le_below (λ b. when ((eqb b u && eqb a v) || (eqb b v && eqb a u)) (F a b)) (λ b. P a b + Q a b) n (λ b q. cell a b)) in
    omega (arith, two_sums n P Q, cells-most n (F v u) v u, cells-most n (F u v) u v, one_sign (D u v) (D v u))

pub bilateral-one : (h : Header) (S : State) (a b : ℕ) (c : List ℕ) → length (between a b c (bilateral_of h S)) ≤ 1
bilateral-one h S a b c =
    let test : ℕ → ℕ → Bool = λ x y. (eqb x a && eqb y b) || (eqb x b && eqb y a) in
    let D : ℕ → ℕ → ℕ = λ i j. due h S i j c in
    elim (bilateral-in h S c) [
      | inl is ↦
          let same : length (between a b c (bilateral_of h S)) ≡ length (filter (λ (p : Payment). test p.payer p.payee) (twos_of h S c)) = ap (λ (qs : List Payment). length (filter (λ (p : Payment). test p.payer p.payee) qs)) is in
          let most : length (filter (λ (p : Payment). test p.payer p.payee) (twos_of h S c)) ≤ total (of_banks test sign) (twos_of h S c) =
          counted test (twos_of h S c) (each-twos h S (λ p. 1 ≤ p.amount) c (λ from to m has. has)) in
          let sum : total (of_banks test sign) (twos_of h S c) ≡ total (λ i. total (λ j. when (test j i) (sign (D i j - D j i))) (below (bank_count h))) (below (bank_count h)) =
          twos-total (bank_count h) c test sign D refl in
          omega (arith, one-between (bank_count h) D a b)
      | inr none ↦
          let same : length (between a b c (bilateral_of h S)) ≡ 0 = ap (λ (qs : List Payment). length (filter (λ (p : Payment). test p.payer p.payee) qs)) none.1 in
          omega arith
    ]

pub least_each_two : LeastEachTwo
least_each_two h S ps c settles =
    let D : ℕ → ℕ → ℕ = λ i j. due h S i j c in
    elim (bilateral-in h S c) [
      | inl is ↦
          let same : sum_in c (bilateral_of h S) ≡ total (λ (p : Payment). p.amount) (twos_of h S c) = ap (λ (qs : List Payment). total (λ (p : Payment). p.amount) qs) is in
          omega (arith, sum-twos (bank_count h) c D, least_twos h S ps c settles)
      | inr none ↦
          let same : sum_in c (bilateral_of h S) ≡ 0 = ap (λ (qs : List Payment). total (λ (p : Payment). p.amount) qs) none.1 in
          omega arith
    ]
