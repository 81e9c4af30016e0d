-- No list that settles pays less.
use Rattle.std.proofs.Common.{ℕ, ◌≡◌, ◌-◌, ◌≤◌, ◌<◌, pos, ◌-ℤ◌, List, inl, inr, ap, sym, ◌∙◌, arith}
use Rattle.std.proofs.lemmas.Int.{ints}
use Rattle.std.proofs.lemmas.Bool.{cases_eq}
use Rattle.fx_rules.specs.Lists.{total, below}
use Rattle.fx_rules.specs.Session.{Header, bank_count}
use Rattle.fx_rules.specs.State.{State}
use Rattle.fx_rules.proofs.ListLemmas.{Each-of}
use Rattle.day_report.specs.Report.{received, paid}
use Rattle.day_report.proofs.Sums.{total_le, total_swap, total_agree}
use Rattle.net_settle.specs.declared.payment.Payment.{Payment}
use Rattle.net_settle.specs.Payments.{got_by, paid_by, moves, payments_in, sum_in, due, SettlesEachTwo, LeastDay}
use Rattle.net_settle.proofs.Twos.{total-map, le_below, picked, cells-most}

owed_got : (got gave r p : ℕ) → pos got -ℤ pos gave ≡ pos r -ℤ pos p → r - p ≤ got
owed_got got gave r p same = omega (arith, ints)

le_all : {X : Type 0} (f g : X → ℕ) (xs : List X) → ((x : X) → f x ≤ g x) → total f xs ≤ total g xs
le_all f g xs all = total_le f g xs (Each-of (λ x. f x ≤ g x) xs (λ x among. all x))

-- what banks get of payments is no more than what these pay
all-got : (n : ℕ) (ps : List Payment) → total (λ bank. total (got_by bank) ps) (below n) ≤ total (λ (p : Payment). p.amount) ps
all-got n ps =
    let most : total (λ (p : Payment). total (λ bank. got_by bank p) (below n)) ps ≤ total (λ (p : Payment). p.amount) ps =
    le_all (λ (p : Payment). total (λ bank. got_by bank p) (below n)) (λ (p : Payment). p.amount) ps (λ p. picked n p.payee p.amount) in
    omega (arith, total_swap (λ bank (p : Payment). got_by bank p) (below n) ps)

pub least_day : LeastDay
least_day h S ps c settles =
    let qs : List Payment = payments_in c ps in
    let owed : ℕ → ℕ = λ bank. total (received h bank c) S.fills - total (paid h bank c) S.fills in
    let each : total owed (below (bank_count h)) ≤ total (λ bank. total (got_by bank) qs) (below (bank_count h)) =
    le_below owed (λ bank. total (got_by bank) qs) (bank_count h)
    (λ bank within. owed_got (total (got_by bank) qs) (total (paid_by bank) qs) (total (received h bank c) S.fills) (total (paid h bank c) S.fills) (settles bank c within)) in
    omega (arith, total-map owed (below (bank_count h)), all-got (bank_count h) qs)

-- a payment goes between one two banks at most
one-cell : (n : ℕ) (p : Payment) → total (λ a. total (λ b. moves b a p) (below n)) (below n) ≤ p.amount
one-cell n p =
    let same : total (λ a. total (λ b. moves b a p) (below n)) (below n) ≡ total (λ b. total (λ a. moves b a p) (below n)) (below n) =
    total_swap (λ a b. moves b a p) (below n) (below n) in
    omega (arith, cells-most n p.amount p.payer p.payee)

-- what goes between each two banks is no more than what the payments pay
all-moves : (n : ℕ) (ps : List Payment) → total (λ a. total (λ b. total (moves b a) ps) (below n)) (below n) ≤ total (λ (p : Payment). p.amount) ps
all-moves n ps =
    let cell : Payment → ℕ → ℕ → ℕ = λ p a b. moves b a p in
    let most : total (λ (p : Payment). total (λ a. total (cell p a) (below n)) (below n)) ps ≤ total (λ (p : Payment). p.amount) ps =
    le_all (λ (p : Payment). total (λ a. total (cell p a) (below n)) (below n)) (λ (p : Payment). p.amount) ps (λ p. one-cell n p) in
    let rows : total (λ a. total (λ b. total (moves b a) ps) (below n)) (below n) ≡ total (λ a. total (λ (p : Payment). total (cell p a) (below n)) ps) (below n) =
    total_agree (λ a. total (λ b. total (moves b a) ps) (below n)) (λ a. total (λ (p : Payment). total (cell p a) (below n)) ps) (below n)
    (λ a. total_swap (λ b (p : Payment). moves b a p) (below n) ps) in
    let turned : total (λ a. total (λ (p : Payment). total (cell p a) (below n)) ps) (below n) ≡ total (λ (p : Payment). total (λ a. total (cell p a) (below n)) (below n)) ps =
    total_swap (λ a (p : Payment). total (cell p a) (below n)) (below n) ps in
    omega arith

pub least_twos : (h : Header) (S : State) (ps : List Payment) (c : List ℕ) → SettlesEachTwo h S ps
    → total (λ a. total (λ b. due h S a b c - due h S b a c) (below (bank_count h))) (below (bank_count h)) ≤ sum_in c ps
least_twos h S ps c settles =
    let n : ℕ = bank_count h in
    let qs : List Payment = payments_in c ps in
    let D : ℕ → ℕ → ℕ = λ a b. due h S a b c in
    let one : (a b : ℕ) → a < n → b < n → D a b - D b a ≤ total (moves b a) qs = λ a b p q.
    elim (cases_eq a b) [
      | inl same ↦ let none : D a b ≡ D b a = ap (λ i. D i b) same ∙ ap (λ i. D b i) (sym same) in omega arith
      | inr differ ↦ owed_got (total (moves b a) qs) (total (moves a b) qs) (D a b) (D b a) (settles a b c p q differ)
    ] in
    let each : total (λ a. total (λ b. D a b - D b a) (below n)) (below n) ≤ total (λ a. total (λ b. total (moves b a) qs) (below n)) (below n) =
    le_below (λ a. total (λ b. D a b - D b a) (below n)) (λ a. total (λ b. total (moves b a) qs) (below n)) n
    (λ a p. le_below (λ b. D a b - D b a) (λ b. total (moves b a) qs) n (λ b q. one a b p q)) in
    omega (arith, all-moves n qs)
