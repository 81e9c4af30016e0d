-- Payments that are netted settle the day, with few payments and the least sum.
use Rattle.std.proofs.Common.{ℕ, ◌≡◌, ◌+◌, ◌-◌, ◌≤◌, ◌<◌, pos, ◌-ℤ◌, List, [], length, inl, inr, ap, sym, subst, ◌∙◌, arith}
use Rattle.std.specs.Prelude.{◌⊎◌}
use Rattle.std.specs.List.{flat_map}
use Rattle.std.proofs.lemmas.List.{length-map}
use Rattle.fx_rules.specs.Lists.{Each, total, below}
use Rattle.fx_rules.specs.Session.{Header, bank_count}
use Rattle.fx_rules.specs.State.{State}
use Rattle.fx_rules.specs.inside.Trade.{IsTrade}
use Rattle.day_report.specs.Report.{currencies, received, paid}
use Rattle.day_report.specs.Sums.{code_at}
use Rattle.fx_rules.proofs.Below.{length_below, get_or_below}
use Rattle.day_report.proofs.Balance.{banks-balance}
use Rattle.net_settle.specs.declared.payment.Payment.{Payment}
use Rattle.net_settle.specs.Payments.{got_by, paid_by, payments_in, sum_in, owed_of, owes_of, Settles, IsOfBanks, Walks, IsNetting}
use Rattle.net_settle.proofs.Amounts.{at, sum, some, at_within, some_apart}
use Rattle.net_settle.proofs.Walking.{walk-code, walk-banks, walk-some, walk-paid, walk-got, walk-sum, walk-few}
use Rattle.net_settle.proofs.Twos.{total-map, sum-cross}
use Rattle.net_settle.proofs.Flows.{Absent, CodesStand, none-below, received-absent, paid-absent}
use Rattle.net_settle.proofs.InCurrency.{part-of, each-flat}
use Rattle.net_settle.proofs.TwoByTwo.{one_way, none_both}
use Rattle.net_settle.proofs.Least.{least_day}

-- What banks owe and are owed.

count-owes : (h : Header) (S : State) (c : List ℕ) → length (owes_of h S c) ≡ bank_count h
count-owes h S c = length-map (below (bank_count h)) (λ bank. total (paid h bank c) S.fills - total (received h bank c) S.fills) ∙ length_below (bank_count h)

count-owed : (h : Header) (S : State) (c : List ℕ) → length (owed_of h S c) ≡ bank_count h
count-owed h S c = length-map (below (bank_count h)) (λ bank. total (received h bank c) S.fills - total (paid h bank c) S.fills) ∙ length_below (bank_count h)

owes-at : (h : Header) (S : State) (c : List ℕ) (bank : ℕ) → bank < bank_count h → at (owes_of h S c) bank ≡ total (paid h bank c) S.fills - total (received h bank c) S.fills
owes-at h S c bank within = get_or_below (λ b. total (paid h b c) S.fills - total (received h b c) S.fills) (bank_count h) bank 0 within

owed-at : (h : Header) (S : State) (c : List ℕ) (bank : ℕ) → bank < bank_count h → at (owed_of h S c) bank ≡ total (received h bank c) S.fills - total (paid h bank c) S.fills
owed-at h S c bank within = get_or_below (λ b. total (received h b c) S.fills - total (paid h b c) S.fills) (bank_count h) bank 0 within

-- all owe what all are owed
sums-same : (h : Header) (S : State) (c : List ℕ) → Each (IsTrade h) S.fills → sum (owes_of h S c) ≡ sum (owed_of h S c)
sums-same h S c trades =
    let R : ℕ → ℕ = λ bank. total (received h bank c) S.fills in
    let P : ℕ → ℕ = λ bank. total (paid h bank c) S.fills in
    let cross : total (λ b. P b - R b) (below (bank_count h)) + total R (below (bank_count h)) ≡ total (λ b. R b - P b) (below (bank_count h)) + total P (below (bank_count h)) =
    sum-cross P R (below (bank_count h)) in
    omega (
      arith,
      total-map (λ b. P b - R b) (below (bank_count h)),
      total-map (λ b. R b - P b) (below (bank_count h)),
      banks-balance h S.fills c trades,
    )

-- no bank both owes and is owed
apart : (h : Header) (S : State) (c : List ℕ) (k : ℕ) → 1 ≤ at (owes_of h S c) k → at (owed_of h S c) k ≡ 0
apart h S c k has =
    let within : k < bank_count h = omega (arith, at_within (owes_of h S c) k has, count-owes h S c) in
    omega (arith, owes-at h S c k within, owed-at h S c k within)

-- The payments of a currency.

pub netting-in : (h : Header) (S : State) (ps : List Payment) (c : List ℕ) → IsNetting h S ps → Walks c (owes_of h S c) (owed_of h S c) (payments_in c ps) ⊎ (Absent h c × (payments_in c ps ≡ []))
netting-in h S ps c is =
    let places : payments_in c ps ≡ payments_in c (flat_map is.part (below (length (currencies h)))) = ap (payments_in c) is.in_order in
    elim (part-of h is.part c (λ k within. walk-code (code_at (currencies h) k) (owes_of h S (code_at (currencies h) k)) (owed_of h S (code_at (currencies h) k)) (is.part k) (is.walks k within))) [
      | inl found ↦
          inl (subst (Walks c (owes_of h S c) (owed_of h S c)) (sym (places ∙ found.2))
          (subst (λ code. Walks code (owes_of h S code) (owed_of h S code) (is.part found.0)) found.1.is (is.walks found.0 found.1.within)))
      | inr none ↦ inr (none.0, places ∙ none.1)
    ]

pub netting-day : (h : Header) (S : State) (ps : List Payment) → CodesStand h → Each (IsTrade h) S.fills → IsNetting h S ps → Settles h S ps
netting-day h S ps stand trades is bank c within =
    let R : ℕ = total (received h bank c) S.fills in
    let P : ℕ = total (paid h bank c) S.fills in
    elim (netting-in h S ps c is) [
      | inl walks ↦
          one_way R P (total (got_by bank) (payments_in c ps)) (total (paid_by bank) (payments_in c ps))
          (walk-got c (owes_of h S c) (owed_of h S c) (payments_in c ps) bank walks (sums-same h S c trades) ∙ owed-at h S c bank within)
          (walk-paid c (owes_of h S c) (owed_of h S c) (payments_in c ps) bank walks ∙ owes-at h S c bank within)
      | inr none ↦
          ap (λ (qs : List Payment). pos (total (got_by bank) qs) -ℤ pos (total (paid_by bank) qs)) none.1
          ∙ none_both R P (received-absent h S.fills bank c stand none.0 trades) (paid-absent h S.fills bank c stand none.0 trades)
    ]

pub netting-few : (h : Header) (S : State) (ps : List Payment) (c : List ℕ) → IsNetting h S ps → length (payments_in c ps) ≤ bank_count h - 1
netting-few h S ps c is =
    elim (netting-in h S ps c is) [
      | inl walks ↦
          let most : some (owes_of h S c) + some (owed_of h S c) ≤ length (owes_of h S c) =
          some_apart (owes_of h S c) (owed_of h S c) (count-owes h S c ∙ sym (count-owed h S c)) (apart h S c) in
          omega (arith, walk-few c (owes_of h S c) (owed_of h S c) (payments_in c ps) walks, count-owes h S c)
      | inr none ↦ omega (arith, ap length none.1)
    ]

pub netting-banks : (h : Header) (S : State) (ps : List Payment) → IsNetting h S ps → Each (IsOfBanks h) ps
netting-banks h S ps is =
    subst (Each (IsOfBanks h)) (sym is.in_order)
    (each-flat (IsOfBanks h) is.part (length (currencies h))
    (λ k within. walk-banks h (code_at (currencies h) k) (owes_of h S (code_at (currencies h) k)) (owed_of h S (code_at (currencies h) k)) (is.part k)
    (count-owes h S (code_at (currencies h) k)) (count-owed h S (code_at (currencies h) k)) (is.walks k within)))

pub netting-some : (h : Header) (S : State) (ps : List Payment) → IsNetting h S ps → Each (λ (p : Payment). 1 ≤ p.amount) ps
netting-some h S ps is =
    subst (Each (λ (p : Payment). 1 ≤ p.amount)) (sym is.in_order)
    (each-flat (λ p. 1 ≤ p.amount) is.part (length (currencies h))
    (λ k within. walk-some (code_at (currencies h) k) (owes_of h S (code_at (currencies h) k)) (owed_of h S (code_at (currencies h) k)) (is.part k) (is.walks k within)))

pub netting-sum : (h : Header) (S : State) (ps : List Payment) (c : List ℕ) → CodesStand h → Each (IsTrade h) S.fills → IsNetting h S ps → sum_in c ps ≡ sum (owed_of h S c)
netting-sum h S ps c stand trades is =
    elim (netting-in h S ps c is) [
      | inl walks ↦ walk-sum c (owes_of h S c) (owed_of h S c) (payments_in c ps) walks ∙ sums-same h S c trades
      | inr none ↦
          let nothing : total (λ b. total (received h b c) S.fills - total (paid h b c) S.fills) (below (bank_count h)) ≡ 0 =
          none-below (λ b. total (received h b c) S.fills - total (paid h b c) S.fills) (below (bank_count h))
          (λ b. let none' : total (received h b c) S.fills ≡ 0 = received-absent h S.fills b c stand none.0 trades in omega arith) in
          ap (λ (qs : List Payment). total (λ (p : Payment). p.amount) qs) none.1
          ∙ sym (total-map (λ b. total (received h b c) S.fills - total (paid h b c) S.fills) (below (bank_count h)) ∙ nothing)
    ]

pub netting-least : (h : Header) (S : State) (ps others : List Payment) (c : List ℕ) → CodesStand h → Each (IsTrade h) S.fills → IsNetting h S ps → Settles h S others → sum_in c ps ≤ sum_in c others
netting-least h S ps others c stand trades is settles = omega (arith, netting-sum h S ps c stand trades is, least_day h S others c settles)
