-- The payments that are netted column by column.
use Rattle.std.proofs.Common.{ℕ, ◌≡◌, ◌+◌, ◌-◌, ◌*◌, ◌^◌, ◌≤◌, ◌<◌, eqb, cond, List, [], ◌++◌, map, length, inl, inr, refl, ap, sym, subst, ◌∙◌, arith}
use Rattle.std.specs.List.{flat_map}
use Rattle.std.proofs.lemmas.Bool.{cases_eq, eq-eqb, ne_eqb}
use Rattle.std.proofs.lemmas.List.{length-map}
use Rattle.fx_rules.specs.declared.orders.Fill.{Fill}
use Rattle.fx_rules.specs.Lists.{Each, total, below}
use Rattle.fx_rules.specs.Session.{Header, bank_count}
use Rattle.fx_rules.specs.State.{State}
use Rattle.fx_rules.specs.inside.Trade.{IsTrade}
use Rattle.day_report.specs.Report.{currencies, received, paid}
use Rattle.day_report.specs.Sums.{code_at}
use Rattle.day_report.specs.inside.Trades.{AreTrades}
use Rattle.fx_rules.proofs.Below.{length_below, flat_map-more}
use Rattle.day_report.proofs.Sums.{total_swap}
use Rattle.day_report.proofs.Bounds.{received-fit, paid-fit}
use Rattle.day_report.proofs.Listing.{each-below, map-agree, flat_map-agree}
use Rattle.net_settle.specs.declared.payment.Payment.{Payment}
use Rattle.net_settle.specs.declared.dues.Dues.{Dues}
use Rattle.net_settle.specs.Payments.{due_by, owed_of, owes_of, Walks, IsNetting}
use Rattle.net_settle.specs.inside.Dues.{AreDues, SumsFit, Appends, due_in, code_in, got_in, gave_in, owes_in, owed_in}
use Rattle.net_settle.proofs.Amounts.{sum}
use Rattle.net_settle.proofs.Twos.{total-map, sum-cross}
use Rattle.net_settle.proofs.Flows.{total-each, dues-received, dues-paid}

-- Sums over the banks are what a bank gets and gives.

agree_below : (f g : ℕ → ℕ) (n : ℕ) → ((k : ℕ) → k < n → f k ≡ g k) → total f (below n) ≡ total g (below n)
agree_below f g n all = total-each f g (below n) (each-below (λ k. f k ≡ g k) n all)

got-is : (h : Header) (fills : List Fill) (dues : Dues) (bank k : ℕ) → AreDues h fills dues → Each (IsTrade h) fills → bank < bank_count h → k < length (currencies h)
    → got_in dues bank k ≡ total (received h bank (code_at (currencies h) k)) fills
got-is h fills dues bank k are trades p within =
    ap (λ n. total (λ b. due_in dues bank b k) (below n)) are.banks_are
    ∙ agree_below (λ b. due_in dues bank b k) (λ b. total (due_by h bank b (code_at (currencies h) k)) fills) (bank_count h) (λ b q. are.each bank b k p q within)
    ∙ dues-received h fills bank (code_at (currencies h) k) trades

gave-is : (h : Header) (fills : List Fill) (dues : Dues) (bank k : ℕ) → AreDues h fills dues → Each (IsTrade h) fills → bank < bank_count h → k < length (currencies h)
    → gave_in dues bank k ≡ total (paid h bank (code_at (currencies h) k)) fills
gave-is h fills dues bank k are trades p within =
    ap (λ n. total (λ b. due_in dues b bank k) (below n)) are.banks_are
    ∙ agree_below (λ b. due_in dues b bank k) (λ b. total (due_by h b bank (code_at (currencies h) k)) fills) (bank_count h) (λ b q. are.each b bank k q p within)
    ∙ dues-paid h fills bank (code_at (currencies h) k) trades

fits : (n m : ℕ) → n ≡ m → m ≤ 4096000000000000000 * 2000000000000000000 → n < 2 ^ 128
fits n m is most = omega arith

pub sums-fit : (h : Header) (fills : List Fill) (dues : Dues) (k : ℕ) → AreDues h fills dues → AreTrades h fills → k < length (currencies h) → SumsFit dues k
sums-fit h fills dues k are trades within = record {
  got = λ bank p. let q : bank < bank_count h = omega (arith, are.banks_are) in
      fits (got_in dues bank k) (total (received h bank (code_at (currencies h) k)) fills) (got-is h fills dues bank k are trades.each q within) (received-fit h bank (code_at (currencies h) k) fills trades);
  gave = λ bank p. let q : bank < bank_count h = omega (arith, are.banks_are) in
      fits (gave_in dues bank k) (total (paid h bank (code_at (currencies h) k)) fills) (gave-is h fills dues bank k are trades.each q within) (paid-fit h bank (code_at (currencies h) k) fills trades);
}

owes-are : (h : Header) (S : State) (dues : Dues) (k : ℕ) → AreDues h S.fills dues → Each (IsTrade h) S.fills → k < length (currencies h) → owes_in dues k ≡ owes_of h S (code_at (currencies h) k)
owes-are h S dues k are trades within =
    let c : List ℕ = code_at (currencies h) k in
    ap (λ n. map (λ bank. gave_in dues bank k - got_in dues bank k) (below n)) are.banks_are
    ∙ map-agree (λ bank. bank < bank_count h) (λ bank. gave_in dues bank k - got_in dues bank k) (λ bank. total (paid h bank c) S.fills - total (received h bank c) S.fills) (below (bank_count h))
    (λ bank p. ap (λ n. n - got_in dues bank k) (gave-is h S.fills dues bank k are trades p within) ∙ ap (λ n. total (paid h bank c) S.fills - n) (got-is h S.fills dues bank k are trades p within))
    (each-below (λ bank. bank < bank_count h) (bank_count h) (λ i inside. inside))

owed-are : (h : Header) (S : State) (dues : Dues) (k : ℕ) → AreDues h S.fills dues → Each (IsTrade h) S.fills → k < length (currencies h) → owed_in dues k ≡ owed_of h S (code_at (currencies h) k)
owed-are h S dues k are trades within =
    let c : List ℕ = code_at (currencies h) k in
    ap (λ n. map (λ bank. got_in dues bank k - gave_in dues bank k) (below n)) are.banks_are
    ∙ map-agree (λ bank. bank < bank_count h) (λ bank. got_in dues bank k - gave_in dues bank k) (λ bank. total (received h bank c) S.fills - total (paid h bank c) S.fills) (below (bank_count h))
    (λ bank p. ap (λ n. n - gave_in dues bank k) (got-is h S.fills dues bank k are trades p within) ∙ ap (λ n. total (received h bank c) S.fills - n) (gave-is h S.fills dues bank k are trades p within))
    (each-below (λ bank. bank < bank_count h) (bank_count h) (λ i inside. inside))

-- What a walk over the balances of a column asks for.

pub count-owes : (dues : Dues) (k : ℕ) → length (owes_in dues k) ≡ dues.banks
count-owes dues k = length-map (below dues.banks) (λ bank. gave_in dues bank k - got_in dues bank k) ∙ length_below dues.banks

pub count-owed : (dues : Dues) (k : ℕ) → length (owed_in dues k) ≡ dues.banks
count-owed dues k = length-map (below dues.banks) (λ bank. got_in dues bank k - gave_in dues bank k) ∙ length_below dues.banks

pub balances-same : (dues : Dues) (k : ℕ) → sum (owes_in dues k) ≡ sum (owed_in dues k)
balances-same dues k =
    let got : ℕ → ℕ = λ bank. got_in dues bank k in
    let gave : ℕ → ℕ = λ bank. gave_in dues bank k in
    let cross : total (λ b. gave b - got b) (below dues.banks) + total got (below dues.banks) ≡ total (λ b. got b - gave b) (below dues.banks) + total gave (below dues.banks) =
    sum-cross gave got (below dues.banks) in
    omega (
      arith,
      total-map (λ b. gave b - got b) (below dues.banks),
      total-map (λ b. got b - gave b) (below dues.banks),
      total_swap (λ a b. due_in dues a b k) (below dues.banks) (below dues.banks),
    )

-- The parts so far.

pub record Parts (dues : Dues) (n : ℕ) (ps : List Payment) : Type 0 where
  pub part : ℕ → List Payment
  pub in_order : ps ≡ flat_map part (below n)
  pub walks : (k : ℕ) → k < n → Walks (code_in dues k) (owes_in dues k) (owed_in dues k) (part k)

pub no-parts : (dues : Dues) (ps : List Payment) → ps ≡ [] → Parts dues 0 ps
no-parts dues ps is = record { part = λ k. []; in_order = is; walks = λ k within. absurd (omega arith) }

pub one-part : (dues : Dues) (n : ℕ) (before after : List Payment) → Parts dues n before → Appends (Walks (code_in dues n) (owes_in dues n) (owed_in dues n)) before after → Parts dues (n + 1) after
one-part dues n before after parts appends =
    let part : ℕ → List Payment = λ k. cond (eqb k n) appends.0 (parts.part k) in
    let last : part n ≡ appends.0 = ap (λ t. cond t appends.0 (parts.part n)) (eq-eqb n n refl) in
    let others : (k : ℕ) → k < n → parts.part k ≡ part k = λ k within. ap (λ t. cond t appends.0 (parts.part k)) (sym (ne_eqb k n (λ same. omega arith))) in
    record {
      part = part;
      in_order = appends.2 ∙ ap (λ ps. ps ++ appends.0) (parts.in_order ∙ flat_map-agree (λ k. k < n) parts.part part (below n) others (each-below (λ k. k < n) n (λ k within. within)))
          ∙ ap (λ ps. flat_map part (below n) ++ ps) (sym last) ∙ sym (flat_map-more part n);
      walks = λ k within. elim (cases_eq k n) [
        | inl same ↦ subst (λ i. Walks (code_in dues i) (owes_in dues i) (owed_in dues i) (part i)) (sym same)
            (subst (Walks (code_in dues n) (owes_in dues n) (owed_in dues n)) (sym last) appends.1)
        | inr other ↦ let earlier : k < n = omega arith in
            subst (Walks (code_in dues k) (owes_in dues k) (owed_in dues k)) (others k earlier) (parts.walks k earlier)
      ];
    }

pub all-parts : (h : Header) (S : State) (dues : Dues) (n : ℕ) (ps : List Payment) → AreDues h S.fills dues → Each (IsTrade h) S.fills → n ≡ length (currencies h) → Parts dues n ps → IsNetting h S ps
all-parts h S dues n ps are trades all parts = record {
  part = parts.part;
  in_order = parts.in_order ∙ ap (λ k. flat_map parts.part (below k)) all;
  walks = λ k within.
      let c : List ℕ = code_at (currencies h) k in
      let here : Walks (code_in dues k) (owes_in dues k) (owed_in dues k) (parts.part k) = parts.walks k (omega arith) in
      let code : code_in dues k ≡ c = ap (λ (codes : List (List ℕ)). code_at codes k) are.currencies_are.codes_are in
      subst (λ xs. Walks c xs (owed_of h S c) (parts.part k)) (owes-are h S dues k are trades within)
      (subst (λ ys. Walks c (owes_in dues k) ys (parts.part k)) (owed-are h S dues k are trades within)
      (subst (λ code. Walks code (owes_in dues k) (owed_in dues k) (parts.part k)) code here));
}
