-- What banks pay each other for a day's fills. Banks are named by their places in the header.
use Rattle.std.specs.Prelude.{ℕ, ◌≡◌, ◌≢◌, ◌≤◌, ◌<◌, ◌+◌, ◌-◌, ◌==◌, ◌&&◌, ◌||◌, nat_lt, min, bytes_eq, if◌then◌else◌, List, [], ◌∷◌, length, map, filter, slice_index, slice_set, ℤ, pos, ◌-ℤ◌}
use Rattle.std.specs.List.{flat_map}
use Rattle.fx_rules.specs.declared.orders.Fill.{Fill}
use Rattle.fx_rules.specs.declared.outcome.Entry.{Entry}
use Rattle.fx_rules.specs.Lists.{total, below}
use Rattle.fx_rules.specs.Session.{Header, bank_count}
use Rattle.fx_rules.specs.State.{State}
use Rattle.fx_rules.specs.History.{IsLegal, state}
use Rattle.day_report.specs.Report.{base_of, quote_of, base_code, quote_code, currencies, buyer, seller, share, received, paid, net_of, banks_behind, sum_of}
use Rattle.day_report.specs.Sums.{code_at}
use Rattle.net_settle.specs.declared.payment.Payment.{Payment}

-- What two banks are due from each other.

-- what a gets of a currency from b by a fill: the base amount where it buys of b, the quote amount where it sells to b
abbrev pub due_by : Header → ℕ → ℕ → List ℕ → Fill → ℕ
due_by h a b currency fill =
    (if seller fill == b then share a currency (buyer fill) (base_code h fill.pair) (base_of h fill) else 0)
    + (if buyer fill == b then share a currency (seller fill) (quote_code h fill.pair) (quote_of h fill) else 0)

-- what it gets from b by all fills
abbrev pub due : Header → State → ℕ → ℕ → List ℕ → ℕ
due h S a b currency = total (due_by h a b currency) S.fills

-- what a is to get from b, less what b is to get from a
abbrev pub flow : Header → State → ℕ → ℕ → List ℕ → ℤ
flow h S a b currency = pos (due h S a b currency) -ℤ pos (due h S b a currency)

-- What payments move.

-- the payments of a currency
abbrev pub payments_in : List ℕ → List Payment → List Payment
payments_in currency payments = filter (λ payment. bytes_eq payment.currency currency) payments

-- those between two banks, either way
abbrev pub between : ℕ → ℕ → List ℕ → List Payment → List Payment
between a b currency payments =
    filter (λ payment. (payment.payer == a && payment.payee == b) || (payment.payer == b && payment.payee == a)) (payments_in currency payments)

-- a payment is made by a bank of the session to one of them
abbrev pub IsOfBanks : Header → Payment → Type 0
IsOfBanks h payment = (payment.payer < bank_count h) × (payment.payee < bank_count h)

-- what they move of it together
abbrev pub sum_in : List ℕ → List Payment → ℕ
sum_in currency payments = total (λ payment. payment.amount) (payments_in currency payments)

-- what a bank gets by a payment, what it pays, and what goes from a bank to another
abbrev pub got_by : ℕ → Payment → ℕ
got_by bank payment = if payment.payee == bank then payment.amount else 0

abbrev pub paid_by : ℕ → Payment → ℕ
paid_by bank payment = if payment.payer == bank then payment.amount else 0

abbrev pub moves : ℕ → ℕ → Payment → ℕ
moves from to payment = if payment.payer == from && payment.payee == to then payment.amount else 0

-- Payments settle a day: of each currency each bank gets, less what it pays, what it has by all its fills. They may be any
-- payments, also through banks that are none of the session's, from a bank to itself, or in codes that are no currency.
abbrev pub Settles : Header → State → List Payment → Type 0
Settles h S payments =
    (bank : ℕ) (currency : List ℕ) → bank < bank_count h →
    pos (total (got_by bank) (payments_in currency payments)) -ℤ pos (total (paid_by bank) (payments_in currency payments))
    ≡ (net_of h S bank currency).amount

-- They settle each two banks: of each currency what one gets from the other, less what it pays it, is the flow between them.
abbrev pub SettlesEachTwo : Header → State → List Payment → Type 0
SettlesEachTwo h S payments =
    (a b : ℕ) (currency : List ℕ) → a < bank_count h → b < bank_count h → a ≢ b →
    pos (total (moves b a) (payments_in currency payments)) -ℤ pos (total (moves a b) (payments_in currency payments))
    ≡ flow h S a b currency

-- Payments of each two banks.

abbrev pub pay : ℕ → ℕ → List ℕ → ℕ → Payment
pay from to code much = record { payer = from; payee = to; currency = code; amount = much }

-- what two banks pay where `a` is due so much from `b`, and `b` so much from `a`
abbrev pub pay_two : List ℕ → ℕ → ℕ → ℕ → ℕ → List Payment
pay_two currency a b gets gives =
    if nat_lt gives gets then pay b a currency (gets - gives) ∷ []
    else if nat_lt gets gives then pay a b currency (gives - gets) ∷ []
    else []

-- of a currency, each two banks, by the first and then by the second
abbrev pub twos_of : Header → State → List ℕ → List Payment
twos_of h S currency =
    flat_map (λ a. flat_map (λ b. pay_two currency a b (due h S a b currency) (due h S b a currency)) (banks_behind h a)) (below (bank_count h))

-- of each currency
abbrev pub bilateral_of : Header → State → List Payment
bilateral_of h S = flat_map (twos_of h S) (currencies h)

-- Payments that are netted over all banks.

-- of a currency, by bank: what it is owed by all its fills, and what it owes
abbrev pub owed_of : Header → State → List ℕ → List ℕ
owed_of h S currency = map (λ bank. total (received h bank currency) S.fills - total (paid h bank currency) S.fills) (below (bank_count h))

abbrev pub owes_of : Header → State → List ℕ → List ℕ
owes_of h S currency = map (λ bank. total (paid h bank currency) S.fills - total (received h bank currency) S.fills) (below (bank_count h))

-- the first bank that has something
pub record IsFirst (amounts : List ℕ) (bank : ℕ) : Type 0 where
  pub some : 1 ≤ slice_index amounts bank
  pub first : (k : ℕ) → k < bank → slice_index amounts k ≡ 0

-- the first bank that still owes pays the first that is still owed, the lesser of the two amounts, until none owes
abbrev pub Walks : List ℕ → List ℕ → List ℕ → List Payment → Type 0
Walks currency owes owed [] = (bank : ℕ) → slice_index owes bank ≡ 0
Walks currency owes owed (p ∷ more) =
    IsFirst owes p.payer × IsFirst owed p.payee × (p.currency ≡ currency)
    × (p.amount ≡ min (slice_index owes p.payer) (slice_index owed p.payee))
    × Walks currency (slice_set owes p.payer (slice_index owes p.payer - p.amount)) (slice_set owed p.payee (slice_index owed p.payee - p.amount)) more

-- payments of a day are netted: a walk for each currency, in their order
pub record IsNetting (h : Header) (S : State) (payments : List Payment) : Type 0 where
  pub part : ℕ → List Payment
  pub in_order : payments ≡ flat_map part (below (length (currencies h)))
  pub walks :
      (place : ℕ) → place < length (currencies h) →
      Walks (code_at (currencies h) place) (owes_of h S (code_at (currencies h) place)) (owed_of h S (code_at (currencies h) place)) (part place)

-- Laws.

-- A list that settles a day pays of each currency at least what the banks are owed.
abbrev pub LeastDay : Type 0
LeastDay = (h : Header) (S : State) (payments : List Payment) (currency : List ℕ) → Settles h S payments → total (λ n. n) (owed_of h S currency) ≤ sum_in currency payments

-- A list that settles each two banks pays of each currency at least what the bilateral one pays.
abbrev pub LeastEachTwo : Type 0
LeastEachTwo = (h : Header) (S : State) (payments : List Payment) (currency : List ℕ) → SettlesEachTwo h S payments → sum_in currency (bilateral_of h S) ≤ sum_in currency payments

-- After a legal history the flows of a bank with all banks add up to its net.
abbrev pub FlowsAreNets : Type 0
FlowsAreNets =
    (h : Header) (entries : List Entry) (bank : ℕ) (currency : List ℕ) → IsLegal h entries →
    sum_of (map (λ other. flow h (state h entries) bank other currency) (below (bank_count h))) ≡ (net_of h (state h entries) bank currency).amount
