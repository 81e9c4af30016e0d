-- What private functions and proofs alone say of what banks are due.
use Rattle.std.specs.Prelude.{ℕ, ◌≡◌, ◌≤◌, ◌<◌, ◌-◌, ◌*◌, ◌^◌, nat_lt, List, ◌++◌, length, map, filter}
use Rattle.std.specs.List.{flat_map}
use Rattle.fx_rules.specs.declared.orders.Fill.{Fill}
use Rattle.fx_rules.specs.Lists.{total, below}
use Rattle.fx_rules.specs.Session.{Header, bank_count}
use Rattle.day_report.specs.Report.{currencies}
use Rattle.day_report.specs.Sums.{code_at, AreCurrencies}
use Rattle.day_report.specs.Table.{place, sum_at, HasShape}
use Rattle.day_report.specs.inside.Trades.{AreTrades}
use Rattle.net_settle.specs.declared.payment.Payment.{Payment}
use Rattle.net_settle.specs.declared.dues.Dues.{Dues}
use Rattle.net_settle.specs.Payments.{due_by, pay_two}

-- what is kept: what a is due from b of the currency of a column, and that currency
abbrev pub due_in : Dues → ℕ → ℕ → ℕ → ℕ
due_in dues a b column = sum_at dues.sums (place dues.banks a b) column

abbrev pub code_in : Dues → ℕ → List ℕ
code_in dues column = code_at dues.currencies.codes.items column

-- there is a row for each two banks, and a column for each currency
pub record HasPlaces (dues : Dues) : Type 0 where
  pub banks_most : dues.banks ≤ 64
  pub shape : HasShape (dues.banks * dues.banks) (length dues.currencies.codes.items) dues.sums

-- it is what the banks are due by some fills
pub record AreDues (h : Header) (fills : List Fill) (dues : Dues) : Type 0 where
  pub places : HasPlaces dues
  pub banks_are : dues.banks ≡ bank_count h
  pub currencies_are : AreCurrencies h dues.currencies
  pub each :
      (a b column : ℕ) → a < bank_count h → b < bank_count h → column < length (currencies h) →
      due_in dues a b column ≡ total (due_by h a b (code_at (currencies h) column)) fills

-- fills can be added: they fit with those before
abbrev pub CanAddAll : Header → Dues → List Fill → Type 0
CanAddAll h dues more = (before : List Fill) × AreDues h before dues × AreTrades h (before ++ more)

-- what two banks pay of a column's currency, a bank and those behind it, and all
abbrev pub two_in : Dues → ℕ → ℕ → ℕ → List Payment
two_in dues column a b = pay_two (code_in dues column) a b (due_in dues a b column) (due_in dues b a column)

abbrev pub behind_in : Dues → ℕ → ℕ → List Payment
behind_in dues column a = flat_map (two_in dues column a) (filter (nat_lt a) (below dues.banks))

abbrev pub column_in : Dues → ℕ → List Payment
column_in dues column = flat_map (behind_in dues column) (below dues.banks)

-- what a bank is due of it from all banks, and what they are due from it
abbrev pub got_in : Dues → ℕ → ℕ → ℕ
got_in dues bank column = total (λ other. due_in dues bank other column) (below dues.banks)

abbrev pub gave_in : Dues → ℕ → ℕ → ℕ
gave_in dues bank column = total (λ other. due_in dues other bank column) (below dues.banks)

-- both sums fit, for each bank
pub record SumsFit (dues : Dues) (column : ℕ) : Type 0 where
  pub got : (bank : ℕ) → bank < dues.banks → got_in dues bank column < 2 ^ 128
  pub gave : (bank : ℕ) → bank < dues.banks → gave_in dues bank column < 2 ^ 128

-- by bank, what it owes, and what it is owed
abbrev pub owes_in : Dues → ℕ → List ℕ
owes_in dues column = map (λ bank. gave_in dues bank column - got_in dues bank column) (below dues.banks)

abbrev pub owed_in : Dues → ℕ → List ℕ
owed_in dues column = map (λ bank. got_in dues bank column - gave_in dues bank column) (below dues.banks)

-- some payments that are right were appended
abbrev pub Appends : (List Payment → Type 0) → List Payment → List Payment → Type 0
Appends Right old new = (more : List Payment) × Right more × (new ≡ old ++ more)
