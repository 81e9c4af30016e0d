-- The payments of a day as a text.
use Rattle.std.specs.Prelude.{ℕ, ◌≡◌, List, [], ◌∷◌, ◌++◌, length, codes}
use Rattle.std.specs.List.{flat_map}
use Rattle.fx_amounts.specs.Numeral.{numeral}
use Rattle.fx_rules.specs.Session.{Header, bank_name}
use Rattle.fx_rules.specs.State.{State}
use Rattle.reply_lines.specs.Rows.{row}
use Rattle.net_settle.specs.Payments.{bilateral_of, IsNetting}
use Rattle.net_settle.specs.declared.form.Form.{Form}
use Rattle.net_settle.specs.declared.form.Form.TheVariants.{Bilateral, Net}
use Rattle.net_settle.specs.declared.payment.Payment.{Payment}

-- payments are those of a day in this form: those of each two banks, or netted over all banks
abbrev pub AreInForm : Form → Header → State → List Payment → Type 0
AreInForm Bilateral h S payments = payments ≡ bilateral_of h S
AreInForm Net h S payments = IsNetting h S payments

-- who pays, whom, in what currency, and how much
abbrev pub payment_line : Header → Payment → List ℕ
payment_line h payment =
    row (codes "PAY") (bank_name h payment.payer ∷ bank_name h payment.payee ∷ payment.currency ∷ numeral payment.amount ∷ [])

-- how many payments there are
unfoldable pub payments_line : ℕ → List ℕ
payments_line count = row (codes "PAYMENTS") (numeral count ∷ [])

-- a line for each payment, and how many there are
abbrev pub payments_text : Header → List Payment → List ℕ
payments_text h payments = flat_map (payment_line h) payments ++ payments_line (length payments)
