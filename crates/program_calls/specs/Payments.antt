-- What is written of an output where its payments are asked for.
use Rattle.std.specs.Prelude.{ℕ, ◌≡◌, List}
use Rattle.fx_rules.specs.Session.{Header}
use Rattle.fx_rules.specs.History.{state}
use Rattle.fx_rules.specs.declared.outcome.Entry.{Entry}
use Rattle.journal_check.specs.Reading.{IsReadOf}
use Rattle.net_settle.specs.declared.form.Form.{Form}
use Rattle.net_settle.specs.declared.payment.Payment.{Payment}
use Rattle.program_calls.specs.PaymentText.{AreInForm, payments_text}

-- The bytes are the output of a legal history, which they list, and the text is that of its payments in this form.
pub record IsPaymentsOf (form : Form) (bytes text : List ℕ) : Type 0 where
  pub session : Header
  pub history : List Entry
  pub read : IsReadOf bytes session history
  pub payments : List Payment
  pub in_form : AreInForm form session (state session history) payments
  pub exactly : text ≡ payments_text session payments
