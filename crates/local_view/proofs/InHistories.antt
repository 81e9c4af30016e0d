-- A local book of every sound state is one of every legal history's state.
use Rattle.std.proofs.Common.{ℕ}
use Rattle.fx_rules.specs.declared.outcome.Outcome.{Outcome}
use Rattle.fx_rules.specs.declared.outcome.Outcome.TheVariants.{Depth}
use Rattle.fx_rules.specs.History.{state}
use Rattle.fx_rules.proofs.Soundness.{legal-sound}
use Rattle.fx_rules.proofs.Counting.{arrivals-few}
use Rattle.global_book.specs.Book.{Book}
use Rattle.credit_lines.specs.Credit.{Credit}
use Rattle.local_view.specs.LocalBook.{IsLocalBook, IsLegalLocalBook}

pub in_histories : (book : Book) (credit : Credit) (weight bank : ℕ) (outcome : Outcome) → IsLocalBook book credit weight bank outcome → IsLegalLocalBook book credit weight bank outcome
in_histories book credit weight bank (Depth bids asks) is =
    λ h entries legal fits. is h (state h entries) (legal-sound h entries legal) fits (arrivals-few h entries legal)
in_histories book credit weight bank outcome is = absurd is
