-- What private functions and proofs alone say of it, beside `specs/Answers.antt`.
use Rattle.std.specs.Prelude.{ℕ, ◌≡◌, List}
use Rattle.fx_rules.specs.declared.command.Life.{Life}
use Rattle.fx_rules.specs.declared.orders.Fill.{Fill}
use Rattle.fx_rules.specs.declared.outcome.Outcome.{Outcome}
use Rattle.fx_rules.specs.Session.{Header}
use Rattle.fx_rules.specs.State.{State}
use Rattle.fx_rules.specs.Sweep.{Taker, Swept}
use Rattle.fx_rules.specs.Step.{IsOrdered}
use Rattle.fx_rules.specs.Sound.{IsSound}
use Rattle.global_book.specs.Book.{Book}
use Rattle.credit_lines.specs.Credit.{Credit}
use Rattle.match_sweep.specs.Sweeps.{Fits}

-- the outcome is an order's, by its life, in every sound state that the book and the credit are of
abbrev pub OrdersEach : Book → Credit → ℕ → Taker → Life → Outcome → Type 0
OrdersEach book credit weight order life outcome =
    (h : Header) (S : State) → IsSound h S → Fits h S book credit weight → IsOrdered h S order life outcome

-- the outcome is that of an order for so many lots, by its life, in every state where its sweep makes these fills and leaves
-- so much
abbrev pub IsOrderedBy : ℕ → Life → List Fill → ℕ → Outcome → Type 0
IsOrderedBy lots life fills left outcome =
    (h : Header) (S : State) (order : Taker) → order.left ≡ lots → Swept h S order fills left → IsOrdered h S order life outcome
