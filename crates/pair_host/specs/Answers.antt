-- What a command in one pair is answered, by the pair's book and the credit lines.
use Rattle.std.specs.Prelude.{ℕ}
use Rattle.fx_rules.specs.declared.command.Command.{Command}
use Rattle.fx_rules.specs.declared.outcome.Outcome.{Outcome}
use Rattle.fx_rules.specs.Session.{Header}
use Rattle.fx_rules.specs.State.{State}
use Rattle.fx_rules.specs.Step.{IsOutcome}
use Rattle.fx_rules.specs.Sound.{IsSound}
use Rattle.global_book.specs.Book.{Book}
use Rattle.credit_lines.specs.Credit.{Credit}
use Rattle.match_sweep.specs.Sweeps.{Fits}
use Rattle.fx_rules.specs.declared.sender.Sender.{Sender}
use Rattle.fx_rules.specs.Sending.{IsNextIn}

-- The outcome is the market's in every sound state that the book and the credit are of and in which the command is the
-- next.
abbrev pub AnswersEach : Book → Credit → ℕ → Sender → Command → Outcome → Type 0
AnswersEach book credit weight sender command outcome =
    (h : Header) (S : State) → IsSound h S → Fits h S book credit weight → IsNextIn S sender →
    IsOutcome h S sender.bank command outcome
