-- The turns of orders that rest in a pair, over the pair's book and the lines.
use Rattle.std.specs.Prelude.{ℕ, List}
use Rattle.fx_rules.specs.declared.orders.Resting.{Resting}
use Rattle.fx_rules.specs.declared.orders.Fill.{Fill}
use Rattle.fx_rules.specs.Session.{Header}
use Rattle.fx_rules.specs.State.{State}
use Rattle.fx_rules.specs.Sound.{IsSound}
use Rattle.fx_rules.specs.Raise.{Turned}
use Rattle.global_book.specs.Book.{Book}
use Rattle.credit_lines.specs.Credit.{Credit}
use Rattle.match_sweep.specs.Sweeps.{Fits}

-- the fills are those of the turns of some orders in every sound state that the book and the credit are of
abbrev pub TurnsEach : Book → Credit → ℕ → List Resting → List Fill → Type 0
TurnsEach book credit weight orders fills =
    (h : Header) (S : State) → IsSound h S → Fits h S book credit weight → Turned h book.pair S orders fills
