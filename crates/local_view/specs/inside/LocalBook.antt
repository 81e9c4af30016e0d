-- What private functions and proofs alone say of it, beside `specs/LocalBook.antt`.
use Rattle.std.specs.Prelude.{ℕ, ◌<◌, ◌^◌, List}
use Rattle.fx_amounts.specs.declared.side.Side.{Side}
use Rattle.fx_rules.specs.declared.orders.Level.{Level}
use Rattle.fx_rules.specs.Session.{Header}
use Rattle.fx_rules.specs.State.{State, arrivals}
use Rattle.fx_rules.specs.Sound.{IsSound}
use Rattle.fx_rules.specs.Depth.{Shows}
use Rattle.global_book.specs.Book.{Book}
use Rattle.credit_lines.specs.Credit.{Credit}
use Rattle.match_sweep.specs.Sweeps.{Fits}

-- The levels of one side of the local book, in every sound state that book and credit are of. A sound state's orders
-- arrived before its next command, and that has an arrival below 2^64.
abbrev pub IsShown : Book → Credit → ℕ → ℕ → Side → List Level → Type 0
IsShown book credit weight bank side levels =
    (h : Header) (S : State) → IsSound h S → Fits h S book credit weight → arrivals S < 2 ^ 64 → Shows h S bank book.pair side levels
