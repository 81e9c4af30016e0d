-- A bank's local book of a pair, of a book and lines.
use Rattle.std.specs.Prelude.{ℕ, ◌<◌, ◌^◌, List}
use Rattle.fx_rules.specs.declared.outcome.Entry.{Entry}
use Rattle.fx_rules.specs.declared.outcome.Outcome.{Outcome}
use Rattle.fx_rules.specs.declared.outcome.Outcome.TheVariants.{Depth}
use Rattle.fx_rules.specs.Session.{Header}
use Rattle.fx_rules.specs.State.{State, arrivals}
use Rattle.fx_rules.specs.Sound.{IsSound}
use Rattle.fx_rules.specs.History.{IsLegal, state}
use Rattle.fx_rules.specs.Depth.{IsDepth}
use Rattle.global_book.specs.Book.{Book}
use Rattle.credit_lines.specs.Credit.{Credit}
use Rattle.match_sweep.specs.Sweeps.{Fits}

-- the same of both sides
abbrev pub IsLocalBook : Book → Credit → ℕ → ℕ → Outcome → Type 0
IsLocalBook book credit weight bank (Depth bids asks) =
    (h : Header) (S : State) → IsSound h S → Fits h S book credit weight → arrivals S < 2 ^ 64 → IsDepth h S bank book.pair bids asks
IsLocalBook book credit weight bank _ = ⊥

-- both sides in the state of every legal history that book and credit are of: it is sound, and has fewer arrivals
abbrev pub IsLegalLocalBook : Book → Credit → ℕ → ℕ → Outcome → Type 0
IsLegalLocalBook book credit weight bank (Depth bids asks) =
    (h : Header) (entries : List Entry) → IsLegal h entries → Fits h (state h entries) book credit weight →
    IsDepth h (state h entries) bank book.pair bids asks
IsLegalLocalBook book credit weight bank _ = ⊥
