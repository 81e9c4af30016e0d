-- The best order that is sought, found from bank to bank.
use Rattle.std.specs.Prelude.{ℕ, ◌≡◌, ◌<◌, false, List, Option, None, IfSome, IsSomeAnd, slice_index}
use Rattle.fx_amounts.specs.Side.{opposite}
use Rattle.fx_amounts.specs.declared.side.Side.{Side}
use Rattle.fx_rules.specs.declared.orders.Resting.{Resting}
use Rattle.fx_rules.specs.Lists.{Among}
use Rattle.fx_rules.specs.Sweep.{is_preferred}
use Rattle.global_book.specs.Sought.{sought}

-- one of the orders that are sought, whatever the limit, to which a taker prefers none of the first so many of these banks
pub record IsBestYet (orders : List Resting) (side : Side) (reach : List ℕ) (before : ℕ) (past : Option Resting) (owners : List ℕ) (count : ℕ) (best : Option Resting) : Type 0 where
  pub there : IfSome best (λ order. Among order (sought side reach None before past orders))
  pub first : (other : Resting) → Among other (sought side reach None before past orders) → (at : ℕ) → at < count → slice_index owners at ≡ other.bank
      → IsSomeAnd best (λ order. is_preferred (opposite side) other order ≡ false)
