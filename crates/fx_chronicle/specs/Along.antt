-- What holds along every legal history.
use Rattle.std.specs.Prelude.{ℕ, ◌≡◌, List, take, slice_get, Some}
use Rattle.fx_rules.specs.declared.outcome.Entry.{Entry}
use Rattle.fx_rules.specs.Session.{Header}
use Rattle.fx_rules.specs.State.{State, Within}
use Rattle.fx_rules.specs.NoCross.{NoCross}
use Rattle.fx_rules.specs.History.{state, Falls}

-- the state before the entry at a place, which is also the one after the entries in front of it
abbrev pub state_before : Header → List Entry → ℕ → State
state_before h entries place = state h (take place entries)

pub record IsOrderly (h : Header) (entries : List Entry) : Type 0 where
  -- no line and no total is exceeded, and what they leave falls by the fills and rises by what is given back
  pub no_line_exceeded : (place : ℕ) → Within h (state_before h entries place)
  pub lines_fall : (place : ℕ) (entry : Entry) → slice_get entries place ≡ Some entry → Falls h (state_before h entries place) entry
  -- no orders that can reach each other rest crossed
  pub no_orders_crossed : (place : ℕ) → NoCross h (state_before h entries place)
