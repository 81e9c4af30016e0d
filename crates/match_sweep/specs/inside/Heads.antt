-- What is said of a sweep's heads. All of this is for this crate's own functions, which plan.
use Rattle.std.specs.Prelude.{ℕ, ◌<◌, List}
use Rattle.fx_rules.specs.declared.orders.Resting.{Resting}
use Rattle.fx_rules.specs.Lists.{Each}

-- every order arrived before this
abbrev pub CameBefore : List Resting → ℕ → Type 0
CameBefore orders arrival = Each (λ order. order.arrival < arrival) orders
