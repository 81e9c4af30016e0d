-- What private functions and proofs alone say of it, beside `specs/Two.antt`.
use Rattle.std.specs.Prelude.{ℕ, List, filter}
use Rattle.fx_rules.specs.declared.orders.Resting.{Resting}
use Rattle.credit_raise.specs.Two.{is_of_two}

-- the orders of two banks
abbrev pub turns : ℕ → ℕ → List Resting → List Resting
turns i j orders = filter (is_of_two i j) orders
