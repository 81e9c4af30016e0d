-- What private functions and proofs alone say of it, beside `specs/Orders.antt`.
use Rattle.std.specs.Prelude.{ℕ, ◌≡◌, ◌<◌, ◌^◌, List, Option, Some, None, slice_index_or}
use Rattle.fx_rules.specs.declared.orders.Resting.{Resting}
use Rattle.order_store.specs.inside.Rows.{Row, row_at, key_in}

-- the row of each order's bank has its key with its number
pub record AreNamed (slots : List (Option Resting)) (rows : List Row) : Type 0 where
  pub named : (key : ℕ) (order : Resting) → slice_index_or slots key None ≡ Some order → key_in (row_at rows order.bank).entries order.number ≡ Some key
  pub numbered : (key : ℕ) (order : Resting) → slice_index_or slots key None ≡ Some order → (order.bank < 65) × (order.number < 2 ^ 32)
