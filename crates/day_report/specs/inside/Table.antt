-- What private functions and proofs alone say of it, beside `specs/Table.antt`.
use Rattle.std.specs.Prelude.{ℕ, ◌<◌, ◌^◌}
use Rattle.day_report.specs.declared.table.Table.{Table}
use Rattle.day_report.specs.Table.{sum_at, HasShape}

-- sums that are below 2^127, so that the difference of two is an `i128`
pub record IsSmall (rows columns : ℕ) (table : Table) : Type 0 where
  pub shape : HasShape rows columns table
  pub most : (row column : ℕ) → row < rows → column < columns → sum_at table row column < 2 ^ 127
