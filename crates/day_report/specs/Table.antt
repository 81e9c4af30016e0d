-- Tables of sums.
use Rattle.std.specs.Prelude.{ℕ, ◌≡◌, ◌<◌, ◌+◌, ◌*◌, length, slice_index}
use Rattle.day_report.specs.declared.table.Table.{Table}

-- where a row and a column meet, row by row
abbrev pub place : ℕ → ℕ → ℕ → ℕ
place columns row column = row * columns + column

abbrev pub sum_at : Table → ℕ → ℕ → ℕ
sum_at table row column = slice_index table.cells.items (place table.columns row column)

-- a table of so many rows and columns
pub record HasShape (rows columns : ℕ) (table : Table) : Type 0 where
  pub columns_are : table.columns ≡ columns
  pub full : length table.cells.items ≡ rows * columns

-- its sums are these
pub record IsTable (rows columns : ℕ) (sums : ℕ → ℕ → ℕ) (table : Table) : Type 0 where
  pub shape : HasShape rows columns table
  pub each : (row column : ℕ) → row < rows → column < columns → sum_at table row column ≡ sums row column
