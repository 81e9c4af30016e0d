-- What private functions and proofs alone say of it, beside `specs/Faces.antt`.
use Rattle.std.specs.Prelude.{◌≡◌, ◌<◌}
use Rattle.atomic_table.specs.Seated.{TableId}

-- a table and a seat at it are those that were named, and there is a word
pub record AtNamed (named table seat : TableId) : Type 0 where
  pub table_is : table ≡ named
  pub seat_is : seat ≡ named
  pub word : 0 < named.words
