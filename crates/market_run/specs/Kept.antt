-- What contracts see of a history that is kept as it is made: the entries so far, and for how many more there is capacity.
use Rattle.std.specs.Prelude.{ℕ, List}
use Rattle.fx_rules.specs.declared.outcome.Entry.{Entry}

pub record Kept : Type 0 where
  pub entries : List Entry
  pub room : ℕ
