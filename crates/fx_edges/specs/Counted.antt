-- What contracts see of an end over a stream of std.
use Rattle.std.specs.Prelude.{ℕ}

-- a stream of std, and how many faults it met
pub record Counted (S : Type 0) : Type 0 where
  pub inner : S
  pub faults : ℕ
