-- What contracts see of the ends in memory, whose calls fail as they are told beforehand.
use Rattle.std.specs.Prelude.{ℕ, List}

-- a source in memory
pub record Feed : Type 0 where
  -- the bytes still to come
  pub left : List ℕ
  -- the most bytes that one call gives
  pub most : ℕ
  -- the calls so far
  pub calls : ℕ
  -- the numbers of the calls that fail
  pub fails : List ℕ
  pub faults : ℕ

-- a sink in memory
pub record Tape : Type 0 where
  -- the bytes that it holds
  pub written : List ℕ
  -- the most bytes that one call takes
  pub most : ℕ
  -- the calls so far
  pub calls : ℕ
  -- the numbers of the calls that fail
  pub fails : List ℕ
  pub faults : ℕ
