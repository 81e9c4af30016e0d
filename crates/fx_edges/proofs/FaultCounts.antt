-- Counts of faults that rose.
use Rattle.std.proofs.Common.{ℕ, ◌≤◌, arith}
use Rattle.fx_edges.specs.Faults.{Rose}

-- a count that rose in a later part rose in all, if it didn't fall before
pub Rose-from_later : (a b c : ℕ) → a ≤ b → Rose b c → Rose a c
Rose-from_later a b c stays rose = omega arith
