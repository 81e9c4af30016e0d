use Rattle.std.proofs.Common.{ℕ, ◌<◌, ◌≤◌, ◌^◌, get_or}
use Rattle.credit_raise.proofs.prices.least_of.Given as goal

-- no word that was passed is below the first
abbrev pub invariant-loop-bank : goal.invariant-loop-bank
invariant-loop-bank l = record {
  within : l.first < 64;
  least : (k : ℕ) → k < l.bank → (get_or l.words l.first 0 ≤ get_or l.words k 0) × (get_or l.words k 0 < 2 ^ 64);
}
