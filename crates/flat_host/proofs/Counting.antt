-- Counts of commands, and their sum.
use Rattle.std.proofs.Common.{ℕ, zero, suc, ◌+◌, ◌-◌, ◌*◌, ◌≤◌, ◌<◌, ◌^◌, List, [], ◌∷◌, arith, length, get_or}
use Rattle.std.proofs.Math.ListN.{set, length-set}
use Rattle.fx_rules.specs.Lists.{Each, total}
use Rattle.flat_host.specs.FlatState.{FlatState}
use Rattle.flat_host.specs.inside.FlatState.{IsFlatState}

pub total-bounded : (counts : List ℕ) → Each (λ c. c < 2 ^ 32) counts → total (λ c. c) counts ≤ length counts * 2 ^ 32
total-bounded [] all = omega arith
total-bounded (c ∷ counts) all = omega (arith, all.0, total-bounded counts all.1)

pub each-set : (counts : List ℕ) (i n : ℕ) → n < 2 ^ 32 → Each (λ c. c < 2 ^ 32) counts → Each (λ c. c < 2 ^ 32) (set counts i n)
each-set [] i n below all = tt
each-set (c ∷ counts) zero n below all = (below, all.1)
each-set (c ∷ counts) (suc i) n below all = (all.0, each-set counts i n below all.1)

-- one more command counted
pub counted-state : (l : FlatState) (bank : ℕ) → IsFlatState l → get_or l.counts bank 0 < 2 ^ 32 - 1 → IsFlatState (record l { counts = set l.counts bank (get_or l.counts bank 0 + 1) })
counted-state l bank is below = record {
  senders = omega (arith, is.senders, length-set l.counts bank (get_or l.counts bank 0 + 1));
  counts = each-set l.counts bank (get_or l.counts bank 0 + 1) (omega (arith, below)) is.counts;
  pairs = is.pairs;
  weights = is.weights;
}

-- a sum of numbers that are each at most one
pub total-most : (xs : List ℕ) (most : ℕ) → ((k : ℕ) → get_or xs k 0 ≤ most) → total (λ n. n) xs ≤ length xs * most
total-most [] most each' = omega arith
total-most (x ∷ xs) most each' = omega (arith, each' 0, total-most xs most (λ k. each' (suc k)))
