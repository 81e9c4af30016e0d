-- The fronts of the pairs as a host opens.
use Rattle.std.specs.Prelude.{ℕ, ◌≡◌, ◌+◌, List, [], ◌∷◌}
use Rattle.fx_rules.specs.declared.outcome.Entry.{Entry}
use Rattle.fx_rules.specs.Keyed.{pair_key}
use Rattle.fx_chronicle.specs.Faces.{Witness, witness}

-- the fronts of the pairs from one on, in the order of the header, which have seen nothing
abbrev pub ArePairFronts : ℕ → List (Witness Entry) → Type 0
ArePairFronts pair [] = Unit {0}
ArePairFronts pair (front ∷ fronts) = (front ≡ witness (pair_key pair) []) × ArePairFronts (pair + 1) fronts
