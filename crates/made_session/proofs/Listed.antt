-- Lists that are made by place.
use Rattle.std.proofs.Common.{ℕ, ◌≡◌, ◌+◌, [], ◌∷◌, ◌++◌, map}
use Rattle.fx_rules.specs.Lists.{below}
use Rattle.fx_rules.proofs.Below.{map-more}

-- one place more
pub made_more : {X : Type 0} (f : ℕ → X) (n : ℕ) → map f (below (n + 1)) ≡ map f (below n) ++ f n ∷ []
made_more f n = map-more f n
