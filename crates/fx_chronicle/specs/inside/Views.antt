-- What private functions and proofs alone say of it, beside `specs/Views.antt`.
use Rattle.std.specs.Prelude.{ℕ, List, [], ◌∷◌}
use Rattle.fx_chronicle.specs.declared.rule.View.{View}

module _ {E : Type 0} where
  abbrev pub seen_of : List (View E) → List E
  seen_of [] = []
  seen_of (v ∷ vs) = v.seen

  abbrev pub met_of : List (View E) → List E
  met_of [] = []
  met_of (v ∷ vs) = v.met

  abbrev pub pending_of : List (View E) → List ℕ
  pending_of [] = []
  pending_of (v ∷ vs) = v.pending
