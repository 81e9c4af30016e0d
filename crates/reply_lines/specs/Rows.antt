-- The lines of the output: fields with one space between each two, and a line feed.
use Rattle.std.specs.Prelude.{ℕ, List, [], ◌∷◌, ◌++◌, flat_map}

abbrev pub row : List ℕ → List (List ℕ) → List ℕ
row first rest = first ++ flat_map (λ field. 32 ∷ field) rest ++ 10 ∷ []
