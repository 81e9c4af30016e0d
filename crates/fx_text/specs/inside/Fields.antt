-- What is kept of the fields of a line.
use Rattle.std.specs.Prelude.{◌≡◌, ℕ, List, length, map, take}
use Rattle.fx_text.specs.declared.field.Kept.{Kept}

-- all fields so far are counted, and the first eight are kept
pub record Keeps (kept : Kept) (fields : List (List ℕ)) : Type 0 where
  pub room : length kept.first ≡ 8
  pub counted : kept.count ≡ length fields
  pub eight : map (λ part. part.now) (take kept.count kept.first) ≡ take 8 fields
