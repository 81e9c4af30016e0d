-- A disk that tells no bytes.
use Rattle.std.specs.Prelude.{◌≡◌, ℕ, List, None, Some}

pub none_told : {file : List ℕ} → None ≡ Some file → ⊥
none_told e = absurd (cc)
