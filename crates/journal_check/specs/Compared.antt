-- A text beside another one.
use Rattle.std.specs.Prelude.{ℕ, ◌+◌, ◌==◌, if◌then◌else◌, List, [], ◌∷◌, Result, Ok, Err}

-- Whether a text begins with another one, from the offset on at which both stand: where that one ends, or the first place
-- where the text has another byte or has ended.
unfoldable pub beginning : ℕ → List ℕ → List ℕ → Result ℕ ℕ
beginning at [] text = Ok at
beginning at (byte ∷ wanted) [] = Err at
beginning at (byte ∷ wanted) (other ∷ text) = if other == byte then beginning (at + 1) wanted text else Err at
