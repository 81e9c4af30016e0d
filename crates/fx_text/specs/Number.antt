-- The text of a number.
use Rattle.std.specs.Prelude.{ℕ, suc, ◌&&◌, nat_le, if◌then◌else◌, List, ◌∷◌, ℤ, pos, negsuc, Option, Some, None}
use Rattle.std.specs.Str.Parse.{digits_value}
use Rattle.fx_amounts.specs.Numeral.{numeral, is_numeral}

-- the number from `least` to `most` that a text is the numeral of
unfoldable pub number_of : ℕ → ℕ → List ℕ → Option ℕ
number_of least most text = let value = digits_value 10 text in
    if is_numeral text && nat_le least value && nat_le value most then Some value else None

-- a number with a minus before its digits where it is below 0
abbrev pub signed_numeral : ℤ → List ℕ
signed_numeral (pos n) = numeral n
signed_numeral (negsuc n) = 45 ∷ numeral (suc n)
