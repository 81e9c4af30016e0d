-- The decimal text of a number, of any length.
use Rattle.std.specs.Prelude.{ℕ, ◌+◌, Bool, ◌&&◌, not, ◌==◌, nat_lt, if◌then◌else◌, List, [], ◌∷◌, map, length, slice_index}
use Rattle.std.specs.Char.{is_ascii_digit}
use Rattle.std.specs.List.{list_all}
use Rattle.std.specs.Int.Digits.{digits_of}

-- the decimal digits of a number, without a leading zero
unfoldable pub numeral : ℕ → List ℕ
numeral n = if n == 0 then 48 ∷ [] else map (λ digit. 48 + digit) (digits_of 10 n)

-- whether the text is the numeral of a number: digits alone, one at least, of which the first is `0` in the text `0` alone
unfoldable pub is_numeral : List ℕ → Bool
is_numeral text = (nat_lt 0 (length text) && list_all is_ascii_digit text) && not (nat_lt 1 (length text) && (slice_index text 0 == 48))
