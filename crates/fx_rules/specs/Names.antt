-- The texts of banks' names and of currency codes, as lists of bytes.
use Rattle.std.specs.Prelude.{ℕ, Bool, false, ◌&&◌, ◌||◌, ◌-◌, not, nat_le, List, [], ◌∷◌, ◌++◌, length, slice_index, replicate, codes, bytes_eq}
use Rattle.std.specs.Char.{is_ascii_digit, is_ascii_uppercase}
use Rattle.std.specs.List.{list_all}

-- a letter A to Z or a digit 0 to 9
abbrev pub is_name_byte : ℕ → Bool
is_name_byte byte = is_ascii_uppercase byte || is_ascii_digit byte

-- a bank's name: 3 to 8 letters and digits, a letter first, and neither `HOST` nor `END`
abbrev pub is_name : List ℕ → Bool
is_name text = nat_le 3 (length text) && nat_le (length text) 8 && is_ascii_uppercase (slice_index text 0)
    && list_all is_name_byte text && not (bytes_eq text (codes "HOST") || bytes_eq text (codes "END"))

-- a currency code: three letters
abbrev pub is_code : List ℕ → Bool
is_code (a ∷ b ∷ c ∷ []) = is_ascii_uppercase a && is_ascii_uppercase b && is_ascii_uppercase c
is_code _ = false

-- a text with zeros behind it, up to eight bytes
abbrev pub padded : List ℕ → List ℕ
padded text = text ++ replicate (8 - length text) 0
