-- The numbers of few digits.
use Rattle.std.proofs.Common.{◌≡◌, ℕ, suc, ◌+◌, ◌-◌, ◌*◌, ◌^◌, ◌<◌, ◌≤◌, true, List, [], ◌∷◌, length, take, get_or, refl, ap, ◌∙◌, arith}
use Rattle.std.proofs.lemmas.List.{take_more}
use Rattle.std.proofs.lemmas.List.Folds.{list_all_more}
use native.Mathlib.Nat.{pow-succ', pow-le-pow_right}
use Rattle.std.specs.Char.{is_ascii_digit, digit_value}
use Rattle.std.specs.List.{list_all}
use Rattle.std.specs.Str.Parse.{digits_value_after}
use Rattle.fx_amounts.proofs.NumeralLemmas.{byte-digit_value, digits_value_after-append}

-- a digit more behind some that stand behind those of `front`
pub digits_value_after-digit : (front : ℕ) (text : List ℕ) (i : ℕ) → i < length text → is_ascii_digit (get_or text i 0) ≡ true
    → digits_value_after 10 front (take (i + 1) text) ≡ digits_value_after 10 front (take i text) * 10 + (get_or text i 0 - 48)
digits_value_after-digit front text i within digit =
    let byte : ℕ = get_or text i 0 in
    let value : digit_value byte ≡ byte - 48 = omega (arith, byte-digit_value byte digit) in
    ap (digits_value_after 10 front) (take_more text i 0 within) ∙ digits_value_after-append front (take i text) (byte ∷ [])
    ∙ ap (λ (d : ℕ). digits_value_after 10 front (take i text) * 10 + d) value

pub list_all-digit : (text : List ℕ) (i : ℕ) → i < length text → list_all is_ascii_digit (take i text) ≡ true → is_ascii_digit (get_or text i 0) ≡ true → list_all is_ascii_digit (take (i + 1) text) ≡ true
list_all-digit text i within front digit = rw (list_all_more is_ascii_digit text i 0 within, front, digit) refl

-- a number of so many digits, with one more
pub below-digit : (value digit digits i : ℕ) → value < 10 ^ (digits + i) → digit ≤ 9 → value * 10 + digit < 10 ^ (digits + (i + 1))
below-digit value digit digits i below few =
    let next : digits + (i + 1) ≡ suc (digits + i) = omega arith in
    let power : 10 ^ (digits + (i + 1)) ≡ 10 * 10 ^ (digits + i) = ap (λ (n : ℕ). 10 ^ n) next ∙ pow-succ' 10 (digits + i) in
    omega arith

pub fits-digits : (value digits : ℕ) → digits ≤ 19 → value < 10 ^ digits → value < 2 ^ 64
fits-digits value digits few below =
    let most : 10 ^ digits ≤ 10 ^ 19 = pow-le-pow_right (omega arith) few in
    omega arith

pub below-room : (value digits room : ℕ) → value < 10 ^ digits → digits ≤ room → value < 10 ^ room
below-room value digits room below within =
    let most : 10 ^ digits ≤ 10 ^ room = pow-le-pow_right (omega arith) within in
    omega arith
