-- Spellings that are the text of a field.
use Rattle.std.proofs.Common.{◌≡◌, ℕ, zero, suc, ◌+◌, ◌*◌, ◌/◌, ◌%◌, ◌^◌, ◌<◌, ◌≤◌, Bool, true, ◌&&◌, List, [], ◌∷◌, length, refl, ap, arith, ltb, leb, length-append, All, ⊎_elim}
use native.Mathlib.Nat.{pow-succ', one-le-pow}
use Rattle.std.proofs.lemmas.Bool.{and_parts, cases_lt, leb-true, ltb-true}
use Rattle.std.proofs.lemmas.Bool.Decides.{nat_tests}
use Rattle.std.proofs.lemmas.Nat.{div_below}
use Rattle.std.proofs.lemmas.List.Elements.{All-nil, All-cons, All-append}
use Rattle.std.specs.Char.{is_ascii_digit}
use Rattle.std.specs.List.{list_all}
use Rattle.fx_amounts.specs.Numeral.{numeral}
use Rattle.fx_amounts.specs.PriceText.{price_text, last_digits}
use Rattle.fx_amounts.proofs.NumeralLemmas.{IsNumeralOf-numeral, numeral-digit, numeral-step}
use Rattle.fx_text.proofs.JoinedFields.{IsField}

abbrev Visible : List ℕ → Type 0
Visible text = All (λ byte. 32 < byte) text

-- each byte that passes a test is visible
visible_by : (test : ℕ → Bool) → ((byte : ℕ) → test byte ≡ true → 32 < byte) → (text : List ℕ) → list_all test text ≡ true → Visible text
visible_by test shows [] all = All-nil (λ byte. 32 < byte)
visible_by test shows (byte ∷ text) all =
    let parts = and_parts (test byte) (list_all test text) all in
    All-cons (λ byte. 32 < byte) byte text (shows byte parts.0) (visible_by test shows text parts.1)

digit_visible : (byte : ℕ) → is_ascii_digit byte ≡ true → 32 < byte
digit_visible byte digit = grind (arith, nat_tests)

-- a text whose bytes are known
abbrev is_field : List ℕ → Bool
is_field text = ltb 0 (length text) && leb (length text) 40 && list_all (λ byte. ltb 32 byte) text

pub IsField-tested : (text : List ℕ) → is_field text ≡ true → IsField text
IsField-tested text test =
    let bytes = and_parts (ltb 0 (length text) && leb (length text) 40) (list_all (λ byte. ltb 32 byte) text) test in
    let sizes = and_parts (ltb 0 (length text)) (leb (length text) 40) bytes.0 in
    record {
      some = ltb-true 0 (length text) sizes.0;
      short = leb-true (length text) 40 sizes.1;
      visible = visible_by (λ byte. ltb 32 byte) (λ byte above. ltb-true 32 byte above) text bytes.1;
    }

-- numbers
pub length-numeral : (digits n : ℕ) → n < 10 ^ suc digits → length (numeral n) ≤ suc digits
length-numeral zero n small = omega (arith, ap length (numeral-digit n small))
length-numeral (suc digits) n small = ⊎_elim
    (λ (one : n < 10). omega (arith, ap length (numeral-digit n one)))
    (λ (long : 10 ≤ n).
    let power : 10 ^ suc (suc digits) ≡ 10 * 10 ^ suc digits = pow-succ' 10 (suc digits) in
    let front : length (numeral (n / 10)) ≤ suc digits = length-numeral digits (n / 10) (omega arith) in
    omega (arith, ap length (numeral-step n long), length-append (numeral (n / 10)) ((48 + n % 10) ∷ [])))
    (cases_lt n 10)

numeral_visible : (n : ℕ) → Visible (numeral n)
numeral_visible n = visible_by is_ascii_digit digit_visible (numeral n) (IsNumeralOf-numeral n).digits

pub IsField-numeral : (n : ℕ) → n < 10 ^ 20 → IsField (numeral n)
IsField-numeral n small = record {
  some = (IsNumeralOf-numeral n).some;
  short = omega (arith, length-numeral 19 n small);
  visible = numeral_visible n;
}

-- prices
length-last_digits : (count n : ℕ) → length (last_digits count n) ≡ count
length-last_digits zero n = refl
length-last_digits (suc count) n = omega (arith, length-append (last_digits count (n / 10)) ((48 + n % 10) ∷ []), length-last_digits count (n / 10))

last_digits_visible : (count n : ℕ) → Visible (last_digits count n)
last_digits_visible zero n = All-nil (λ byte. 32 < byte)
last_digits_visible (suc count) n =
    All-append (λ byte. 32 < byte) (last_digits count (n / 10)) ((48 + n % 10) ∷ []) (last_digits_visible count (n / 10))
    (All-cons (λ byte. 32 < byte) (48 + n % 10) [] (omega arith) (All-nil (λ byte. 32 < byte)))

pub IsField-price_text : (decimals ticks : ℕ) → decimals ≤ 6 → ticks < 10 ^ 20 → IsField (price_text decimals ticks)
unfolding price_text
IsField-price_text zero ticks few small = IsField-numeral ticks small
IsField-price_text (suc more) ticks few small =
    let unit : ℕ = 10 ^ suc more in
    let some : 0 < unit = one-le-pow (suc more) 10 (omega arith) in
    let below : ticks / unit < 10 ^ 20 = div_below ticks unit (10 ^ 20) some (omega arith) in
    let whole : IsField (numeral (ticks / unit)) = IsField-numeral (ticks / unit) below in
    let fraction : List ℕ = last_digits (suc more) ticks in
    record {
      some = omega (arith, whole.some, length-append (numeral (ticks / unit)) (46 ∷ fraction));
      short = omega (arith, length-numeral 19 (ticks / unit) below, length-append (numeral (ticks / unit)) (46 ∷ fraction), length-last_digits (suc more) ticks);
      visible = All-append (λ byte. 32 < byte) (numeral (ticks / unit)) (46 ∷ fraction) whole.visible
          (All-cons (λ byte. 32 < byte) 46 fraction (omega arith) (last_digits_visible (suc more) ticks));
    }
