-- The number that a text begins with, by its first digits.
use Rattle.std.proofs.Common.{◌≡◌, ◌≢◌, ℕ, suc, ◌+◌, ◌-◌, ◌*◌, ◌^◌, ◌<◌, ◌≤◌, Bool, true, ◌&&◌, not, eqb, ltb, List, [], ◌∷◌, ◌++◌, length, take, drop, zero, get_or, inl, inr, refl, sym, ap, ap₂, ◌∙◌, arith, append_assoc, length-take-le, get_or-take}
use Rattle.std.proofs.lemmas.Bool.{cases_lt, lt-ltb, le-ltb, ne_eqb, and_from}
use Rattle.std.proofs.lemmas.List.{take_all}
use Rattle.std.specs.Char.{is_ascii_digit, digit_value}
use Rattle.std.specs.List.{list_all}
use Rattle.std.specs.Str.Parse.{digits_value_after}
use Rattle.fx_amounts.specs.Numeral.{numeral, is_numeral}
use Rattle.fx_amounts.specs.PriceText.{price_text}
use Rattle.fx_amounts.proofs.DigitLemmas.{below-digit, fits-digits}
use Rattle.fx_amounts.proofs.NumeralLemmas.{byte-digit_value, digit_value-below, numeral-digit, numeral-digits_value}
use Rattle.fx_amounts.proofs.PriceTextLemmas.{Extends, Extends-digits}

-- digits without a leading zero are a number's one spelling
front_is : (field : List ℕ) (digits : ℕ) → length field ≡ digits → 1 ≤ digits → list_all is_ascii_digit field ≡ true → (1 < digits → get_or field 0 0 ≢ 48) → is_numeral field ≡ true
unfolding is_numeral
front_is field digits len some all lead =
    elim (cases_lt 1 digits) [
      | inl more ↦ ap₂ (λ (a b : Bool). a && b) (and_from (ltb 0 (length field)) (list_all is_ascii_digit field) (lt-ltb 0 (length field) (omega (arith, len, some))) all)
          (ap not (ap₂ (λ (a b : Bool). a && b) (lt-ltb 1 (length field) (omega (arith, len, more))) (ne_eqb (get_or field 0 0) 48 (lead more))))
      | inr one ↦ ap₂ (λ (a b : Bool). a && b) (and_from (ltb 0 (length field)) (list_all is_ascii_digit field) (lt-ltb 0 (length field) (omega (arith, len, some))) all)
          (ap (λ (a : Bool). not (a && eqb (get_or field 0 0) 48)) (le-ltb 1 (length field) (omega (arith, len, one))))
    ]

pub front_number : (text : List ℕ) (digits value : ℕ) → digits ≤ length text → 1 ≤ digits → list_all is_ascii_digit (take digits text) ≡ true → (1 < digits → get_or text 0 0 ≢ 48) → value ≡ digits_value_after 10 0 (take digits text)
    → numeral value ≡ take digits text
front_number text digits value within some all lead is =
    ap numeral is ∙ numeral-digits_value (take digits text)
    (front_is (take digits text) digits (length-take-le digits text within) some all (λ more same. lead more (sym (get_or-take digits text 0 0 (omega (arith, some))) ∙ same)))

-- a number, a point and so many digits are a price's one spelling
pub front_price : (decimals whole ticks : ℕ) (fraction : List ℕ) → decimals ≢ 0 → length fraction ≡ decimals → list_all is_ascii_digit fraction ≡ true → ticks ≡ digits_value_after 10 whole fraction
    → price_text decimals ticks ≡ numeral whole ++ 46 ∷ fraction
unfolding price_text
front_price zero whole ticks fraction some len all is = absurd (some refl)
front_price (suc more) whole ticks fraction some len all is =
    let there : Extends whole (length fraction) fraction (digits_value_after 10 whole fraction) = Extends-digits whole fraction all in
    let here : Extends whole (suc more) fraction ticks = rw (is, ← len) there in
    ap₂ (λ (n : ℕ) (text : List ℕ). numeral n ++ 46 ∷ text) here.first here.last

pub whole_price : (decimals ticks : ℕ) → decimals ≡ 0 → price_text decimals ticks ≡ numeral ticks
unfolding price_text
whole_price zero ticks none = refl
whole_price (suc more) ticks none = absurd (omega (arith, none))

-- what stands around a number
pub around_number : (text behind : List ℕ) (digits value end : ℕ) → text ≡ take digits text ++ end ∷ behind → numeral value ≡ take digits text → text ≡ numeral value ++ end ∷ behind
around_number text behind digits value end is number = is ∙ ap (λ (front : List ℕ). front ++ end ∷ behind) (sym number)

-- a text that begins with a digit and a point
pub around_digit : (text : List ℕ) (value : ℕ) → 2 ≤ length text → is_ascii_digit (get_or text 0 0) ≡ true → value ≡ get_or text 0 0 - 48 → get_or text 1 0 ≡ 46
    → text ≡ numeral value ++ 46 ∷ take (length text - 2) (drop 2 text)
around_digit [] value long digit is point = absurd (omega (arith, long))
around_digit (first ∷ []) value long digit is point = absurd (omega (arith, long))
around_digit (first ∷ second ∷ rest) value long digit is point =
    let value_is : value ≡ first - 48 = is in
    let byte : 48 + digit_value first ≡ first = byte-digit_value first digit in
    let few : digit_value first < 10 = digit_value-below first digit in
    let one : numeral value ≡ first ∷ [] = numeral-digit value (omega arith) ∙ ap (λ (d : ℕ). d ∷ []) (omega arith) in
    let len : length (first ∷ second ∷ rest) ≡ suc (suc (length rest)) = refl in
    let whole : take (length (first ∷ second ∷ rest) - 2) rest ≡ rest = take_all (length (first ∷ second ∷ rest) - 2) rest (omega arith) in
    ap₂ (λ (d : ℕ) (more : List ℕ). first ∷ d ∷ more) point (sym whole)
    ∙ ap (λ (front : List ℕ). front ++ 46 ∷ take (length (first ∷ second ∷ rest) - 2) rest) (sym one)

-- what stands around a price without a point, and around one with a point
pub around_whole : (text behind : List ℕ) (places ticks end : ℕ) → places ≡ 0 → text ≡ numeral ticks ++ end ∷ behind → text ≡ price_text places ticks ++ end ∷ behind
around_whole text behind places ticks end none is = is ∙ ap (λ (front : List ℕ). front ++ end ∷ behind) (sym (whole_price places ticks none))

pub around_price : (text fraction behind : List ℕ) (places whole ticks end : ℕ) → places ≢ 0 → text ≡ numeral whole ++ 46 ∷ fraction → fraction ≡ take places fraction ++ end ∷ behind
    → places ≤ length fraction → list_all is_ascii_digit (take places fraction) ≡ true → ticks ≡ digits_value_after 10 whole (take places fraction) → text ≡ price_text places ticks ++ end ∷ behind
around_price text fraction behind places whole ticks end some is on within all ticks_are =
    is ∙ ap (λ (rest : List ℕ). numeral whole ++ 46 ∷ rest) on
    ∙ sym (append_assoc (numeral whole) (46 ∷ take places fraction) (end ∷ behind))
    ∙ ap (λ (front : List ℕ). front ++ end ∷ behind) (sym (front_price places whole ticks (take places fraction) some (length-take-le places fraction within) all ticks_are))

-- a number with a digit more behind it, where there is room for it
pub more_digits : (front value digit most at : ℕ) → ((digits : ℕ) → front < 10 ^ digits → value < 10 ^ (digits + at)) → front < 10 ^ (19 - most) → at < most → most ≤ 19 → digit ≤ 9 → value * 10 + digit < 2 ^ 64
more_digits front value digit most at below fits within few small =
    fits-digits (value * 10 + digit) (19 - most + (at + 1)) (omega arith) (below-digit value digit (19 - most) at (below (19 - most) fits) small)
