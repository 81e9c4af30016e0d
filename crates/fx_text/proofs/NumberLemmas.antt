-- The numbers that texts write.
use Rattle.std.proofs.Common.{◌≡◌, ◌≢◌, ℕ, suc, ◌+◌, ◌-◌, ◌*◌, ◌^◌, ◌<◌, ◌≤◌, Bool, true, false, not, ◌&&◌, List, [], ◌∷◌, length, take, get_or, refl, sym, ap, ◌∙◌, subst, arith, leb, ltb, eqb, ⊎_elim, IfSome, SomeIff, IsTrue, Option, Some, None, ℤ, pos, negsuc, decimal, SFits}
use mir.Syntax.{w128}
use Rattle.std.specs.Fmt.{signed_decimal}
use Rattle.std.proofs.lemmas.Bool.{and_parts, and_right, cases_Bool, cases_lt, false_from_ne_true, both_ways, leb-true, le-leb, lt-leb, lt-ltb, ne_eqb, cond-true, cond-false}
use Rattle.std.proofs.Math.Bool.{and-false}
use Rattle.std.proofs.lemmas.List.{take_all}
use Rattle.std.proofs.lemmas.List.Folds.{list_all_at}
use Rattle.std.proofs.lemmas.Str.Parse.{digits_value-take-le}
use Rattle.std.specs.Char.{is_ascii_digit}
use Rattle.std.specs.List.{list_all}
use Rattle.std.specs.Str.Parse.{digits_value}
use Rattle.fx_amounts.specs.Numeral.{numeral, is_numeral}
use Rattle.fx_amounts.proofs.DigitLemmas.{digits_value_after-digit, fits-digits}
use Rattle.fx_amounts.proofs.NumeralLemmas.{is_numeral-numeral, digits_value-numeral, numeral-digits_value, decimal-numeral}
use Rattle.fx_text.specs.Number.{number_of, signed_numeral}

-- a numeral in the range is read as its number
pub number_of-numeral : (least most value : ℕ) → least ≤ value → value ≤ most → number_of least most (numeral value) ≡ Some value
unfolding number_of
number_of-numeral least most value low high = rw (is_numeral-numeral value, digits_value-numeral value, le-leb least value low, le-leb value most high) refl

-- what was read is in the range, and the text is its numeral
pub record Reads (low high : ℕ) (text : List ℕ) (read : Option ℕ) : Type 0 where
  pub least : IfSome read (λ value. low ≤ value)
  pub most : IfSome read (λ value. value ≤ high)
  pub spelling : IfSome read (λ value. text ≡ numeral value)
  pub spelled : (value : ℕ) → text ≡ numeral value → low ≤ value → value ≤ high → read ≡ Some value

reads_spelled : (least most : ℕ) (text : List ℕ) (value : ℕ) → text ≡ numeral value → least ≤ value → value ≤ most → number_of least most text ≡ Some value
reads_spelled least most text value is low high = ap (number_of least most) is ∙ number_of-numeral least most value low high

abbrev in_range : ℕ → ℕ → List ℕ → Bool
in_range least most text = is_numeral text && leb least (digits_value 10 text) && leb (digits_value 10 text) most

reads_some : (least most : ℕ) (text : List ℕ) → in_range least most text ≡ true → Reads least most text (Some (digits_value 10 text))
reads_some least most text in_it =
    let parts = and_parts (is_numeral text && leb least (digits_value 10 text)) (leb (digits_value 10 text) most) in_it in
    let front = and_parts (is_numeral text) (leb least (digits_value 10 text)) parts.0 in
    record {
      least = leb-true least (digits_value 10 text) front.1;
      most = leb-true (digits_value 10 text) most parts.1;
      spelling = sym (numeral-digits_value text front.0);
      spelled = λ value is low high. ap Some (ap (digits_value 10) is ∙ digits_value-numeral value);
    }

pub Reads-number_of : (least most : ℕ) (text : List ℕ) → Reads least most text (number_of least most text)
unfolding number_of
Reads-number_of least most text = ⊎_elim
    (λ (in_it : in_range least most text ≡ true).
    let is : number_of least most text ≡ Some (digits_value 10 text) = cond-true _ _ _ in_it in
    subst (λ (read : Option ℕ). Reads least most text read) (sym is) (reads_some least most text in_it))
    (λ (out : in_range least most text ≡ false).
    let is : number_of least most text ≡ None = cond-false _ _ _ out in
    subst (λ (read : Option ℕ). Reads least most text read) (sym is)
    (record { least = tt; most = tt; spelling = tt; spelled = λ value spelling low high. sym is ∙ reads_spelled least most text value spelling low high }))
    (cases_Bool (in_range least most text))

-- texts that write no number in the range
not_numeral : (least most : ℕ) (text : List ℕ) → is_numeral text ≡ false → number_of least most text ≡ None
unfolding number_of
not_numeral least most text other = rw (other) refl

pub number_of-no_byte : (least most : ℕ) → number_of least most [] ≡ None
unfolding is_numeral number_of
number_of-no_byte least most = refl

pub number_of-leading_zero : (least most : ℕ) (text : List ℕ) → 1 < length text → get_or text 0 0 ≡ 48 → number_of least most text ≡ None
unfolding is_numeral
number_of-leading_zero least most text long zero = not_numeral least most text (rw (lt-ltb 1 (length text) long, zero) (and-false (ltb 0 (length text) && list_all is_ascii_digit text)))

pub number_of-other_byte : (least most : ℕ) (text : List ℕ) (i : ℕ) → i < length text → is_ascii_digit (get_or text i 0) ≡ false → number_of least most text ≡ None
unfolding is_numeral
number_of-other_byte least most text i within other = not_numeral least most text (false_from_ne_true (is_numeral text) (λ form.
    let some : Bool = ltb 0 (length text) in
    let digits : Bool = list_all is_ascii_digit text in
    let leads : Bool = not (ltb 1 (length text) && eqb (get_or text 0 0) 48) in
    let parts : ((some && digits) ≡ true) × (leads ≡ true) = and_parts (some && digits) leads form in
    both_ways digits (list_all_at is_ascii_digit text i 0 within other) (and_parts some digits parts.0).1))

pub number_of-too_large : (least most : ℕ) (text : List ℕ) (i : ℕ) → most < digits_value 10 (take i text) → number_of least most text ≡ None
unfolding number_of
number_of-too_large least most text i large =
    let high : leb (digits_value 10 text) most ≡ false = lt-leb (digits_value 10 text) most (omega (arith, digits_value-take-le 10 text i (omega arith))) in
    cond-false (in_range least most text) (Some (digits_value 10 text)) None (and_right (is_numeral text && leb least (digits_value 10 text)) (leb (digits_value 10 text) most) high)

-- a byte that the digits before it do not go on with
pub number_of-stops : (least most : ℕ) (text : List ℕ) (i value : ℕ) → i < length text → value ≡ digits_value 10 (take i text)
    → ¬ ((is_ascii_digit (get_or text i 0) ≡ true) × (value * 10 + (get_or text i 0 - 48) < most + 1)) → number_of least most text ≡ None
number_of-stops least most text i value within is stops = ⊎_elim
    (λ (digit : is_ascii_digit (get_or text i 0) ≡ true). ⊎_elim
    (λ (fits : value * 10 + (get_or text i 0 - 48) < most + 1). absurd (stops (digit, fits)))
    (λ (large : most + 1 ≤ value * 10 + (get_or text i 0 - 48)). number_of-too_large least most text (i + 1) (omega (arith, digits_value_after-digit 0 text i within digit)))
    (cases_lt (value * 10 + (get_or text i 0 - 48)) (most + 1)))
    (λ (other : is_ascii_digit (get_or text i 0) ≡ false). number_of-other_byte least most text i within other)
    (cases_Bool (is_ascii_digit (get_or text i 0)))

-- a short text, of which no number is too large
pub number_of-short : (text : List ℕ) (read : Option ℕ) → length text ≤ 19 → SomeIff read (IsTrue (is_numeral text)) (digits_value 10 text) → IfSome read (λ value. value < 10 ^ length text) → read ≡ number_of 0 (2 ^ 64 - 1) text
unfolding number_of
number_of-short text None short other below = sym (not_numeral 0 (2 ^ 64 - 1) text (false_from_ne_true (is_numeral text) other))
number_of-short text (Some value) short is below =
    let same : digits_value 10 text ≡ value = sym is.1 in
    let fits : value < 2 ^ 64 = fits-digits value (length text) short below in
    sym (rw (is.0, same, le-leb 0 value (omega arith), le-leb value (2 ^ 64 - 1) (omega arith)) refl)

-- a text that writes a number
pub number_of-digits : (most : ℕ) (text : List ℕ) (i value : ℕ) → length text ≤ i → 1 < length text → get_or text 0 0 ≢ 48 → list_all is_ascii_digit (take i text) ≡ true → value ≡ digits_value 10 (take i text) → value ≤ most → number_of 0 most text ≡ Some value
unfolding is_numeral number_of
number_of-digits most text i value all long other digits is high =
    let whole : take i text ≡ text = take_all i text all in
    let is' : digits_value 10 text ≡ value = ap (digits_value 10) (sym whole) ∙ sym is in
    let digits' : list_all is_ascii_digit text ≡ true = ap (list_all is_ascii_digit) (sym whole) ∙ digits in
    rw (lt-ltb 0 (length text) (omega arith), lt-ltb 1 (length text) long, ne_eqb (get_or text 0 0) 48 other, digits', is', le-leb 0 value (omega arith), le-leb value most high) refl

none_unless : (option : Option ℕ) → ((value : ℕ) → option ≡ Some value → ⊥) → option ≡ None
none_unless None h = refl
none_unless (Some value) h = absurd (h value refl)

-- a narrower range
pub number_of-narrow : (least most large : ℕ) (text : List ℕ) (value : ℕ) → number_of 0 large text ≡ Some value → least ≤ value → value ≤ most → number_of least most text ≡ Some value
number_of-narrow least most large text value is low high =
    let wide = Reads-number_of 0 large text in
    let spelling : text ≡ numeral value = rw is at wide.spelling in
    reads_spelled least most text value spelling low high

pub number_of-outside : (least most large : ℕ) (text : List ℕ) → (option : Option ℕ) → number_of 0 large text ≡ option → most ≤ large → IfSome option (λ value. (least ≤ value → value ≤ most → ⊥)) → number_of least most text ≡ None
number_of-outside least most large text option is high outside = none_unless (number_of least most text) (λ value found.
    let narrow = Reads-number_of least most text in
    let low : least ≤ value = rw found at narrow.least in
    let up : value ≤ most = rw found at narrow.most in
    let spelling : text ≡ numeral value = rw found at narrow.spelling in
    let read : number_of 0 large text ≡ Some value = reads_spelled 0 large text value spelling (omega arith) (omega arith) in
    let same : option ≡ Some value = sym is ∙ read in
    let out : least ≤ value → value ≤ most → ⊥ = rw same at outside in
    out low up)

-- what itoa writes of a number of 128 bits
pub decimal_wide : (value : ℕ) → value < 2 ^ 128 → decimal value ≡ numeral value
decimal_wide value fits = decimal-numeral value (omega arith)

pub signed_decimal_wide : (value : ℤ) → SFits w128 value → signed_decimal value ≡ signed_numeral value
signed_decimal_wide (pos n) fits = decimal-numeral n (omega arith)
signed_decimal_wide (negsuc n) fits = ap (λ (text : List ℕ). 45 ∷ text) (decimal-numeral (suc n) (omega arith))
