-- The spelling of a price, and the price that a text says: each gives the other back.
use Rattle.std.proofs.Common.{◌≡◌, ◌≢◌, ℕ, zero, suc, ◌+◌, ◌-◌, ◌*◌, ◌/◌, ◌%◌, ◌^◌, ◌<◌, ◌≤◌, true, false, ◌&&◌, List, [], ◌∷◌, ◌++◌, length, get_or, take, drop, IsTrue, SomeIff, Option, Some, None, refl, sym, ap, ap₂, filter, ◌∙◌, subst, arith, leb, eqb, length-append, append-nil, add-zero, ⊎_elim, inl, inr, ◌⊎◌, add-one, Result, Ok, Err, IfOk, ◌↔◌}
use Rattle.std.proofs.lemmas.Bool.{and_parts, cases_Bool, false_from_ne_true, cases_lt, eqb-true, cond-false, leb-true, le-leb, both_ways}
use Rattle.std.proofs.lemmas.Nat.{div-mul-add, mod-mul-add}
use Rattle.std.proofs.lemmas.List.{take_rest, get_or-drop, drop-drop, take_more, take_all, take_at, get_or_at, take-append-drop, length-drop, length-take, drop_more, get_or_past}
use Rattle.std.proofs.lemmas.List.Folds.{list_all-append}
use Rattle.std.proofs.lemmas.List.Elements.{filter-append}
use native.Mathlib.Nat.{pow-succ', div-div-eq-div-mul}
use Rattle.std.specs.Char.{is_ascii_digit, digit_value}
use Rattle.std.specs.List.{list_all}
use Rattle.std.specs.Str.Parse.{digits_value, digits_value_after}
use Rattle.fx_amounts.specs.declared.price_text.PriceFault.{PriceFault}
use Rattle.fx_amounts.specs.declared.price_text.PriceFault.TheVariants.{Form, Range}
use Rattle.fx_amounts.specs.Numeral.{numeral, is_numeral}
use Rattle.fx_amounts.specs.Price.{IsPrice}
use Rattle.fx_amounts.specs.PriceText.{last_digits, price_text, point_at, is_price_text, ticks_of, price_of_ticks, price_of, IsPriceText}
use Rattle.fx_amounts.proofs.NumeralLemmas.{is_ascii_digit-byte, digit_value-below, byte-digit_value, digits_value_after-append, digits_value-push, digits_value-numeral, is_numeral-numeral, numeral-digits_value, from_last_digit, digit_at, HasNumeralForm-from_test, IsNumeralOf-numeral}

-- the last digits are so many digits, and behind the digits before them they give the number back
pub record EndsIn (n count : ℕ) (text : List ℕ) : Type 0 where
  pub digits : list_all is_ascii_digit text ≡ true
  pub len : length text ≡ count
  pub value : digits_value_after 10 (n / 10 ^ count) text ≡ n

ends_in_more : (n count : ℕ) (text : List ℕ) → EndsIn (n / 10) count text → EndsIn n (suc count) (text ++ (48 + n % 10) ∷ [])
ends_in_more n count text before =
    let quotient : n / 10 ^ suc count ≡ n / 10 / 10 ^ count = rw (pow-succ' 10 count) (sym (div-div-eq-div-mul n 10 (10 ^ count))) in
    record {
      digits = rw (list_all-append is_ascii_digit text ((48 + n % 10) ∷ []), before.digits, is_ascii_digit-byte (n % 10) (omega arith)) refl;
      len = omega (arith, length-append text ((48 + n % 10) ∷ []), before.len);
      value = rw (quotient, digits_value-push (n / 10 / 10 ^ count) text (n % 10) (omega arith), before.value) (from_last_digit n);
    }

pub EndsIn-last_digits : (count n : ℕ) → EndsIn n count (last_digits count n)
EndsIn-last_digits zero n = record { digits = refl; len = refl; value = omega arith }
EndsIn-last_digits (suc count) n = ends_in_more n count (last_digits count (n / 10)) (EndsIn-last_digits count (n / 10))

-- a front of some digits, read behind a number, ends in these digits, and what stands before them is that number
pub record Extends (whole count : ℕ) (text : List ℕ) (n : ℕ) : Type 0 where
  pub last : last_digits count n ≡ text
  pub first : n / 10 ^ count ≡ whole

extends_more : (whole count n : ℕ) (text : List ℕ) (byte : ℕ) → is_ascii_digit byte ≡ true → Extends whole count text n → Extends whole (suc count) (text ++ byte ∷ []) (n * 10 + digit_value byte)
extends_more whole count n text byte digit before =
    let below : digit_value byte < 10 = digit_value-below byte digit in
    let quotient : (n * 10 + digit_value byte) / 10 ^ suc count ≡ n / 10 ^ count =
    rw (pow-succ' 10 count, ← div-div-eq-div-mul (n * 10 + digit_value byte) 10 (10 ^ count), div-mul-add n 10 (digit_value byte) below) refl in
    record {
      last = rw (div-mul-add n 10 (digit_value byte) below, mod-mul-add n 10 (digit_value byte) below, before.last, byte-digit_value byte digit) refl;
      first = quotient ∙ before.first;
    }

extends_front : (whole : ℕ) (text : List ℕ) → list_all is_ascii_digit text ≡ true → (i : ℕ) → i ≤ length text → Extends whole i (take i text) (digits_value_after 10 whole (take i text))
extends_front whole text digits zero h = record { last = refl; first = omega arith }
extends_front whole text digits (suc i) h =
    let byte : ℕ = get_or text i 0 in
    let front : List ℕ = take i text in
    let grown : take (suc i) text ≡ front ++ byte ∷ [] = rw (← (add-one i)) (take_more text i 0 (omega arith)) in
    let value : digits_value_after 10 whole (front ++ byte ∷ []) ≡ digits_value_after 10 whole front * 10 + digit_value byte = digits_value_after-append whole front (byte ∷ []) in
    rw (grown, value) (extends_more whole i (digits_value_after 10 whole front) front byte (digit_at text i digits (omega arith)) (extends_front whole text digits i (omega arith)))

pub Extends-digits : (whole : ℕ) (text : List ℕ) → list_all is_ascii_digit text ≡ true → Extends whole (length text) text (digits_value_after 10 whole text)
Extends-digits whole text digits =
    let all : take (length text) text ≡ text = take_all (length text) text (omega arith) in
    subst (λ (t : List ℕ). Extends whole (length text) t (digits_value_after 10 whole t)) all (extends_front whole text digits (length text) (omega arith))

-- what stands behind the point, and a text put together again at its point
drop_behind : (whole fraction : List ℕ) → drop (suc (length whole)) (whole ++ 46 ∷ fraction) ≡ fraction
drop_behind [] fraction = refl
drop_behind (x ∷ whole) fraction = drop_behind whole fraction

point_within : (text : List ℕ) (place : ℕ) → get_or text place 0 ≡ 46 → place < length text
point_within text place point = ⊎_elim (λ (h : place < length text). h) (λ (past : length text ≤ place). absurd (omega (arith, get_or_past text place 0 past))) (cases_lt place (length text))

rejoined : (text : List ℕ) (place : ℕ) → get_or text place 0 ≡ 46 → place < length text → take place text ++ 46 ∷ drop (suc place) text ≡ text
rejoined text place point within =
    let rest : drop place text ≡ get_or text place 0 ∷ drop (place + 1) text = drop_more text place 0 within in
    let rest' : drop place text ≡ 46 ∷ drop (suc place) text = rest ∙ rw (point, add-one place) refl in
    rw (← rest') (take-append-drop place text)

-- a text of digits has nothing else
only_digits : (text : List ℕ) → list_all is_ascii_digit text ≡ true → filter is_ascii_digit text ≡ text
only_digits [] h = refl
only_digits (c ∷ cs) h = let parts = and_parts (is_ascii_digit c) (list_all is_ascii_digit cs) h in rw (parts.0, only_digits cs parts.1) refl

digits_only : (whole fraction : List ℕ) → list_all is_ascii_digit whole ≡ true → list_all is_ascii_digit fraction ≡ true → filter is_ascii_digit (whole ++ 46 ∷ fraction) ≡ whole ++ fraction
digits_only whole fraction first rest = rw (filter-append is_ascii_digit whole (46 ∷ fraction), only_digits whole first, only_digits fraction rest) refl

-- the number that the digits make, one byte on
pub ticks_of-digit : (text : List ℕ) (i : ℕ) → i < length text → is_ascii_digit (get_or text i 0) ≡ true → ticks_of (take (i + 1) text) ≡ ticks_of (take i text) * 10 + (get_or text i 0 - 48)
ticks_of-digit text i within digit =
    let byte : ℕ = get_or text i 0 in
    let value : digit_value byte ≡ byte - 48 = omega (arith, byte-digit_value byte digit) in
    let grown : ticks_of (take (i + 1) text) ≡ ticks_of (take i text) * 10 + digit_value byte =
    rw (take_more text i 0 within, filter-append is_ascii_digit (take i text) (byte ∷ []), digit, digits_value_after-append 0 (filter is_ascii_digit (take i text)) (byte ∷ [])) refl in
    grown ∙ ap (λ (d : ℕ). ticks_of (take i text) * 10 + d) value

pub ticks_of-other : (text : List ℕ) (i : ℕ) → i < length text → is_ascii_digit (get_or text i 0) ≡ false → ticks_of (take (i + 1) text) ≡ ticks_of (take i text)
ticks_of-other text i within other =
    rw (take_more text i 0 within, filter-append is_ascii_digit (take i text) (get_or text i 0 ∷ []), other, append-nil (filter is_ascii_digit (take i text))) refl

-- the spelling of a price is in the form, and its digits are those ticks
pub record IsRead (decimals ticks : ℕ) (text : List ℕ) : Type 0 where
  pub form : is_price_text decimals text ≡ true
  pub value : ticks_of text ≡ ticks

read_parts : (more ticks : ℕ) (whole fraction : List ℕ) → is_numeral whole ≡ true → digits_value 10 whole ≡ ticks / 10 ^ suc more → EndsIn ticks (suc more) fraction → IsRead (suc more) ticks (whole ++ 46 ∷ fraction)
read_parts more ticks whole fraction numeral_first first rest =
    let text : List ℕ = whole ++ 46 ∷ fraction in
    let place : point_at (suc more) text ≡ length whole = omega (arith, length-append whole (46 ∷ fraction), rest.len) in
    let front : take (length whole) text ≡ whole = take_at whole (46 ∷ fraction) (length whole) refl in
    let point : get_or text (length whole) 0 ≡ 46 = get_or_at whole 46 fraction 0 (length whole) refl in
    let behind : drop (suc (length whole)) text ≡ fraction = drop_behind whole fraction in
    record {
      form = rw (place, front, point, behind, numeral_first, rest.digits) refl;
      value = rw (digits_only whole fraction (HasNumeralForm-from_test whole numeral_first).digits rest.digits, digits_value_after-append 0 whole fraction, first) rest.value;
    }

pub IsRead-price_text : (decimals ticks : ℕ) → IsRead decimals ticks (price_text decimals ticks)
unfolding price_text
IsRead-price_text zero ticks = record {
  form = is_numeral-numeral ticks;
  value = rw (only_digits (numeral ticks) (IsNumeralOf-numeral ticks).digits) (digits_value-numeral ticks);
}
IsRead-price_text (suc more) ticks = read_parts more ticks (numeral (ticks / 10 ^ suc more)) (last_digits (suc more) ticks) (is_numeral-numeral (ticks / 10 ^ suc more)) (digits_value-numeral (ticks / 10 ^ suc more)) (EndsIn-last_digits (suc more) ticks)

-- a text in the form is the spelling of its digits
pub price_text-digits : (decimals : ℕ) (text : List ℕ) → is_price_text decimals text ≡ true → price_text decimals (ticks_of text) ≡ text
unfolding price_text
price_text-digits zero text form = rw (only_digits text (HasNumeralForm-from_test text form).digits) (numeral-digits_value text form)
price_text-digits (suc more) text form =
    let place : ℕ = point_at (suc more) text in
    let whole : List ℕ = take place text in
    let fraction : List ℕ = drop (suc place) text in
    let parts = and_parts (is_numeral whole && eqb (get_or text place 0) 46) (list_all is_ascii_digit fraction) form in
    let front = and_parts (is_numeral whole) (eqb (get_or text place 0) 46) parts.0 in
    let point : get_or text place 0 ≡ 46 = eqb-true (get_or text place 0) 46 front.1 in
    let within : place < length text = point_within text place point in
    let some : 0 < length whole = (HasNumeralForm-from_test whole front.0).some in
    let len : length fraction ≡ suc more = omega (arith, length-drop (suc place) text, length-take place text) in
    let value : digits_value 10 (whole ++ fraction) ≡ digits_value_after 10 (digits_value 10 whole) fraction = digits_value_after-append 0 whole fraction in
    let facts : Extends (digits_value 10 whole) (suc more) fraction (digits_value_after 10 (digits_value 10 whole) fraction) =
    subst (λ (k : ℕ). Extends (digits_value 10 whole) k fraction (digits_value_after 10 (digits_value 10 whole) fraction)) len (Extends-digits (digits_value 10 whole) fraction parts.1) in
    let split : whole ++ 46 ∷ fraction ≡ text = rejoined text place point within in
    let digits : filter is_ascii_digit text ≡ whole ++ fraction = ap (filter is_ascii_digit) (sym split) ∙ digits_only whole fraction (HasNumeralForm-from_test whole front.0).digits parts.1 in
    rw (digits, value, facts.first, facts.last, numeral-digits_value whole front.0) split

-- the test at a place that is counted from the end
pub is_price_text-at : (decimals place : ℕ) (text : List ℕ) → decimals ≢ 0 → place ≡ length text - (decimals + 1) → 1 ≤ length (drop place text)
    → get_or (drop place text) 0 0 ≡ 46 → is_numeral (take place text) ≡ true
    → list_all is_ascii_digit (take (length (drop place text) - 1) (drop 1 (drop place text))) ≡ is_price_text decimals text
is_price_text-at zero place text some is within point whole = absurd (some refl)
is_price_text-at (suc more) place text some is within point whole =
    let place_is : point_at (suc more) text ≡ place = omega arith in
    let at : get_or text place 0 ≡ 46 = omega (arith, get_or-drop place text 0 0, ap (λ (k : ℕ). get_or text k 0) (add-zero place)) in
    let rest : drop 1 (drop place text) ≡ drop (suc place) text = drop-drop 1 place text ∙ rw (add-one place) refl in
    let all : take (length (drop place text) - 1) (drop 1 (drop place text)) ≡ drop 1 (drop place text) = take_all (length (drop place text) - 1) (drop 1 (drop place text)) (omega (arith, length-drop 1 (drop place text))) in
    rw (all, rest, place_is, whole, at) refl

-- the same of the two parts of the text
pub is_price_text-parts : (decimals place : ℕ) (text whole rest : List ℕ) → decimals ≢ 0 → place ≡ length text - (decimals + 1) → whole ≡ take place text → rest ≡ drop place text
    → 1 ≤ length rest → get_or rest 0 0 ≡ 46 → true ≡ is_numeral whole
    → list_all is_ascii_digit (take (length rest - 1) (drop 1 rest)) ≡ is_price_text decimals text
is_price_text-parts decimals place text whole rest some is whole_is rest_is within point first =
    let within' : 1 ≤ length (drop place text) = rw (rest_is) at within in
    let point' : get_or (drop place text) 0 0 ≡ 46 = rw (rest_is) at point in
    let first' : true ≡ is_numeral (take place text) = rw (whole_is) at first in
    rw (rest_is) (is_price_text-at decimals place text some is within' point' (sym first'))

-- the price of so many ticks, in range and out of it
pub price_of_ticks-in : (ticks : ℕ) → IsPrice ticks → price_of_ticks ticks ≡ Ok ticks
price_of_ticks-in ticks h = rw (le-leb 1 ticks h.0, le-leb ticks (10 ^ 9) h.1) refl

pub price_of_ticks-out : (ticks : ℕ) → ¬ (IsPrice ticks) → price_of_ticks ticks ≡ Err Range
price_of_ticks-out ticks h = cond-false (leb 1 ticks && leb ticks (10 ^ 9)) (Ok ticks) (Err Range) (false_from_ne_true _ (λ in_range.
    let parts = and_parts (leb 1 ticks) (leb ticks (10 ^ 9)) in_range in
    h (leb-true 1 ticks parts.0, leb-true ticks (10 ^ 9) parts.1)))

-- a text says a price exactly where it is its spelling
pub price_of-price_text : (decimals ticks : ℕ) → price_of decimals (price_text decimals ticks) ≡ price_of_ticks ticks
unfolding price_of
price_of-price_text decimals ticks = let read = IsRead-price_text decimals ticks in rw (read.form, read.value) refl

pub price_of-form : (decimals : ℕ) (text : List ℕ) → ¬ (IsPriceText decimals text) → price_of decimals text ≡ Err Form
unfolding price_of
price_of-form decimals text none = cond-false (is_price_text decimals text) (price_of_ticks (ticks_of text)) (Err Form)
    (false_from_ne_true _ (λ form. none (ticks_of text, sym (price_text-digits decimals text form))))

-- what a text says: the price of the ticks that it spells, where it spells some
pub record Says (decimals : ℕ) (text : List ℕ) (said : Result ℕ PriceFault) : Type 0 where
  pub value : IfOk said (λ price. text ≡ price_text decimals price)
  pub spelled : (ticks : ℕ) → text ≡ price_text decimals ticks → said ≡ price_of_ticks ticks
  pub form : (said ≡ Err Form) ↔ ¬ (IsPriceText decimals text)
  pub range : (said ≡ Err Range) ↔ ((ticks : ℕ) × (text ≡ price_text decimals ticks) × ¬ (IsPrice ticks))

says_in : (decimals ticks : ℕ) (text : List ℕ) → text ≡ price_text decimals ticks → IsPrice ticks → ((other : ℕ) → text ≡ price_text decimals other → Ok ticks ≡ price_of_ticks other) → Says decimals text (Ok ticks)
says_in decimals ticks text spelling in_range spelled = record {
  value = spelling;
  spelled = spelled;
  form = ((λ e. cc), λ none. absurd (none (ticks, spelling)));
  range = ((λ e. cc), λ out. absurd (let e : Ok ticks ≡ Err Range = spelled out.0 out.1 ∙ price_of_ticks-out out.0 out.2 in cc));
}

says_out : (decimals ticks : ℕ) (text : List ℕ) → text ≡ price_text decimals ticks → ¬ (IsPrice ticks) → ((other : ℕ) → text ≡ price_text decimals other → Err Range ≡ price_of_ticks other) → Says decimals text (Err Range)
says_out decimals ticks text spelling out spelled = record {
  value = tt;
  spelled = spelled;
  form = ((λ e. cc), λ none. absurd (none (ticks, spelling)));
  range = ((λ e. (ticks, spelling, out)), λ _. refl);
}

says_none : (decimals : ℕ) (text : List ℕ) → ¬ (IsPriceText decimals text) → Says decimals text (Err Form)
says_none decimals text none = record {
  value = tt;
  spelled = λ ticks e. absurd (none (ticks, e));
  form = ((λ e. none), λ _. refl);
  range = ((λ e. cc), λ out. absurd (none (out.0, out.1)));
}

in_range_or_out : (ticks : ℕ) → IsPrice ticks ⊎ ¬ (IsPrice ticks)
in_range_or_out ticks = ⊎_elim
    (λ (low : ticks < 1). inr (λ h. omega arith))
    (λ (some : 1 ≤ ticks). ⊎_elim (λ (high : 10 ^ 9 < ticks). inr (λ h. omega arith)) (λ (most : ticks ≤ 10 ^ 9). inl (some, most)) (cases_lt (10 ^ 9) ticks))
    (cases_lt ticks 1)

pub Says-price_of : (decimals : ℕ) (text : List ℕ) → Says decimals text (price_of decimals text)
Says-price_of decimals text = ⊎_elim
    (λ (form : is_price_text decimals text ≡ true).
    let ticks : ℕ = ticks_of text in
    let spelling : text ≡ price_text decimals ticks = sym (price_text-digits decimals text form) in
    let said : price_of decimals text ≡ price_of_ticks ticks = ap (price_of decimals) spelling ∙ price_of-price_text decimals ticks in
    let spelled : (other : ℕ) → text ≡ price_text decimals other → price_of decimals text ≡ price_of_ticks other = λ other e. ap (price_of decimals) e ∙ price_of-price_text decimals other in
    ⊎_elim
    (λ (h : IsPrice ticks).
    let is : price_of decimals text ≡ Ok ticks = said ∙ price_of_ticks-in ticks h in
    subst (λ (r : Result ℕ PriceFault). Says decimals text r) (sym is) (says_in decimals ticks text spelling h (λ other e. sym is ∙ spelled other e)))
    (λ (h : ¬ (IsPrice ticks)).
    let is : price_of decimals text ≡ Err Range = said ∙ price_of_ticks-out ticks h in
    subst (λ (r : Result ℕ PriceFault). Says decimals text r) (sym is) (says_out decimals ticks text spelling h (λ other e. sym is ∙ spelled other e)))
    (in_range_or_out ticks))
    (λ (other : is_price_text decimals text ≡ false).
    let none : ¬ (IsPriceText decimals text) = λ spelling. both_ways (is_price_text decimals text) other (ap (is_price_text decimals) spelling.1 ∙ (IsRead-price_text decimals spelling.0).form) in
    subst (λ (r : Result ℕ PriceFault). Says decimals text r) (sym (price_of-form decimals text none)) (says_none decimals text none))
    (cases_Bool (is_price_text decimals text))

-- the ticks of a short text, where it is in the form
same_some : (found : Option ℕ) (P Q : Type 0) (v w : ℕ) → (P → Q) → (Q → P) → (P → v ≡ w) → SomeIff found P v → SomeIff found Q w
same_some None P Q v w to back same none = λ q. none (back q)
same_some (Some x) P Q v w to back same some = (to some.0, some.1 ∙ same some.0)

pub SomeIff-whole_price : (text : List ℕ) (found : Option ℕ) → SomeIff found (IsTrue (is_numeral text)) (digits_value 10 text) → SomeIff found (IsTrue (is_price_text 0 text)) (ticks_of text)
SomeIff-whole_price text found read =
    same_some found (IsTrue (is_numeral text)) (IsTrue (is_price_text 0 text)) (digits_value 10 text) (ticks_of text) (λ form. form) (λ form. form)
    (λ form. sym (ap (digits_value 10) (only_digits text (HasNumeralForm-from_test text form).digits))) read

pub SomeIff-price : (decimals place front : ℕ) (text whole rest fraction : List ℕ) (found : Option ℕ) → decimals ≢ 0 → place ≡ length text - (decimals + 1) → whole ≡ take place text → rest ≡ drop place text
    → 1 ≤ length rest → get_or rest 0 0 ≡ 46 → IsTrue (is_numeral whole) → front ≡ digits_value 10 whole → fraction ≡ take (length rest - 1) (drop 1 rest)
    → SomeIff found (IsTrue (list_all is_ascii_digit fraction)) (digits_value_after 10 front fraction) → SomeIff found (IsTrue (is_price_text decimals text)) (ticks_of text)
SomeIff-price decimals place front text whole rest fraction found some is whole_is rest_is within point first front_is fraction_is read =
    let form : list_all is_ascii_digit fraction ≡ is_price_text decimals text =
    ap (list_all is_ascii_digit) fraction_is ∙ is_price_text-parts decimals place text whole rest some is whole_is rest_is within point (sym first) in
    let behind : rest ≡ 46 ∷ fraction = drop_more rest 0 0 within ∙ ap₂ (λ (byte : ℕ) (more : List ℕ). byte ∷ more) point (sym (take_rest rest 1)) ∙ ap (λ (more : List ℕ). 46 ∷ more) (sym fraction_is) in
    let split : text ≡ whole ++ 46 ∷ fraction = sym (take-append-drop place text) ∙ ap₂ (λ (one two : List ℕ). one ++ two) (sym whole_is) (sym rest_is ∙ behind) in
    let ticks : IsTrue (list_all is_ascii_digit fraction) → digits_value_after 10 front fraction ≡ ticks_of text = λ digits.
    ap (λ (n : ℕ). digits_value_after 10 n fraction) front_is ∙ sym (digits_value_after-append 0 whole fraction)
    ∙ sym (ap ticks_of split ∙ ap (digits_value 10) (digits_only whole fraction (HasNumeralForm-from_test whole first).digits digits)) in
    same_some found (IsTrue (list_all is_ascii_digit fraction)) (IsTrue (is_price_text decimals text)) (digits_value_after 10 front fraction) (ticks_of text)
    (λ digits. sym form ∙ digits) (λ said. form ∙ said) ticks read
