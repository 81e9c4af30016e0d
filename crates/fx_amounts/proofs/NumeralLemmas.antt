-- Numerals and the numbers that they write.
use Rattle.std.proofs.Common.{◌≡◌, ◌≢◌, ℕ, zero, suc, ◌+◌, ◌-◌, ◌*◌, ◌/◌, ◌%◌, ◌^◌, ◌<◌, ◌≤◌, true, false, ◌&&◌, not, List, [], ◌∷◌, ◌++◌, length, get_or, take, refl, sym, ap, ◌∙◌, subst, arith, ltb, eqb, decimal, length-append, ⊎_elim, add-one}
use Rattle.std.proofs.lemmas.Bool.{and_parts, and_from, and_right, both_ways, cases_eq, cases_lt, eq-eqb, ne_eqb, ltb-true, lt-ltb, le-ltb, not-true}
use Rattle.std.proofs.lemmas.Bool.Decides.{nat_tests}
use Rattle.std.proofs.lemmas.Nat.{div-mul-add, mod-mul-add}
use Rattle.std.proofs.lemmas.List.{map-append, take_more, take_all, get_or-take, get_or_append_left}
use Rattle.std.proofs.lemmas.List.Recursion.{and_at}
use Rattle.std.proofs.lemmas.List.Folds.{list_all-append}
use Rattle.std.proofs.lemmas.Int.Digits.{digits_of_step, digits_value_more}
use Rattle.std.proofs.lemmas.Fmt.{decimal_by_steps_wide}
use Rattle.std.specs.Char.{is_ascii_digit, digit_value}
use Rattle.std.specs.List.{list_all}
use Rattle.std.specs.Int.Digits.{digits_of}
use Rattle.std.specs.Str.Parse.{digits_value, digits_value_after}
use Rattle.fx_amounts.specs.Numeral.{numeral, is_numeral}

-- a digit's byte and its value
pub is_ascii_digit-byte : (d : ℕ) → d < 10 → is_ascii_digit (48 + d) ≡ true
is_ascii_digit-byte d h = grind (arith, nat_tests)

pub digit_value-byte : (d : ℕ) → d < 10 → digit_value (48 + d) ≡ d
digit_value-byte d h = grind (arith, nat_tests)

pub byte-digit_value : (c : ℕ) → is_ascii_digit c ≡ true → 48 + digit_value c ≡ c
byte-digit_value c h = grind (arith, nat_tests)

pub digit_value-below : (c : ℕ) → is_ascii_digit c ≡ true → digit_value c < 10
digit_value-below c h = grind (arith, nat_tests)

-- the value of digits, one digit more and one text after another
pub digits_value_after-append : (n : ℕ) (xs ys : List ℕ) → digits_value_after 10 n (xs ++ ys) ≡ digits_value_after 10 (digits_value_after 10 n xs) ys
digits_value_after-append n [] ys = refl
digits_value_after-append n (x ∷ xs) ys = digits_value_after-append (n * 10 + digit_value x) xs ys

-- a number of one digit
pub numeral-digit : (n : ℕ) → n < 10 → numeral n ≡ (48 + n) ∷ []
unfolding numeral
numeral-digit n h = ⊎_elim
    (λ (z : n ≡ 0). rw z refl)
    (λ (p : n ≡ 0 → ⊥).
    let none : n / 10 ≡ 0 = omega arith in
    let same : n % 10 ≡ n = omega arith in
    let step : digits_of 10 n ≡ digits_of 10 (n / 10) ++ (n % 10 ∷ []) = digits_of_step 10 n (omega arith) (omega arith) in
    rw (ne_eqb n 0 p, step, none, same) refl)
    (cases_eq n 0)

-- a longer number: the numeral of all but its last digit, and that digit
pub numeral-step : (n : ℕ) → 10 ≤ n → numeral n ≡ numeral (n / 10) ++ (48 + n % 10) ∷ []
unfolding numeral
numeral-step n h =
    let p : n ≡ 0 → ⊥ = λ e. omega arith in
    let q : n / 10 ≡ 0 → ⊥ = λ e. omega arith in
    let step : digits_of 10 n ≡ digits_of 10 (n / 10) ++ (n % 10 ∷ []) = digits_of_step 10 n (omega arith) (omega arith) in
    rw (ne_eqb n 0 p, ne_eqb (n / 10) 0 q, step) (map-append (λ (d : ℕ). 48 + d) (digits_of 10 (n / 10)) (n % 10 ∷ []))

-- std's digits are the numeral, as far as they go
pub decimal-numeral : (n : ℕ) → n < 10 ^ 64 → decimal n ≡ numeral n
decimal-numeral n h = decimal_by_steps_wide (λ m ds. ds ≡ numeral m) (λ m small. sym (numeral-digit m small)) (λ m ds long e. rw e (sym (numeral-step m long))) n h

-- one digit more behind a value
pub digits_value-push : (n : ℕ) (xs : List ℕ) (d : ℕ) → d < 10 → digits_value_after 10 n (xs ++ (48 + d) ∷ []) ≡ digits_value_after 10 n xs * 10 + d
digits_value-push n xs d h = rw (digits_value_after-append n xs ((48 + d) ∷ []), digit_value-byte d h) refl

-- a number from its last digit
pub from_last_digit : (n : ℕ) → n / 10 * 10 + n % 10 ≡ n
from_last_digit n = omega arith

-- the numeral of a number reads as that number, has digits alone and no leading zero
pub record IsNumeralOf (n : ℕ) (text : List ℕ) : Type 0 where
  pub digits : list_all is_ascii_digit text ≡ true
  pub some : 0 < length text
  pub leads : 0 < n → 48 < get_or text 0 0
  pub single : n < 10 → length text ≡ 1
  pub value : digits_value 10 text ≡ n

one_digit : (n : ℕ) → n < 10 → IsNumeralOf n ((48 + n) ∷ [])
one_digit n h = record {
  digits = rw (is_ascii_digit-byte n h) refl;
  some = omega arith;
  leads = λ p. omega arith;
  single = λ p. refl;
  value = rw (digit_value-byte n h) (omega arith);
}

one_more : (n : ℕ) (text : List ℕ) → 10 ≤ n → IsNumeralOf (n / 10) text → IsNumeralOf n (text ++ (48 + n % 10) ∷ [])
one_more n text long before = record {
  digits = rw (list_all-append is_ascii_digit text ((48 + n % 10) ∷ []), before.digits, is_ascii_digit-byte (n % 10) (omega arith)) refl;
  some = omega (arith, length-append text ((48 + n % 10) ∷ []));
  leads = λ p. let first : 48 < get_or text 0 0 = before.leads (omega arith) in
      rw (get_or_append_left text ((48 + n % 10) ∷ []) 0 0 before.some) first;
  single = λ p. absurd (omega arith);
  value = rw (digits_value-push 0 text (n % 10) (omega arith), before.value) (from_last_digit n);
}

numeral_within : (most n : ℕ) → n ≤ most → IsNumeralOf n (numeral n)
numeral_within zero n h = let small : n < 10 = omega arith in rw (numeral-digit n small) (one_digit n small)
numeral_within (suc most) n h = ⊎_elim
    (λ (small : n < 10). rw (numeral-digit n small) (one_digit n small))
    (λ (long : 10 ≤ n). rw (numeral-step n long) (one_more n (numeral (n / 10)) long (numeral_within most (n / 10) (omega arith))))
    (cases_lt n 10)

pub IsNumeralOf-numeral : (n : ℕ) → IsNumeralOf n (numeral n)
IsNumeralOf-numeral n = numeral_within n n (omega arith)

pub digits_value-numeral : (n : ℕ) → digits_value 10 (numeral n) ≡ n
digits_value-numeral n = (IsNumeralOf-numeral n).value

pub is_numeral-numeral : (n : ℕ) → is_numeral (numeral n) ≡ true
unfolding is_numeral
is_numeral-numeral n = let facts = IsNumeralOf-numeral n in ⊎_elim
    (λ (small : n < 10). rw (lt-ltb 0 (length (numeral n)) facts.some, facts.digits, le-ltb 1 (length (numeral n)) (omega (arith, facts.single small))) refl)
    (λ (long : 10 ≤ n). rw (lt-ltb 0 (length (numeral n)) facts.some, facts.digits, ne_eqb (get_or (numeral n) 0 0) 48 (λ e. omega (arith, facts.leads (omega arith))), and_right (ltb 1 (length (numeral n))) false refl) refl)
    (cases_lt n 10)

-- what the test of a numeral says
pub record HasNumeralForm (text : List ℕ) : Type 0 where
  pub digits : list_all is_ascii_digit text ≡ true
  pub some : 0 < length text
  pub leads : 1 < length text → get_or text 0 0 ≢ 48

pub HasNumeralForm-from_test : (text : List ℕ) → is_numeral text ≡ true → HasNumeralForm text
unfolding is_numeral
HasNumeralForm-from_test text h =
    let parts = and_parts (ltb 0 (length text) && list_all is_ascii_digit text) (not (ltb 1 (length text) && eqb (get_or text 0 0) 48)) h in
    let front = and_parts (ltb 0 (length text)) (list_all is_ascii_digit text) parts.0 in
    record {
      digits = front.1;
      some = ltb-true 0 (length text) front.0;
      leads = λ long zero_first. both_ways (ltb 1 (length text) && eqb (get_or text 0 0) 48) (not-true _ parts.1) (and_from _ _ (lt-ltb 1 (length text) long) (eq-eqb _ _ zero_first));
    }

-- a place of a text of digits
pub digit_at : (text : List ℕ) (i : ℕ) → list_all is_ascii_digit text ≡ true → i < length text → is_ascii_digit (get_or text i 0) ≡ true
digit_at text i all within = and_at (list_all is_ascii_digit) is_ascii_digit refl (λ _ _. refl) text i 0 within all

-- a front of a longer text in the form is not zero
front_some : (text : List ℕ) → HasNumeralForm text → (i : ℕ) → suc i < length text → (front : ℕ) → numeral front ≡ take (suc i) text → 0 < front
front_some text form i within front is = ⊎_elim
    (λ (none : front ≡ 0).
    let first : get_or (take (suc i) text) 0 0 ≡ get_or text 0 0 = get_or-take (suc i) text 0 0 (omega arith) in
    let zero_first : get_or (numeral front) 0 0 ≡ 48 = rw (none, numeral-digit 0 (omega arith)) refl in
    absurd (form.leads (omega arith) (sym first ∙ ap (λ (t : List ℕ). get_or t 0 0) (sym is) ∙ zero_first)))
    (λ (p : front ≡ 0 → ⊥). omega arith)
    (cases_eq front 0)

-- each front of a text in the form is the numeral of its value
numeral-front : (text : List ℕ) → HasNumeralForm text → (i : ℕ) → i < length text → numeral (digits_value 10 (take (i + 1) text)) ≡ take (i + 1) text
numeral-front text form zero h =
    let byte : ℕ = get_or text 0 0 in
    let digit : is_ascii_digit byte ≡ true = digit_at text 0 form.digits h in
    let below : digit_value byte < 10 = digit_value-below byte digit in
    let value : digits_value 10 (take (0 + 1) text) ≡ digit_value byte = rw (take_more text 0 0 h) (omega arith) in
    rw (value, numeral-digit (digit_value byte) below, byte-digit_value byte digit, take_more text 0 0 h) refl
numeral-front text form (suc i) h =
    let byte : ℕ = get_or text (suc i) 0 in
    let digit : is_ascii_digit byte ≡ true = digit_at text (suc i) form.digits h in
    let last : ℕ = digit_value byte in
    let below : last < 10 = digit_value-below byte digit in
    let front : ℕ = digits_value 10 (take (suc i) text) in
    let before : numeral front ≡ take (suc i) text = rw (← (add-one i)) (numeral-front text form i (omega arith)) in
    let some : 0 < front = front_some text form i (omega arith) front before in
    let value : digits_value 10 (take (suc i + 1) text) ≡ front * 10 + last = digits_value_more 10 text (suc i) h in
    let long : 10 ≤ front * 10 + last = omega arith in
    rw (value, numeral-step (front * 10 + last) long, div-mul-add front 10 last below, mod-mul-add front 10 last below, before, byte-digit_value byte digit, take_more text (suc i) 0 h) refl

-- a text in the form is the numeral of its value
pub numeral-digits_value : (text : List ℕ) → is_numeral text ≡ true → numeral (digits_value 10 text) ≡ text
numeral-digits_value text h =
    let form = HasNumeralForm-from_test text h in
    let last : ℕ = length text - 1 in
    let whole : take (last + 1) text ≡ text = take_all (last + 1) text (omega (arith, form.some)) in
    subst (λ (t : List ℕ). numeral (digits_value 10 t) ≡ t) whole (numeral-front text form last (omega (arith, form.some)))
