-- The digits behind a price's point.
use Rattle.std.proofs.Common.{◌≡◌, ℕ, zero, suc, ◌+◌, ◌-◌, ◌*◌, ◌/◌, ◌%◌, ◌^◌, ◌<◌, ◌≤◌, min, List, [], ◌∷◌, ◌++◌, refl, sym, ap, ap₂, ◌∙◌, arith, div-add-mod', Ok, length, take, drop, decimal, append_assoc, append-nil, add-zero, add-one, replicate, inl, inr}
use Rattle.std.proofs.lemmas.Bool.{cases_lt}
use Rattle.std.proofs.lemmas.List.{replicate_more, take_all}
use Rattle.std.proofs.lemmas.Nat.{div-mul-add, mod-mul-add, mod_below}
use native.Mathlib.Nat.{pow-succ', one-le-pow, pow-le-pow_right}
use Rattle.std.proofs.Math.Nat.{div-eq_of_lt, div-div-eq-div-mul}
use Rattle.fx_amounts.specs.Numeral.{numeral}
use Rattle.fx_amounts.specs.Price.{IsPrice}
use Rattle.fx_amounts.specs.PriceText.{last_digits, price_text, price_of}
use Rattle.fx_amounts.proofs.NumeralLemmas.{numeral-digit, numeral-step, decimal-numeral}
use Rattle.fx_amounts.proofs.PriceTextLemmas.{price_of-price_text, price_of_ticks-in}

-- a number of ten times as many, split at its last digit
record LastDigit (unit t : ℕ) : Type 0 where
  tens : (10 * unit + t % (10 * unit)) / 10 ≡ unit + t / 10 % unit
  ones : (10 * unit + t % (10 * unit)) % 10 ≡ t % 10

split_remainder : (unit t : ℕ) → 0 < unit → t % (10 * unit) ≡ t / 10 % unit * 10 + t % 10
split_remainder unit t some =
    let tens : ℕ = t / 10 in
    let rest : tens % unit < unit = mod_below tens unit some in
    let below : tens % unit * 10 + t % 10 < 10 * unit = omega arith in
    let parts : tens / unit * unit + tens % unit ≡ tens = div-add-mod' tens unit in
    let whole : t ≡ tens / unit * (10 * unit) + (tens % unit * 10 + t % 10) = omega (arith, ap (λ (n : ℕ). n * 10) parts) in
    ap (λ (n : ℕ). n % (10 * unit)) whole ∙ mod-mul-add (tens / unit) (10 * unit) (tens % unit * 10 + t % 10) below

last_digit : (unit t : ℕ) → 0 < unit → LastDigit unit t
last_digit unit t some =
    let rest : t % (10 * unit) ≡ t / 10 % unit * 10 + t % 10 = split_remainder unit t some in
    let sum : 10 * unit + t % (10 * unit) ≡ (unit + t / 10 % unit) * 10 + t % 10 = omega arith in
    record {
      tens = ap (λ (n : ℕ). n / 10) sum ∙ div-mul-add (unit + t / 10 % unit) 10 (t % 10) (omega arith);
      ones = ap (λ (n : ℕ). n % 10) sum ∙ mod-mul-add (unit + t / 10 % unit) 10 (t % 10) (omega arith);
    }

-- behind a leading one the last digits keep their zeros
pub numeral-leading_one : (count t : ℕ) → numeral (10 ^ count + t % 10 ^ count) ≡ 49 ∷ last_digits count t
numeral-leading_one zero t =
    let none : t % 1 ≡ 0 = omega arith in
    ap (λ (n : ℕ). numeral (1 + n)) none ∙ numeral-digit 1 (omega arith)
numeral-leading_one (suc count) t =
    let unit : ℕ = 10 ^ count in
    let some : 0 < unit = one-le-pow count 10 (omega arith) in
    let power : 10 ^ suc count ≡ 10 * unit = pow-succ' 10 count in
    let n : ℕ = 10 * unit + t % (10 * unit) in
    let parts : LastDigit unit t = last_digit unit t some in
    ap (λ (p : ℕ). numeral (p + t % p)) power
    ∙ numeral-step n (omega arith)
    ∙ ap₂ (λ (tens ones : ℕ). numeral tens ++ (48 + ones) ∷ []) parts.tens parts.ones
    ∙ ap (λ (front : List ℕ). front ++ (48 + t % 10) ∷ []) (numeral-leading_one count (t / 10))

-- what itoa writes of the last digits behind a leading one
pub record BehindOne (decimals ticks : ℕ) (text : List ℕ) : Type 0 where
  pub some : 1 ≤ length text
  pub places : drop 1 text ≡ last_digits decimals ticks

behind_one : (decimals ticks : ℕ) (text : List ℕ) → text ≡ 49 ∷ last_digits decimals ticks → BehindOne decimals ticks text
behind_one decimals ticks text is = record { some = rw is (omega arith); places = ap (λ (t : List ℕ). drop 1 t) is }

pub BehindOne-decimal : (decimals ticks unit : ℕ) (text : List ℕ) → unit ≡ 10 ^ decimals → 0 < unit → unit ≤ 10 ^ 10 → text ≡ decimal (unit + ticks % unit) → BehindOne decimals ticks text
BehindOne-decimal decimals ticks unit text is some most written =
    let rest : ticks % unit < unit = mod_below ticks unit some in
    behind_one decimals ticks text (written ∙ decimal-numeral (unit + ticks % unit) (omega arith) ∙ ap (λ (u : ℕ). numeral (u + ticks % u)) is ∙ numeral-leading_one decimals ticks)

pub price_text-places : (decimals ticks : ℕ) → 0 < decimals → (whole places : List ℕ) → whole ≡ numeral (ticks / 10 ^ decimals) → places ≡ last_digits decimals ticks
    → price_text decimals ticks ≡ whole ++ 46 ∷ places
unfolding price_text
price_text-places zero ticks some whole places is digits = absurd (omega arith)
price_text-places (suc more) ticks some whole places is digits = sym (ap₂ (λ (front last : List ℕ). front ++ 46 ∷ last) is digits)

-- a number of at most `count` digits has zeros in front of its last `count`
last_digits-zero : (count : ℕ) → last_digits count 0 ≡ replicate count 48
last_digits-zero zero = refl
last_digits-zero (suc count) =
    ap (λ (front : List ℕ). front ++ 48 ∷ []) (last_digits-zero count) ∙ replicate_more count 48 ∙ ap (λ (n : ℕ). replicate n 48) (add-one count)

pub last_digits-more : (more count t : ℕ) → t < 10 ^ count → last_digits (more + count) t ≡ replicate more 48 ++ last_digits count t
last_digits-more more zero t few =
    let none : t ≡ 0 = omega arith in
    ap₂ last_digits (add-zero more) none ∙ last_digits-zero more ∙ sym (append-nil (replicate more 48))
last_digits-more more (suc count) t few =
    let power : 10 ^ suc count ≡ 10 * 10 ^ count = pow-succ' 10 count in
    let front : last_digits (more + count) (t / 10) ≡ replicate more 48 ++ last_digits count (t / 10) = last_digits-more more count (t / 10) (omega arith) in
    let next : more + suc count ≡ suc (more + count) = omega arith in
    ap (λ (n : ℕ). last_digits n t) next
    ∙ ap (λ (digits : List ℕ). digits ++ (48 + t % 10) ∷ []) front
    ∙ append_assoc (replicate more 48) (last_digits count (t / 10)) ((48 + t % 10) ∷ [])

-- a list that was filled up with zeros
pub filled : (was now : List ℕ) (n size more : ℕ) → now ≡ take n was ++ replicate (n - size) 48 → size ≡ length was → n ≡ size + more → now ≡ was ++ replicate more 48
filled was now n size more is all sum =
    let rest : n - size ≡ more = omega arith in
    is ∙ ap₂ (λ (front : List ℕ) (count : ℕ). front ++ replicate count 48) (take_all n was (omega arith)) rest

-- the places of a price, of which only the last ten can be other than zero
pub pushed_places : (decimals kept ticks : ℕ) (start one two places : List ℕ) → kept ≡ min decimals 10 → ticks < 10 ^ 10
    → one ≡ start ++ replicate (decimals - kept) 48 → two ≡ one ++ places → places ≡ last_digits kept ticks
    → two ≡ start ++ last_digits decimals ticks
pushed_places decimals kept ticks start one two places is fits zeros last digits = elim (cases_lt decimals 10) [
  | inl few ↦
      let none : decimals - kept ≡ 0 = omega arith in
      let all : kept ≡ decimals = omega arith in
      last ∙ ap₂ (λ (front rest : List ℕ). front ++ rest) (zeros ∙ ap (λ (n : ℕ). start ++ replicate n 48) none ∙ append-nil start) (digits ∙ ap (λ (n : ℕ). last_digits n ticks) all)
  | inr many ↦
      let ten : kept ≡ 10 = omega arith in
      let sum : decimals - kept + 10 ≡ decimals = omega arith in
      last ∙ ap₂ (λ (front rest : List ℕ). front ++ rest) zeros (digits ∙ ap (λ (n : ℕ). last_digits n ticks) ten)
      ∙ append_assoc start (replicate (decimals - kept) 48) (last_digits 10 ticks)
      ∙ ap (λ (t : List ℕ). start ++ t) (sym (last_digits-more (decimals - kept) 10 ticks (omega arith)) ∙ ap (λ (n : ℕ). last_digits n ticks) sum)
]

-- the ticks of a price of 1, of which more than ten places tell no more
quotient : (decimals ticks : ℕ) → ticks < 10 ^ 10 → ticks / 10 ^ min decimals 10 ≡ ticks / 10 ^ decimals
quotient decimals ticks fits = elim (cases_lt decimals 10) [
  | inl few ↦ let all : min decimals 10 ≡ decimals = omega arith in ap (λ (n : ℕ). ticks / 10 ^ n) all
  | inr many ↦
      let ten : min decimals 10 ≡ 10 = omega arith in
      let large : 10 ^ 10 ≤ 10 ^ decimals = pow-le-pow_right (omega arith) many in
      ap (λ (n : ℕ). ticks / 10 ^ n) ten ∙ div-eq_of_lt (omega arith) ∙ sym (div-eq_of_lt (omega arith))
]

-- three pieces, one after the other
pub pushed_price : (decimals ticks unit : ℕ) (start one two three : List ℕ) → 0 < decimals → ticks < 10 ^ 10 → unit ≡ 10 ^ min decimals 10
    → one ≡ start ++ numeral (ticks / unit) → two ≡ one ++ 46 ∷ [] → three ≡ two ++ last_digits decimals ticks
    → three ≡ start ++ price_text decimals ticks
pushed_price decimals ticks unit start one two three some fits is first point last =
    let whole : List ℕ = numeral (ticks / unit) in
    let places : List ℕ = last_digits decimals ticks in
    let front : ticks / unit ≡ ticks / 10 ^ decimals = ap (λ (u : ℕ). ticks / u) is ∙ quotient decimals ticks fits in
    let text : price_text decimals ticks ≡ whole ++ 46 ∷ places = price_text-places decimals ticks some whole places (ap numeral front) refl in
    last ∙ ap (λ (t : List ℕ). t ++ places) point ∙ append_assoc one (46 ∷ []) places ∙ ap (λ (t : List ℕ). t ++ 46 ∷ places) first ∙ append_assoc start whole (46 ∷ places)
    ∙ ap (λ (t : List ℕ). start ++ t) (sym text)

pub price_text-whole : (ticks : ℕ) → price_text 0 ticks ≡ numeral ticks
unfolding price_text
price_text-whole ticks = refl

pub price_read_back : (decimals ticks : ℕ) → IsPrice ticks → price_of decimals (price_text decimals ticks) ≡ Ok ticks
price_read_back decimals ticks is = price_of-price_text decimals ticks ∙ price_of_ticks-in ticks is

-- a number of more than `count` digits ends in the last `count`
pub numeral-split : (count t : ℕ) → 10 ^ count ≤ t → numeral t ≡ numeral (t / 10 ^ count) ++ last_digits count t
numeral-split zero t large =
    let whole : t / 1 ≡ t = omega arith in
    ap numeral (sym whole) ∙ sym (append-nil (numeral (t / 1)))
numeral-split (suc count) t large =
    let power : 10 ^ suc count ≡ 10 * 10 ^ count = pow-succ' 10 count in
    let some : 1 ≤ 10 ^ count = one-le-pow count 10 (omega arith) in
    let quotient : t / 10 / 10 ^ count ≡ t / 10 ^ suc count = div-div-eq-div-mul t 10 (10 ^ count) ∙ ap (λ (p : ℕ). t / p) (sym power) in
    numeral-step t (omega arith)
    ∙ ap (λ (front : List ℕ). front ++ (48 + t % 10) ∷ []) (numeral-split count (t / 10) (omega arith))
    ∙ append_assoc (numeral (t / 10 / 10 ^ count)) (last_digits count (t / 10)) ((48 + t % 10) ∷ [])
    ∙ ap (λ (n : ℕ). numeral n ++ last_digits (suc count) t) quotient
