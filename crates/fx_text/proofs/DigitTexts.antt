-- Numbers written two digits at a time.
use Rattle.std.proofs.Common.{◌≡◌, ℕ, zero, suc, ◌+◌, ◌-◌, ◌*◌, ◌/◌, ◌%◌, ◌<◌, ◌≤◌, Bool, true, ◌&&◌, T, eqb, List, [], ◌∷◌, ◌++◌, length, take, set, get_or, refl, sym, ap, ap₂, ◌∙◌, inl, inr, arith, eq-zero-or-pos, eqb→eq, append_assoc, length-set}
use Rattle.std.proofs.lemmas.List.{take_more_set}
use lib.Ieee.Fits.{and_l, and_r}
use Rattle.fx_amounts.specs.Numeral.{numeral}
use Rattle.fx_amounts.specs.PriceText.{last_digits}
use Rattle.fx_amounts.proofs.NumeralLemmas.{numeral-digit, numeral-step}
use Rattle.fx_text.proofs.PlacesLemmas.{numeral-split}
use Rattle.fx_text.specs.declared.digits.TheConstants.{PAIRS}

-- two digits
abbrev pub pair : ℕ → List ℕ
pair p = (48 + p / 10) ∷ (48 + p % 10) ∷ []

abbrev are_pairs : ℕ → Bool
are_pairs zero = true
are_pairs (suc p) = (eqb (get_or PAIRS (p * 2) 0) (48 + p / 10) && eqb (get_or PAIRS (p * 2 + 1) 0) (48 + p % 10)) && are_pairs p

pairs_below : (n p : ℕ) → T (are_pairs n) → p < n → (get_or PAIRS (p * 2) 0 ≡ 48 + p / 10) × (get_or PAIRS (p * 2 + 1) 0 ≡ 48 + p % 10)
pairs_below zero p t h = absurd (omega arith)
pairs_below (suc n) p t h =
    elim (eq-zero-or-pos (n - p)) [
      | inl z ↦ let e : p ≡ n = omega arith in let a = and_l _ (are_pairs n) t in rw e (eqb→eq _ _ (and_l _ _ a), eqb→eq _ _ (and_r _ _ a))
      | inr g ↦ pairs_below n p (and_r _ (are_pairs n) t) (omega arith)
    ]

-- the table has the digits of each number
pub PAIRS_at : (p : ℕ) → p < 100 → (get_or PAIRS (p * 2) 0 ≡ 48 + p / 10) × (get_or PAIRS (p * 2 + 1) 0 ≡ 48 + p % 10)
PAIRS_at p h = pairs_below 100 p tt h

-- bytes written one behind the other, and texts
pub two_set : (room : List ℕ) (at a b : ℕ) → at + 2 ≤ length room → take (at + 2) (set (set room at a) (at + 1) b) ≡ take at room ++ a ∷ b ∷ []
two_set room at a b within =
    let next : at + 1 + 1 ≡ at + 2 = omega arith in
    let second = take_more_set (set room at a) (at + 1) b (omega (arith, length-set room at a)) in
    ap (λ (n : ℕ). take n (set (set room at a) (at + 1) b)) (omega arith) ∙ second
    ∙ ap (λ (xs : List ℕ). xs ++ b ∷ []) (take_more_set room at a (omega arith)) ∙ append_assoc (take at room) (a ∷ []) (b ∷ [])

pub then_written : (before one two a b : List ℕ) → one ≡ before ++ a → two ≡ one ++ b → two ≡ before ++ (a ++ b)
then_written before one two a b first then = then ∙ ap (λ (xs : List ℕ). xs ++ b) first ∙ append_assoc before a b

-- the numeral of a number, by pairs of its digits
pub numeral_two : (n : ℕ) → 10 ≤ n → n < 100 → numeral n ≡ pair n
numeral_two n low high = rw (numeral-step n low, numeral-digit (n / 10) (omega arith)) refl

pub numeral_pair : (n : ℕ) → 100 ≤ n → numeral n ≡ numeral (n / 100) ++ pair (n % 100)
numeral_pair n low =
    let a : n / 10 / 10 ≡ n / 100 = omega arith in
    let b : n / 10 % 10 ≡ n % 100 / 10 = omega arith in
    let c : n % 10 ≡ n % 100 % 10 = omega arith in
    rw (numeral-step n (omega arith), numeral-step (n / 10) (omega arith), append_assoc, a, b, ← c) refl

pub numeral_three : (n : ℕ) → 100 ≤ n → n < 1000 → numeral n ≡ (48 + n / 100) ∷ pair (n % 100)
numeral_three n low high = rw (numeral_pair n low, numeral-digit (n / 100) (omega arith)) refl

pub numeral_four : (n : ℕ) → 1000 ≤ n → n < 10000 → numeral n ≡ pair (n / 100) ++ pair (n % 100)
numeral_four n low high = rw (numeral_pair n (omega arith), numeral_two (n / 100) (omega arith) (omega arith)) refl

-- the last digits of a number, by two and by four
pub last_two : (n : ℕ) → pair (n % 100) ≡ last_digits 2 n
last_two n =
    let tens : n % 100 / 10 ≡ n / 10 % 10 = omega arith in
    let ones : n % 100 % 10 ≡ n % 10 = omega arith in
    ap₂ (λ (a b : ℕ). (48 + a) ∷ (48 + b) ∷ []) tens ones

pub places_two : (more n : ℕ) → last_digits more (n / 100) ++ last_digits 2 n ≡ last_digits (suc (suc more)) n
places_two more n =
    let front : n / 100 ≡ n / 10 / 10 = omega arith in
    ap (λ (m : ℕ). last_digits more m ++ last_digits 2 n) front ∙ sym (append_assoc (last_digits more (n / 10 / 10)) ((48 + n / 10 % 10) ∷ []) ((48 + n % 10) ∷ []))

-- the numeral of a longer number ends in its last four digits, and that of a still longer one in its last eight
pub numeral_eight : (n : ℕ) → 10000 ≤ n → numeral (n / 10000) ++ last_digits 4 n ≡ numeral n
numeral_eight n low = sym (numeral-split 4 n low)

pub numeral_sixteen : (n : ℕ) → 100000000 ≤ n → numeral (n / 100000000) ++ (last_digits 4 (n / 10000) ++ last_digits 4 n) ≡ numeral n
numeral_sixteen n low =
    let front : n / 100000000 ≡ n / 10000 / 10000 = omega arith in
    ap (λ (m : ℕ). numeral m ++ (last_digits 4 (n / 10000) ++ last_digits 4 n)) front
    ∙ sym (append_assoc (numeral (n / 10000 / 10000)) (last_digits 4 (n / 10000)) (last_digits 4 n))
    ∙ ap (λ (t : List ℕ). t ++ last_digits 4 n) (numeral_eight (n / 10000) (omega arith))
    ∙ numeral_eight n (omega arith)
