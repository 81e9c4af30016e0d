use Rattle.std.proofs.Common.{◌≡◌, ℕ, ◌+◌, ◌-◌, ◌*◌, ◌^◌, ◌<◌, ◌≤◌, length, get_or, true, arith}
use Rattle.std.specs.Char.{is_ascii_digit}
use Rattle.fx_amounts.proofs.DigitLemmas.{digits_value_after-digit, list_all-digit, below-digit, fits-digits}
use Rattle.fx_amounts.proofs.numeral.with_digits.Goals as goal

-- the number with the next digit is in range
grown : (front value byte size i : ℕ) → ((digits : ℕ) → front < 10 ^ digits → value < 10 ^ (digits + i)) → front < 10 ^ (19 - size) → i < size → size ≤ 19 → byte ≤ 57 → value * 10 + (byte - 48) < 2 ^ 64
grown front value byte size i below fits within short digit =
    fits-digits (value * 10 + (byte - 48)) (19 - size + (i + 1)) (omega arith) (below-digit value (byte - 48) (19 - size) i (below (19 - size) fits) (omega arith))

pub overflow_mul-value : goal.overflow_mul-value
overflow_mul-value c =
    let digit : is_ascii_digit (get_or c.args.text.now c.loop-byte.byte-index 0) ≡ true = cc in
    let last : get_or c.args.text.now c.loop-byte.byte-index 0 ≤ 57 = grind (arith, digit) in
    omega (arith, grown c.args.front c.loop-byte.value (get_or c.args.text.now c.loop-byte.byte-index 0) (length c.args.text.now) c.loop-byte.byte-index c.loop-byte.invariant.below c.requires.fits c.loop-byte-test.true c.requires.short last)

pub overflow_add-value : goal.overflow_add-value
overflow_add-value c =
    let digit : is_ascii_digit (get_or c.args.text.now c.loop-byte.byte-index 0) ≡ true = cc in
    let last : get_or c.args.text.now c.loop-byte.byte-index 0 ≤ 57 = grind (arith, digit) in
    omega (arith, c.from.ensures, grown c.args.front c.loop-byte.value (get_or c.args.text.now c.loop-byte.byte-index 0) (length c.args.text.now) c.loop-byte.byte-index c.loop-byte.invariant.below c.requires.fits c.loop-byte-test.true c.requires.short last)

pub loop-byte-preserved : goal.loop-byte-preserved
loop-byte-preserved c =
    let byte : ℕ = get_or c.args.text.now c.loop-byte.byte-index 0 in
    let digit : is_ascii_digit (get_or c.args.text.now c.loop-byte.byte-index 0) ≡ true = cc in
    let last : get_or c.args.text.now c.loop-byte.byte-index 0 ≤ 57 = grind (arith, digit) in
    record {
      value = omega (arith, c.from.ensures, c.loop-byte.invariant.value, digits_value_after-digit c.args.front c.args.text.now c.loop-byte.byte-index c.loop-byte-test.true digit);
      digits = list_all-digit c.args.text.now c.loop-byte.byte-index c.loop-byte-test.true c.loop-byte.invariant.digits digit;
      below = λ digits fits. below-digit c.loop-byte.value c.from.result digits c.loop-byte.byte-index (c.loop-byte.invariant.below digits fits) (omega (arith, c.from.ensures));
    }
