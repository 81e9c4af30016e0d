use Rattle.std.proofs.Common.{◌≡◌, ℕ, ◌-◌, ◌<◌, ◌≤◌, length, get_or, true, arith}
use Rattle.std.specs.Char.{is_ascii_digit}
use Rattle.fx_amounts.proofs.DigitLemmas.{digits_value_after-digit, list_all-digit, below-digit}
use Rattle.order_lines.proofs.FrontNumbers.{more_digits}
use Rattle.order_lines.proofs.fronts.digits_from.Goals as goal

pub overflow_mul-value : goal.overflow_mul-value
overflow_mul-value c =
    let byte : ℕ = get_or c.args.text.now c.loop-at.at 0 in
    omega (arith, more_digits c.args.front c.loop-at.value 0 c.args.most c.loop-at.at c.loop-at.invariant.below c.requires.fits (omega (arith, c.loop-at-test.true)) c.requires.most (omega arith))

pub overflow_add-value : goal.overflow_add-value
overflow_add-value c =
    let digit : is_ascii_digit (get_or c.args.text.now c.loop-at.at 0) ≡ true = cc in
    let last : get_or c.args.text.now c.loop-at.at 0 ≤ 57 = grind (arith, digit) in
    omega (arith, c.from.ensures, more_digits c.args.front c.loop-at.value (get_or c.args.text.now c.loop-at.at 0 - 48) c.args.most c.loop-at.at c.loop-at.invariant.below c.requires.fits (omega (arith, c.loop-at-test.true)) c.requires.most (omega (arith, last)))

pub loop-at-preserved : goal.loop-at-preserved
loop-at-preserved c =
    let byte : ℕ = get_or c.args.text.now c.loop-at.at 0 in
    let digit : is_ascii_digit (get_or c.args.text.now c.loop-at.at 0) ≡ true = cc in
    let last : get_or c.args.text.now c.loop-at.at 0 ≤ 57 = grind (arith, digit) in
    let within : c.loop-at.at < length c.args.text.now = omega (arith, c.loop-at-test.true) in
    record {
      value = omega (arith, c.from.ensures, c.loop-at.invariant.value, digits_value_after-digit c.args.front c.args.text.now c.loop-at.at within digit);
      digits = list_all-digit c.args.text.now c.loop-at.at within c.loop-at.invariant.digits digit;
      below = λ digits fits. below-digit c.loop-at.value c.from.result digits c.loop-at.at (c.loop-at.invariant.below digits fits) (omega (arith, c.from.ensures));
    }
