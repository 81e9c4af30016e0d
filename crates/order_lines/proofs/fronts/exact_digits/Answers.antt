use Rattle.std.proofs.Common.{◌≡◌, ℕ, ◌-◌, ◌<◌, ◌≤◌, List, length, get_or, get_or-take, true, ap, sym, ◌∙◌, arith}
use Rattle.std.specs.Char.{is_ascii_digit}
use Rattle.fx_amounts.proofs.DigitLemmas.{digits_value_after-digit, list_all-digit, below-digit}
use Rattle.order_lines.proofs.FrontNumbers.{more_digits}
use Rattle.order_lines.proofs.fronts.exact_digits.Goals as goal

pub overflow_mul-value : goal.overflow_mul-value
overflow_mul-value g c =
    omega (arith, more_digits c.args.front c.loop-at.value 0 g.row.N c.loop-at.at c.loop-at.invariant.below c.requires.fits (omega (arith, c.loop-at-test.true)) c.requires.few (omega arith))

pub overflow_add-value : goal.overflow_add-value
overflow_add-value g c =
    let digit : is_ascii_digit (get_or c.in_ok-digits.digits.now c.loop-at.at 0) ≡ true = cc in
    let last : get_or c.in_ok-digits.digits.now c.loop-at.at 0 ≤ 57 = grind (arith, digit) in
    omega (arith, c.from.ensures, more_digits c.args.front c.loop-at.value (get_or c.in_ok-digits.digits.now c.loop-at.at 0 - 48) g.row.N c.loop-at.at c.loop-at.invariant.below c.requires.fits (omega (arith, c.loop-at-test.true)) c.requires.few (omega (arith, last)))

pub loop-at-preserved : goal.loop-at-preserved
loop-at-preserved g c =
    let digit : is_ascii_digit (get_or c.in_ok-digits.digits.now c.loop-at.at 0) ≡ true = cc in
    let last : get_or c.in_ok-digits.digits.now c.loop-at.at 0 ≤ 57 = grind (arith, digit) in
    let same : get_or c.in_ok-digits.digits.now c.loop-at.at 0 ≡ get_or c.args.text.now c.loop-at.at 0 =
    ap (λ (bytes : List ℕ). get_or bytes c.loop-at.at 0) c.in_ok-digits.ensures.cases.same ∙ get_or-take g.row.N c.args.text.now c.loop-at.at 0 (omega (arith, c.loop-at-test.true)) in
    let here : is_ascii_digit (get_or c.args.text.now c.loop-at.at 0) ≡ true = ap is_ascii_digit (sym same) ∙ digit in
    let within : c.loop-at.at < length c.args.text.now = omega (arith, c.loop-at-test.true, c.in_ok-digits.ensures.cases.enough) in
    record {
      value = omega (arith, same, c.from.ensures, c.loop-at.invariant.value, digits_value_after-digit c.args.front c.args.text.now c.loop-at.at within here);
      digits = list_all-digit c.args.text.now c.loop-at.at within c.loop-at.invariant.digits here;
      below = λ digits fits. below-digit c.loop-at.value c.from.result digits c.loop-at.at (c.loop-at.invariant.below digits fits) (omega (arith, c.from.ensures));
    }
