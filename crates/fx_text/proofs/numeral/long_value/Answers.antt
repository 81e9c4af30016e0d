use Rattle.std.proofs.Common.{sym, arith, ◌∙◌, ◌-◌, ◌^◌}
use Rattle.fx_text.proofs.NumberLemmas.{number_of-leading_zero, number_of-stops, number_of-digits}
use Rattle.fx_amounts.proofs.DigitLemmas.{digits_value_after-digit, list_all-digit}
use Rattle.fx_text.proofs.numeral.long_value.Goals as goal

pub returns-then-text-eq48 : goal.returns-then-text-eq48
returns-then-text-eq48 c = sym (number_of-leading_zero 0 (2 ^ 64 - 1) c.args.text.now (omega arith) c.if-text-eq48.true)

pub returns-in_err-value : goal.returns-in_err-value
returns-in_err-value c = c.from_residual.ensures ∙ sym (number_of-stops 0 (2 ^ 64 - 1) c.args.text.now c.loop-byte.byte-index c.loop-byte.value c.loop-byte-test.true c.loop-byte.invariant.value c.in_err-value.ensures)

pub loop-byte-preserved : goal.loop-byte-preserved
loop-byte-preserved c = let h = c.in_ok-value.ensures in record {
  value = omega (arith, h.1, digits_value_after-digit 0 c.args.text.now c.loop-byte.byte-index c.loop-byte-test.true h.0.0);
  digits = list_all-digit c.args.text.now c.loop-byte.byte-index c.loop-byte-test.true c.loop-byte.invariant.digits h.0.0;
  fits = omega arith;
}

pub returns : goal.returns
returns c = sym (number_of-digits (2 ^ 64 - 1) c.args.text.now c.loop-byte.byte-index c.loop-byte.value c.loop-byte-test.false (omega arith) c.if-text-eq48.false c.loop-byte.invariant.digits c.loop-byte.invariant.value (omega arith))
