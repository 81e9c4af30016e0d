use Rattle.std.proofs.Common.{◌+◌, ◌-◌, arith}
use native.Mathlib.Nat.{one-le-pow}
use Rattle.fx_amounts.proofs.DigitLemmas.{below-room}
use Rattle.order_lines.proofs.FrontNumbers.{around_number, front_number}
use Rattle.order_lines.proofs.fronts.number_before.Goals as goal

pub digits_from-value-requires-clause-fits : goal.digits_from-value-requires-clause-fits
digits_from-value-requires-clause-fits c = one-le-pow (19 - c.args.most) 10 (omega arith)

pub returns-clause-spelled : goal.returns-clause-spelled
returns-clause-spelled c =
    around_number c.args.text.now c.in_ok-behind.behind.now c.digits_from-value.result.1 c.digits_from-value.result.0 c.args.end c.in_ok-behind.ensures
    (front_number c.args.text.now c.digits_from-value.result.1 c.digits_from-value.result.0 c.digits_from-value.ensures.within (c.is_number.ensures.some c.if-not-is_number.false) c.digits_from-value.ensures.digits
    (c.is_number.ensures.leads c.if-not-is_number.false) c.digits_from-value.ensures.value)

pub returns-clause-below : goal.returns-clause-below
returns-clause-below c = below-room c.digits_from-value.result.0 (0 + c.digits_from-value.result.1) c.args.most (c.digits_from-value.ensures.below 0 (omega arith)) (omega (arith, c.digits_from-value.ensures.few))
