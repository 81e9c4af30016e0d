use Rattle.std.proofs.Common.{◌≡◌, ◌+◌, ◌-◌, length, arith}
use native.Mathlib.Nat.{one-le-pow}
use Rattle.fx_amounts.proofs.numeral.short_numeral.Goals as goal

pub with_digits-requires-clause-fits : goal.with_digits-requires-clause-fits
with_digits-requires-clause-fits c = one-le-pow (19 - length c.args.text.now) 10 (omega arith)

pub returns-clause-below : goal.returns-clause-below
returns-clause-below c =
    let none : 0 + length c.args.text.now ≡ length c.args.text.now = omega arith in
    rw none at (c.with_digits.ensures.below 0 (omega arith))
