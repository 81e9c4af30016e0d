use Rattle.std.proofs.Common.{◌≡◌, arith}
use Rattle.order_lines.proofs.fronts.places_from.Goals as goal

pub returns-in_default-clause-digits : goal.returns-in_default-clause-digits
returns-in_default-clause-digits c =
    let six : c.args.places ≡ 6 = omega arith in
    rw six c.exact_digits-in_default.ensures.digits

pub returns-in_default-clause-value : goal.returns-in_default-clause-value
returns-in_default-clause-value c =
    let six : c.args.places ≡ 6 = omega arith in
    rw six c.exact_digits-in_default.ensures.value
