-- What was made are the tables as the day opens.
use Rattle.std.proofs.Common.{arith, ap, length}
use Rattle.flat_host.specs.inside.Opening.{OpensWith}
use Rattle.flat_host.specs.inside.Credit.{flat_credit_of}
use Rattle.flat_host.specs.inside.FlatState.{IsCredit}
use Rattle.flat_host.proofs.OpeningLemmas.{opening-credit}
use Rattle.flat_host.proofs.credit.Credit.open.Goals as goal

opened : (c : goal.In_ok-opening_totals) → OpensWith c.args.session.now (flat_credit_of (record {
  banks = length c.banks.result.now;
  limits = c.in_ok-opening_limits.field-0;
  uses = c.in_ok-no_uses.field-0;
  totals = c.in_ok-opening_totals.field-0;
}))
opened c = record {
  banks = ap length c.banks.ensures.value;
  limits = c.in_ok-opening_limits.ensures.limits;
  uses = c.in_ok-no_uses.ensures.uses;
  totals = c.in_ok-opening_totals.ensures.totals;
}

kept : (c : goal.In_ok-opening_totals) → IsCredit (flat_credit_of (record {
  banks = length c.banks.result.now;
  limits = c.in_ok-opening_limits.field-0;
  uses = c.in_ok-no_uses.field-0;
  totals = c.in_ok-opening_totals.field-0;
}))
kept c =
    opening-credit c.args.session.now _ c.banks.ensures.valid (opened c)
    (omega (arith, c.in_ok-opening_limits.ensures.full)) (omega (arith, c.in_ok-no_uses.ensures.full)) (omega (arith, c.in_ok-opening_totals.ensures.full))

pub invariant_of-result : goal.invariant_of-result
invariant_of-result c = kept c

pub returns : goal.returns
returns c = record { opens = opened c; valid = kept c }
