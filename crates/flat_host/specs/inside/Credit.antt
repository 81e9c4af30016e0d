-- What contracts see of the tables of credit.
use Rattle.flat_host.specs.FlatState.{FlatCredit}
use Rattle.flat_host.specs.inside.FlatState.{IsCredit}
use Rattle.flat_host.specs.declared.credit.Credit.TheInside.{Inside}

abbrev pub flat_credit_of : Inside → FlatCredit
flat_credit_of a = record {
  banks = a.banks;
  limits = a.limits.items;
  uses = a.uses.items;
  totals = a.totals.items;
}

abbrev pub IsTables : Inside → Type 0
IsTables a = IsCredit (flat_credit_of a)
