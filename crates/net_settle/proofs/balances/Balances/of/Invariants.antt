use Rattle.std.proofs.Common.{◌≡◌, ◌-◌, map}
use Rattle.fx_rules.specs.Lists.{below}
use Rattle.net_settle.specs.inside.Dues.{got_in, gave_in}
use Rattle.net_settle.proofs.balances.Balances.of.Given as goal

-- the balances of the banks that were passed
abbrev pub invariant-loop-bank : goal.invariant-loop-bank
invariant-loop-bank l = record {
  owes : l.owes.items ≡ map (λ bank. gave_in l.dues bank l.column - got_in l.dues bank l.column) (below l.bank);
  owed : l.owed.items ≡ map (λ bank. got_in l.dues bank l.column - gave_in l.dues bank l.column) (below l.bank);
}
