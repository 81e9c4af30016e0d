use Rattle.std.proofs.Common.{◌≡◌, map}
use Rattle.fx_rules.specs.Lists.{below}
use Rattle.made_session.specs.Session.{made_bank}
use Rattle.made_session.proofs.banks.bank_names.Given as goal

-- the banks so far
abbrev pub invariant-loop-bank : goal.invariant-loop-bank
invariant-loop-bank l = l.names.items ≡ map made_bank (below l.bank)
