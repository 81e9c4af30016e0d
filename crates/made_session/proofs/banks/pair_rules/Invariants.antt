use Rattle.std.proofs.Common.{◌≡◌, map}
use Rattle.fx_rules.specs.Lists.{below}
use Rattle.made_session.specs.Session.{made_pair}
use Rattle.made_session.proofs.banks.pair_rules.Given as goal

-- the pairs so far
abbrev pub invariant-loop-pair : goal.invariant-loop-pair
invariant-loop-pair l = l.rules.items ≡ map made_pair (below l.pair)
