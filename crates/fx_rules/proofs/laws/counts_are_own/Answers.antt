use Rattle.fx_rules.proofs.Counting.{counts-own}
use Rattle.fx_rules.proofs.laws.counts_are_own.Goals as goal

pub returns : goal.returns
returns c = record { own = counts-own }
