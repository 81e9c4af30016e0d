use Rattle.fx_rules.proofs.Determined.{outcome-same}
use Rattle.fx_rules.proofs.laws.outcomes_agree.Goals as goal

pub returns : goal.returns
returns c = record { agree = outcome-same }
