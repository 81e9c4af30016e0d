use Rattle.fx_rules.proofs.Staying.{other_counts-stay}
use Rattle.fx_rules.proofs.laws.other_counts_stay.Goals as goal

pub returns : goal.returns
returns c = record { stay = other_counts-stay }
