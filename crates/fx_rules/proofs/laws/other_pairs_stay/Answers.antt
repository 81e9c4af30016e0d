use Rattle.fx_rules.proofs.Staying.{other_pairs-stay}
use Rattle.fx_rules.proofs.laws.other_pairs_stay.Goals as goal

pub returns : goal.returns
returns c = record { stay = other_pairs-stay }
