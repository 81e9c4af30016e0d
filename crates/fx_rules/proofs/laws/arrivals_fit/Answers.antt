use Rattle.fx_rules.proofs.Counting.{arrivals-few}
use Rattle.fx_rules.proofs.laws.arrivals_fit.Goals as goal

pub returns : goal.returns
returns c = record { fit = arrivals-few }
