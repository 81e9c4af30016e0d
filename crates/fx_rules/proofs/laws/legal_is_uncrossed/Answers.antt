use Rattle.fx_rules.proofs.Uncrossed.{legal-uncrossed}
use Rattle.fx_rules.proofs.laws.legal_is_uncrossed.Goals as goal

pub returns : goal.returns
returns c = record { uncrossed = legal-uncrossed }
