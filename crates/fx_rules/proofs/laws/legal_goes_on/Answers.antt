use Rattle.fx_rules.proofs.Soundness.{legal-push}
use Rattle.fx_rules.proofs.laws.legal_goes_on.Goals as goal

pub returns : goal.returns
returns c = record { legal = legal-push }
