use Rattle.fx_rules.specs.History.{state}
use Rattle.day_report.proofs.Balance.{nets-balance}
use Rattle.fx_rules.proofs.Trading.{legal-trades}
use Rattle.day_report.proofs.day.nets_balance.Goals as goal

pub returns : goal.returns
returns c = record { balance = λ h entries currency legal. nets-balance h (state h entries) currency (legal-trades h entries legal) }
