use Rattle.fx_rules.specs.History.{state}
use Rattle.fx_rules.proofs.Trading.{legal-trades}
use Rattle.net_settle.proofs.Flows.{flows-are-nets}
use Rattle.net_settle.proofs.laws.flows_are_nets.Goals as goal

pub returns : goal.returns
returns c = record { nets = λ h entries bank currency legal. flows-are-nets h (state h entries) bank currency (legal-trades h entries legal) }
