use Rattle.client_desk.proofs.Within.{clients-within}
use Rattle.client_desk.proofs.laws.clients_stay_within.Goals as goal

pub returns : goal.returns
returns c = record { within = clients-within }
