use Rattle.client_desk.proofs.Settling.{steps-settle}
use Rattle.client_desk.proofs.laws.steps_settle.Goals as goal

pub returns : goal.returns
returns c = record { settles = steps-settle }
