use Rattle.credit_raise.proofs.Going.{limited-apart}
use Rattle.credit_raise.proofs.laws.limits_set_others_apart.Goals as goal

pub returns : goal.returns
returns c = record { apart = limited-apart }
