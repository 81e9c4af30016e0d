use Rattle.credit_raise.proofs.Going.{raised-next}
use Rattle.credit_raise.proofs.laws.raises_go_on.Goals as goal

pub returns : goal.returns
returns c = record { go_on = raised-next }
