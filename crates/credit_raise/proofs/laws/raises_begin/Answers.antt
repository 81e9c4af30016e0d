use Rattle.credit_raise.proofs.Going.{raised-first}
use Rattle.credit_raise.proofs.laws.raises_begin.Goals as goal

pub returns : goal.returns
returns c = record { begin = raised-first }
