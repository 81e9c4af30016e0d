use Rattle.credit_lines.proofs.Paying.{steps_paid}
use Rattle.credit_lines.proofs.laws.steps_are_paid.Goals as goal

pub returns : goal.returns
returns c = record { paid = steps_paid }
