use Rattle.credit_lines.proofs.Paying.{turns_paid}
use Rattle.credit_lines.proofs.laws.turns_are_paid.Goals as goal

pub returns : goal.returns
returns c = record { paid = turns_paid }
