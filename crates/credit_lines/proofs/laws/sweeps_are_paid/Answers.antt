use Rattle.credit_lines.proofs.Paying.{sweeps_paid}
use Rattle.credit_lines.proofs.laws.sweeps_are_paid.Goals as goal

pub returns : goal.returns
returns c = record { paid = sweeps_paid }
