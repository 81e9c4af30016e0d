use Rattle.net_settle.proofs.Least.{least_day}
use Rattle.net_settle.proofs.laws.least_day.Goals as goal

pub returns : goal.returns
returns c = record { least = least_day }
