use Rattle.net_settle.proofs.TwoByTwo.{least_each_two}
use Rattle.net_settle.proofs.laws.least_each_two.Goals as goal

pub returns : goal.returns
returns c = record { least = least_each_two }
