use Rattle.fx_rules.proofs.Falling.{lines-fall}
use Rattle.fx_rules.proofs.laws.lines_fall.Goals as goal

pub returns : goal.returns
returns c = record { fall = lines-fall }
