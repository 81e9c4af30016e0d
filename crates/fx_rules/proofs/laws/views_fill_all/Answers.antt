use Rattle.fx_rules.proofs.ViewRaise.{views-fill}
use Rattle.fx_rules.proofs.laws.views_fill_all.Goals as goal

pub returns : goal.returns
returns c = record { fill = views-fill }
