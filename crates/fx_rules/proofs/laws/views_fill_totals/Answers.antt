use Rattle.fx_rules.proofs.ViewRaise.{views-fill-total}
use Rattle.fx_rules.proofs.laws.views_fill_totals.Goals as goal

pub returns : goal.returns
returns c = record { fill = views-fill-total }
