use Rattle.fx_rules.proofs.ViewCommands.{views-told}
use Rattle.fx_rules.proofs.laws.views_tell_all.Goals as goal

pub returns : goal.returns
returns c = record { tell = views-told }
