use Rattle.fx_rules.proofs.ViewCommands.{books-alike}
use Rattle.fx_rules.proofs.laws.views_show_all.Goals as goal

pub returns : goal.returns
returns c = record { show = books-alike }
