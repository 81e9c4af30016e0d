use Rattle.fx_rules.proofs.WordFronts.{front_is}
use Rattle.fx_rules.proofs.names.front_of.Goals as goal

pub returns : goal.returns
returns c = record { value = front_is c.args.count c.args.word c.requires.some c.requires.few }
