use Rattle.fx_rules.proofs.WordFronts.{front_is}
use Rattle.client_desk.proofs.keys.front_of.Goals as goal

pub returns : goal.returns
returns c = record { value = front_is c.args.count c.args.word c.requires.some c.requires.few }
