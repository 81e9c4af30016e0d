use Rattle.fx_rules.proofs.Traded.{traded-sent}
use Rattle.fx_rules.proofs.laws.traded_is_sent.Goals as goal

pub returns : goal.returns
returns c = record { sent = traded-sent }
