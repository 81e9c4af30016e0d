use Rattle.flat_host.proofs.GoingOn.{has-sent}
use Rattle.flat_host.proofs.as_market.FlatHostMarket.count.Goals as goal

pub returns : goal.returns
returns c = record { count = has-sent c.args.self.now c.args.bank c.count.result c.count.ensures.value }
