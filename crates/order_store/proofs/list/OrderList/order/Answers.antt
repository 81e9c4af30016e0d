use Rattle.order_store.proofs.Keeping.{kept-listed}
use Rattle.order_store.proofs.list.OrderList.order.Goals as goal

pub returns-clause-valid : goal.returns-clause-valid
returns-clause-valid c = kept-listed c.self.inside.nodes.nodes c.self.inside.count c.self.inside.rows.items _ c.args.self.now c.self.view_is c.self.invariant
