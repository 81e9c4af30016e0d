use Rattle.order_store.proofs.Writing.{cleared-made}
use Rattle.order_store.proofs.nodes.Nodes.clear.Goals as goal

pub returns-clause-nodes : goal.returns-clause-nodes
returns-clause-nodes c = cleared-made c.self.inside.items.items _ c.args.self.now c.self.view_is c.args.place c.index_mut.result.now c.index.result.now.order
