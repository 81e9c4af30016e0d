use Rattle.order_store.proofs.Writing.{lots-made}
use Rattle.order_store.proofs.nodes.Nodes.lower.Goals as goal

pub returns-clause-nodes : goal.returns-clause-nodes
returns-clause-nodes c = lots-made c.self.inside.items.items _ c.args.self.now c.self.view_is c.args.place c.index_mut.result.now c.args.left c.requires.live c.index_mut.ensures.value
