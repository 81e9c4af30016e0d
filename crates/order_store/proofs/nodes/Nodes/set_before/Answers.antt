use Rattle.order_store.proofs.Writing.{before-made}
use Rattle.order_store.proofs.nodes.Nodes.set_before.Goals as goal

pub returns-clause-nodes : goal.returns-clause-nodes
returns-clause-nodes c =
    before-made c.self.inside.items.items _ c.args.self.now c.self.view_is c.in-Some.place c.index_mut.result.now c.args.place c.args.before c.link_to.result c.in-Some.is c.requires.live c.index_mut.ensures.value c.requires.fits c.link_to.ensures
