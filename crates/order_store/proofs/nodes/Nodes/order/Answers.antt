use Rattle.order_store.proofs.Writing.{order-read}
use Rattle.order_store.proofs.nodes.Nodes.order.Goals as goal

pub returns : goal.returns
returns c =
    let lookup = c.in_ok-get.ensures.lookup in
    record {
      order = order-read c.self.inside.items.items _ c.args.self.now c.self.view_is c.args.place c.in_ok-get.field-0.now c.deref.result.now c.order_of.result c.deref.ensures.value lookup.3.0 lookup.1 c.order_of.ensures;
    }
