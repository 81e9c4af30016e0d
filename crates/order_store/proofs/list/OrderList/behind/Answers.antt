use Rattle.order_store.proofs.Keeping.{kept-listed, seen_behind}
use Rattle.order_store.proofs.list.OrderList.behind.Goals as goal

pub returns-clause-behind : goal.returns-clause-behind
returns-clause-behind c =
    seen_behind c.self.inside.nodes.nodes c.self.inside.count c.self.inside.rows.items _ c.args.self.now c.args.place _ c.self.view_is c.self.invariant c.behind.ensures.link

pub returns-clause-valid : goal.returns-clause-valid
returns-clause-valid c = kept-listed c.self.inside.nodes.nodes c.self.inside.count c.self.inside.rows.items _ c.args.self.now c.self.view_is c.self.invariant
