use Rattle.order_store.proofs.Keeping.{kept-listed, seen_before}
use Rattle.order_store.proofs.list.OrderList.before.Goals as goal

pub returns-clause-before : goal.returns-clause-before
returns-clause-before c =
    seen_before c.self.inside.nodes.nodes c.self.inside.count c.self.inside.rows.items _ c.args.self.now c.args.place _ c.self.view_is c.self.invariant c.before-2.ensures.link

pub returns-clause-valid : goal.returns-clause-valid
returns-clause-valid c = kept-listed c.self.inside.nodes.nodes c.self.inside.count c.self.inside.rows.items _ c.args.self.now c.self.view_is c.self.invariant
