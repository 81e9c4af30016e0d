use Rattle.std.proofs.Common.{ap, ◌∙◌}
use Rattle.order_store.specs.Orders.{Orders, kept}
use Rattle.order_store.proofs.Keeping.{kept-listed}
use Rattle.order_store.proofs.list.OrderList.len.Goals as goal

pub returns-clause-count : goal.returns-clause-count
returns-clause-count c = c.self.invariant.are.count_is ∙ ap (λ (o : Orders). kept o) c.self.view_is

pub returns-clause-valid : goal.returns-clause-valid
returns-clause-valid c = kept-listed c.self.inside.nodes.nodes c.self.inside.count c.self.inside.rows.items _ c.args.self.now c.self.view_is c.self.invariant
