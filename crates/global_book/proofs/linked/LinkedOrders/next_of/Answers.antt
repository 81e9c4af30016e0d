use Rattle.std.proofs.Common.{subst}
use Rattle.order_store.specs.Linked.{AreListed, HasFrom, IsFirstFrom}
use Rattle.order_store.specs.Orders.{order_at}
use Rattle.global_book.specs.inside.Linked.{Linked}
use Rattle.global_book.proofs.linked.LinkedOrders.next_of.Goals as goal

pub returns-clause-first : goal.returns-clause-first
returns-clause-first c = subst (λ (l : Linked). IsFirstFrom (HasFrom (order_at l.orders) c.args.bank c.args.after) 0 c.next_of.result) c.self.view_is c.next_of.ensures

pub returns-clause-valid : goal.returns-clause-valid
returns-clause-valid c = subst (λ (l : Linked). AreListed l.orders) c.self.view_is c.self.invariant.listed
