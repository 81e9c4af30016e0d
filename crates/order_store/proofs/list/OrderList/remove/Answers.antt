use Rattle.std.proofs.Common.{None, refl, ap, ◌∙◌}
use Rattle.std.proofs.Math.ListN.{set}
use Rattle.order_store.specs.Orders.{Orders}
use Rattle.order_store.specs.inside.Chains.{slots_of}
use Rattle.order_store.proofs.Keeping.{behind_live, kept-listed, kept-removed, neighbour, order_there, removed_is}
use Rattle.order_store.proofs.Listing.{behind-slots, removed-slots}
use Rattle.order_store.proofs.list.OrderList.remove.Goals as goal

pub set_before-requires-clause-live : goal.set_before-requires-clause-live
set_before-requires-clause-live c =
    let nodes = c.self.inside.nodes.nodes in
    let there = order_there nodes _ c.args.self.now c.args.place c.self.view_is c.requires.live in
    let same = ap slots_of c.set_behind.ensures.nodes ∙ behind-slots nodes c.before-before.result c.behind-behind.result in
    let behind = neighbour nodes c.set_behind.new.self.nodes c.self.inside.count c.self.inside.rows.items c.behind-behind.result _ c.self.invariant c.behind-behind.ensures.link same
    (behind_live nodes c.self.inside.count c.self.inside.rows.items c.args.place there.0 c.self.invariant there.1) in
    behind.0

pub invariant_of-self : goal.invariant_of-self
invariant_of-self c =
    let nodes = c.self.inside.nodes.nodes in
    let there = order_there nodes _ c.args.self.now c.args.place c.self.view_is c.requires.live in
    kept-removed nodes c.clear.new.self.nodes c.self.inside.count c.self.inside.rows.items c.args.place there.0 c.self.invariant
    (removed_is nodes c.set_behind.new.self.nodes c.set_before.new.self.nodes c.clear.new.self.nodes c.before-before.result c.behind-behind.result c.args.place
    c.before-before.ensures.link c.behind-behind.ensures.link c.set_behind.ensures.nodes c.set_before.ensures.nodes c.clear.ensures.nodes) there.1

pub returns-clause-slots : goal.returns-clause-slots
returns-clause-slots c =
    let nodes = c.self.inside.nodes.nodes in
    ap slots_of (removed_is nodes c.set_behind.new.self.nodes c.set_before.new.self.nodes c.clear.new.self.nodes c.before-before.result c.behind-behind.result c.args.place
    c.before-before.ensures.link c.behind-behind.ensures.link c.set_behind.ensures.nodes c.set_before.ensures.nodes c.clear.ensures.nodes)
    ∙ removed-slots nodes c.args.place ∙ ap (λ (o : Orders). set o.slots c.args.place None) c.self.view_is

pub returns-clause-valid : goal.returns-clause-valid
returns-clause-valid c = kept-listed c.clear.new.self.nodes _ c.self.inside.rows.items _ _ refl (invariant_of-self c)
