use Rattle.std.proofs.Common.{arith, refl}
use Rattle.order_store.proofs.Keeping.{kept-listed, kept-lowered, lowered_is, lowered_seen, order_there}
use Rattle.order_store.proofs.list.OrderList.lower.Goals as goal

pub invariant_of-self : goal.invariant_of-self
invariant_of-self c =
    let nodes = c.self.inside.nodes.nodes in
    let there = order_there nodes _ c.args.self.now c.args.place c.self.view_is c.requires.live in
    kept-lowered nodes c.lower.new.self.nodes c.self.inside.count c.self.inside.rows.items c.args.place c.args.left there.0 c.self.invariant
    (lowered_is nodes c.lower.new.self.nodes c.args.place c.args.left there.0 there.1 c.lower.ensures.nodes) there.1 (omega (arith, c.count.ensures.least, c.count.ensures.value), omega (arith, c.count.ensures.most, c.count.ensures.value))

pub returns-clause-slots : goal.returns-clause-slots
returns-clause-slots c = lowered_seen c.self.inside.nodes.nodes c.lower.new.self.nodes _ c.args.self.now c.args.place c.args.left c.self.view_is c.lower.ensures.nodes

pub returns-clause-valid : goal.returns-clause-valid
returns-clause-valid c = kept-listed c.lower.new.self.nodes c.self.inside.count c.self.inside.rows.items _ _ refl (invariant_of-self c)
