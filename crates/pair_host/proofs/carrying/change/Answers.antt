-- A step of a state that the book is of can be made in the book.
use Rattle.std.proofs.Common.{◌≡◌, ◌<◌, false, List, sym, subst}
use Rattle.fx_rules.specs.declared.orders.Fill.{Fill}
use Rattle.fx_rules.specs.Lists.{Each}
use Rattle.fx_rules.specs.Sweep.{is_order}
use Rattle.match_sweep.specs.Carries.{carried}
use Rattle.pair_host.proofs.Carried.{can_carry, can_cancel, can_lower}
use Rattle.pair_host.proofs.carrying.change.Goals as goal

pub carry_order-requires-clause-last : goal.carry_order-requires-clause-last
carry_order-requires-clause-last c =
    subst (λ (fills : List Fill). Each (λ order. order.arrival < c.args.sender.now.arrival) (carried c.args.book.now.orders fills)) (sym c.as_slice.ensures.items)
    (can_carry c.args.book.now c.args.sender.now c.args.command.now c.args.outcome.now c.in-Order.side c.in-Order.pair c.in-Order.price c.in-Order.lots c.in-Order.life
    c.in-Ordered.filled c.in-Ordered.rests c.in-Ordered.fills c.in-Order.is c.in-Ordered.is c.requires.pair c.requires.room c.requires.step).last

pub carry_order-requires-clause-absent : goal.carry_order-requires-clause-absent
carry_order-requires-clause-absent c =
    subst (λ (fills : List Fill). Each (λ order. is_order c.args.sender.now.bank c.args.sender.now.number order ≡ false) (carried c.args.book.now.orders fills)) (sym c.as_slice.ensures.items)
    (can_carry c.args.book.now c.args.sender.now c.args.command.now c.args.outcome.now c.in-Order.side c.in-Order.pair c.in-Order.price c.in-Order.lots c.in-Order.life
    c.in-Ordered.filled c.in-Ordered.rests c.in-Ordered.fills c.in-Order.is c.in-Ordered.is c.requires.pair c.requires.room c.requires.step).absent

pub remove-requires : goal.remove-requires
remove-requires c = record {
  rests = can_cancel c.args.book.now c.args.sender.now c.args.command.now c.args.outcome.now c.in-Cancel.pair c.in-Cancel.number c.in-Cancelled.left
      c.in-Cancel.is c.in-Cancelled.is c.requires.pair c.requires.step;
}

pub lower-requires : goal.lower-requires
lower-requires c = record {
  above = (can_lower c.args.book.now c.args.sender.now c.args.command.now c.args.outcome.now c.in-Reduce.pair c.in-Reduce.number c.in-Reduce.lots c.in-Reduced.left
      c.in-Reduce.is c.in-Reduced.is c.requires.pair c.requires.step).rests;
}
