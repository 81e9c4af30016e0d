-- One bank's orders more are gathered, until all are.
use Rattle.std.proofs.Common.{rules}
use Rattle.std.proofs.lemmas.List.Sorted.{IsNonDecreasingBy-from_sort_by_key}
use Rattle.credit_raise.proofs.Crossing.{crossing-all, crossing-begins, crossing-more}
use Rattle.credit_raise.proofs.walk.crossing_orders.Goals as goal

pub loop-bank-init : goal.loop-bank-init
loop-bank-init g c = crossing-begins c.args.tops.now c.args.book.now.orders c.new-orders.result.items c.new-orders.ensures.items

pub loop-bank-preserved : goal.loop-bank-preserved
loop-bank-preserved g c =
    crossing-more c.args.tops.now c.args.book.now c.owners-owners.result.now c.loop-bank.bank-index c.bank-item.result c.loop-bank.orders.items c.gather.new.turns.items
    c.owners-owners.ensures.owners c.loop-bank-test.true c.bank-item.is c.loop-bank.invariant c.in_ok-gather.ensures.gathered

pub returns : goal.returns
returns g c = record {
  orders = crossing-all c.args.tops.now c.args.book.now c.owners-owners.result.now c.loop-bank.bank-index c.loop-bank.orders.items c.sort_unstable_by_key.new.self.items
      c.owners-owners.ensures.valid c.owners-owners.ensures.owners c.loop-bank-test.false c.loop-bank.invariant c.sort_unstable_by_key.ensures.permutation
      (IsNonDecreasingBy-from_sort_by_key (λ order. order.arrival) c.sort_unstable_by_key.new.self.items c.sort_unstable_by_key.ensures.sorted (λ a r q k. search rules));
}
