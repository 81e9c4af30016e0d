-- Each order that the bank owns is compared with the best so far.
use Rattle.std.proofs.Common.{Some, None, sym, subst, ◌∙◌, ap, take, ◌+◌}
use Rattle.fx_amounts.specs.Side.{opposite}
use Rattle.fx_amounts.specs.declared.side.Side.{Side}
use Rattle.fx_rules.specs.declared.orders.Resting.{Resting}
use Rattle.global_book.specs.Behind.{owned_behind}
use Rattle.credit_raise.specs.inside.Playing.{IsBestOf}
use Rattle.credit_raise.specs.inside.Waiting.{better_of}
use Rattle.credit_raise.proofs.Listed.{best-with, best-without}
use Rattle.credit_raise.proofs.waiting.best_in.Goals as goal
use Rattle.credit_raise.proofs.waiting.best_in.Goals.{then-is_owned, else-is_owned}

pub loop-order-preserved : goal.loop-order-preserved
loop-order-preserved c = elim c.if-is_owned.branch [
  | then-is_owned w ↦ subst (IsBestOf (opposite c.args.side) (owned_behind c.args.side c.args.bank c.args.before None (take (c.loop-order.order-index + 1) c.args.orders.now)))
      (sym (w.best-is ∙ ap (λ (o : Resting). Some o) (w.better_of.ensures.value ∙ ap (λ (taker : Side). better_of taker c.loop-order.best c.order-item.result) w.opposite.ensures)))
      (best-with c.args.side c.args.bank c.args.before c.args.orders.now c.loop-order.order-index c.order-item.result c.loop-order.best c.loop-order-test.true c.order-item.is c.loop-order.invariant
      (sym c.is_owned.ensures ∙ w.if-is_owned.true))
  | else-is_owned w ↦ subst (IsBestOf (opposite c.args.side) (owned_behind c.args.side c.args.bank c.args.before None (take (c.loop-order.order-index + 1) c.args.orders.now))) (sym w.best-is)
      (best-without c.args.side c.args.bank c.args.before c.args.orders.now c.loop-order.order-index c.order-item.result c.loop-order.best c.loop-order-test.true c.order-item.is c.loop-order.invariant
      (sym c.is_owned.ensures ∙ w.if-is_owned.false))
]
