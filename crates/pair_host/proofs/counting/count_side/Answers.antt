-- Each order of the bank and the side is counted once.
use Rattle.std.proofs.Common.{◌≡◌, ◌^◌, [], List, Option, refl, ap, subst, arith, length}
use Rattle.fx_amounts.specs.Side.{opposite}
use Rattle.fx_rules.specs.declared.orders.Resting.{Resting}
use Rattle.fx_rules.specs.Sweep.{IsBest}
use Rattle.global_book.specs.Behind.{owned_behind}
use Rattle.global_book.proofs.Late.{cursor-from, next-less}
use Rattle.pair_host.proofs.Counted.{few_owned}
use Rattle.pair_host.proofs.counting.count_side.Goals as goal

pub overflow_add-count : goal.overflow_add-count
overflow_add-count g c =
    omega (
      arith,
      next-less c.args.book.now c.args.bank c.args.side c.loop-order.past c.in-Some.order c.in-Some.ensures.valid
          (subst (λ (p : Option Resting). IsBest (opposite c.args.side) (owned_behind c.args.side c.args.bank (2 ^ 64) p c.args.book.now.orders) c.in-Some.order) c.as_ref.ensures.value c.in-Some.ensures.best),
      few_owned c.args.book.now c.args.bank c.args.side c.in-Some.ensures.valid,
      c.loop-order.invariant.counted,
    )

pub loop-order-smaller : goal.loop-order-smaller
loop-order-smaller g c =
    omega (
      arith,
      next-less c.args.book.now c.args.bank c.args.side c.loop-order.past c.in-Some.order c.in-Some.ensures.valid
          (subst (λ (p : Option Resting). IsBest (opposite c.args.side) (owned_behind c.args.side c.args.bank (2 ^ 64) p c.args.book.now.orders) c.in-Some.order) c.as_ref.ensures.value c.in-Some.ensures.best),
    )

pub loop-order-preserved : goal.loop-order-preserved
loop-order-preserved g c =
    let best : IsBest (opposite c.args.side) (owned_behind c.args.side c.args.bank (2 ^ 64) c.loop-order.past c.args.book.now.orders) c.in-Some.order =
    subst (λ (p : Option Resting). IsBest (opposite c.args.side) (owned_behind c.args.side c.args.bank (2 ^ 64) p c.args.book.now.orders) c.in-Some.order) c.as_ref.ensures.value c.in-Some.ensures.best in
    record {
      counted = omega (
        arith,
        next-less c.args.book.now c.args.bank c.args.side c.loop-order.past c.in-Some.order c.in-Some.ensures.valid best,
        c.loop-order.invariant.counted,
      );
      cursor = cursor-from c.args.book.now.orders c.args.bank c.args.side (2 ^ 64) c.loop-order.past c.in-Some.order best.there;
    }

pub returns-clause-count : goal.returns-clause-count
returns-clause-count g c =
    let none : owned_behind c.args.side c.args.bank (2 ^ 64) c.loop-order.past c.args.book.now.orders ≡ [] =
    subst (λ (p : Option Resting). owned_behind c.args.side c.args.bank (2 ^ 64) p c.args.book.now.orders ≡ []) c.as_ref.ensures.value (c.in_default.ensures.none.0 refl) in
    omega (arith, ap (λ (os : List Resting). length os) none, c.loop-order.invariant.counted)
