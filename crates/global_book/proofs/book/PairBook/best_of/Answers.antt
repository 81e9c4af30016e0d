-- Orders that arrived too late are passed until one arrived in time.
use Rattle.std.proofs.Common.{◌≡◌, ◌<◌, Option, Some, None, refl, subst, sym, arith}
use Rattle.std.specs.Option.{IfSome, option_copied}
use Rattle.fx_rules.specs.declared.orders.Resting.{Resting}
use Rattle.global_book.specs.Behind.{owned_behind}
use Rattle.global_book.specs.inside.Late.{still_to_come}
use Rattle.global_book.proofs.Behind.{either-best}
use Rattle.global_book.proofs.Late.{if-early, late-begun, late-cursor, late-ended, late-found, late-passed, late-smaller}
use Rattle.global_book.proofs.book.PairBook.best_of.Goals as goal

pub loop-next-init : goal.loop-next-init
loop-next-init g c = record {
  passes = late-begun c.args.self.now.orders c.args.bank c.args.side c.args.before (option_copied c.args.past) c.next_best-next.result c.next_best-next.ensures.none c.next_best-next.ensures.best;
  early = λ timely. (omega (arith, c.next_best-next.ensures.step), if-early c.args.self.now.orders c.args.bank c.args.side c.args.before (option_copied c.args.past) c.next_best-next.result timely c.next_best-next.ensures.best);
  valid = c.next_best-next.ensures.valid;
}

pub returns-then-order-before-clause-best : goal.returns-then-order-before-clause-best
returns-then-order-before-clause-best g c =
    late-found c.args.self.now c.args.bank c.args.side c.args.before (option_copied c.args.past) c.loop-next.next c.in-Some.order c.loop-next.invariant.valid c.loop-next.invariant.passes c.in-Some.is (omega (arith, c.if-order-before.true))

pub returns-then-order-before-clause-none : goal.returns-then-order-before-clause-none
returns-then-order-before-clause-none g c =
    either-best _ (owned_behind c.args.side c.args.bank c.args.before (option_copied c.args.past) c.args.self.now.orders) (Some c.in-Some.order) (λ none. absurd (some_not c.in-Some.order none))
    (late-found c.args.self.now c.args.bank c.args.side c.args.before (option_copied c.args.past) c.loop-next.next c.in-Some.order c.loop-next.invariant.valid c.loop-next.invariant.passes c.in-Some.is (omega (arith, c.if-order-before.true)))
  where
    some_not : (order : Resting) → Some order ≡ None → ⊥
    some_not order is = cc

pub next_best-next-requires-in-Some : goal.next_best-next-requires-in-Some
next_best-next-requires-in-Some g c = record {
  past = late-cursor c.args.self.now.orders c.args.bank c.args.side c.args.before (option_copied c.args.past) c.loop-next.next c.in-Some.order c.loop-next.invariant.passes c.in-Some.is;
}

pub loop-next-smaller : goal.loop-next-smaller
loop-next-smaller g c =
    let less = late-smaller c.args.self.now c.args.bank c.args.side c.next_best-next-in-Some.result c.in-Some.order c.loop-next.invariant.valid c.next_best-next-in-Some.ensures.best in
    subst (λ (f : Option Resting). still_to_come c.args.self.now.orders c.args.bank c.args.side c.next_best-next-in-Some.result < still_to_come c.args.self.now.orders c.args.bank c.args.side f) (sym c.in-Some.is) less

pub loop-next-preserved : goal.loop-next-preserved
loop-next-preserved g c = record {
  passes = late-passed c.args.self.now c.args.bank c.args.side c.args.before (option_copied c.args.past) c.loop-next.next c.next_best-next-in-Some.result c.in-Some.order c.loop-next.invariant.valid c.loop-next.invariant.passes c.in-Some.is
      (omega (arith, c.if-order-before.false)) c.next_best-next-in-Some.ensures.none c.next_best-next-in-Some.ensures.best;
  early = λ timely.
      let own : c.in-Some.order.arrival < c.args.before = subst (λ (f : Option Resting). IfSome f (λ order. order.arrival < c.args.before)) c.in-Some.is (c.loop-next.invariant.early timely).1 in
      absurd (omega (arith, own, c.if-order-before.false));
  valid = c.loop-next.invariant.valid;
}

pub returns-clause-none : goal.returns-clause-none
returns-clause-none g c = (
  λ _. late-ended c.args.self.now c.args.bank c.args.side c.args.before (option_copied c.args.past) c.loop-next.next c.loop-next.invariant.valid c.loop-next.invariant.passes c.in_default.is,
  λ _. refl,
)
