use Rattle.std.proofs.Common.{◌≡◌, ◌+◌, None, Some, length, get_or, ap, refl, subst, sym, ◌∙◌, arith}
use Rattle.std.specs.Option.{option_copied}
use Rattle.fx_amounts.specs.Side.{opposite}
use Rattle.fx_rules.specs.declared.orders.Resting.{Resting}
use Rattle.global_book.specs.Sought.{allows, sought}
use Rattle.global_book.specs.inside.Reaching.{IsBestYet}
use Rattle.global_book.proofs.Behind.{either-best}
use Rattle.global_book.proofs.Reached.{owner-within, yet-dear, yet-found, yet-more, yet-none_found, yet-passed}
use Rattle.global_book.proofs.book.PairBook.best.Goals as goal
use Rattle.global_book.proofs.book.PairBook.best.Goals.{then-reach-index-gt0, else-reach-index-gt0}

pub bounds-reach-index : goal.bounds-reach-index
bounds-reach-index g c =
    let within = owner-within c.args.self.now c.args.side c.args.reach.now c.args.before (option_copied c.args.past) c.owners-bank-items.result.now c.loop-bank.invariant.valid c.loop-bank.invariant.owners c.loop-bank.bank-index
    c.bank-item.result c.bank-item.is c.loop-bank-test.true in
    omega (arith, within, c.index.ensures.value, c.requires.one_each)

pub loop-bank-preserved : goal.loop-bank-preserved
loop-bank-preserved g c = record {
  yet = elim c.if-reach-index-gt0.branch [
    | then-reach-index-gt0 w ↦
        subst (IsBestYet c.args.self.now.orders c.args.side c.args.reach.now c.args.before (option_copied c.args.past) c.owners-bank-items.result.now (c.loop-bank.bank-index + 1)) (sym w.best-is)
        (yet-more c.args.self.now c.args.side c.args.reach.now c.args.before (option_copied c.args.past) c.owners-bank-items.result.now c.loop-bank.invariant.valid c.loop-bank.bank-index c.bank-item.result c.loop-bank.best
        w.best_ahead-found.result w.better_of-best.result c.loop-bank.invariant.yet c.bank-item.is c.loop-bank-test.true (omega (arith, w.if-reach-index-gt0.true, ap (λ i. get_or c.args.reach.now i 0) c.index.ensures.value))
        w.best_ahead-found.ensures.none w.best_ahead-found.ensures.best
        w.better_of-best.ensures.either w.better_of-best.ensures.first w.better_of-best.ensures.second)
    | else-reach-index-gt0 w ↦
        subst (IsBestYet c.args.self.now.orders c.args.side c.args.reach.now c.args.before (option_copied c.args.past) c.owners-bank-items.result.now (c.loop-bank.bank-index + 1)) (sym w.best-is)
        (yet-passed c.args.self.now c.args.side c.args.reach.now c.args.before (option_copied c.args.past) c.owners-bank-items.result.now c.loop-bank.invariant.valid c.loop-bank.bank-index c.bank-item.result c.loop-bank.best
        c.loop-bank.invariant.yet c.bank-item.is c.loop-bank-test.true (omega (arith, w.if-reach-index-gt0.false, ap (λ i. get_or c.args.reach.now i 0) c.index.ensures.value)))
  ];
  owners = c.loop-bank.invariant.owners;
  steps = λ timely. elim c.if-reach-index-gt0.branch [
    | then-reach-index-gt0 w ↦ let was = c.loop-bank.invariant.steps timely in let more = w.best_ahead-found.ensures.steps timely in omega (arith, was, more, w.steps-is)
    | else-reach-index-gt0 w ↦ let was = c.loop-bank.invariant.steps timely in omega (arith, was, w.steps-is)
  ];
  valid = c.loop-bank.invariant.valid;
}

pub returns-in_err-order-clause-none : goal.returns-in_err-order-clause-none
returns-in_err-order-clause-none g c =
    let all : c.loop-bank.bank-index ≡ length c.owners-bank-items.result.now = omega arith in (
      λ _. yet-none_found c.args.self.now c.args.side c.args.reach.now c.args.before (option_copied c.args.past) c.owners-bank-items.result.now c.loop-bank.invariant.valid c.loop-bank.invariant.owners c.args.limit c.loop-bank.best
          (subst (λ n. IsBestYet c.args.self.now.orders c.args.side c.args.reach.now c.args.before (option_copied c.args.past) c.owners-bank-items.result.now n c.loop-bank.best) all c.loop-bank.invariant.yet) c.in_err-order.was,
      λ _. c.from_residual.ensures,
    )

pub returns-then-is_allowed-clause-none : goal.returns-then-is_allowed-clause-none
returns-then-is_allowed-clause-none g c =
    let all : c.loop-bank.bank-index ≡ length c.owners-bank-items.result.now = omega arith in
    either-best (opposite c.args.side) (sought c.args.side c.args.reach.now c.args.limit c.args.before (option_copied c.args.past) c.args.self.now.orders) (Some c.in_ok-order.order) (λ none. absurd (some_not c.in_ok-order.order none))
    (yet-found c.args.self.now c.args.side c.args.reach.now c.args.before (option_copied c.args.past) c.owners-bank-items.result.now c.loop-bank.invariant.valid c.loop-bank.invariant.owners c.args.limit c.loop-bank.best c.in_ok-order.order
    (subst (λ n. IsBestYet c.args.self.now.orders c.args.side c.args.reach.now c.args.before (option_copied c.args.past) c.owners-bank-items.result.now n c.loop-bank.best) all c.loop-bank.invariant.yet) c.in_ok-order.was
    (ap (λ s. allows s c.args.limit c.in_ok-order.order.price) (sym c.opposite.ensures) ∙ sym c.is_allowed.ensures ∙ c.if-is_allowed.true))
  where
    some_not : (order : Resting) → Some order ≡ None → ⊥
    some_not order is = cc

pub returns-then-is_allowed-clause-best : goal.returns-then-is_allowed-clause-best
returns-then-is_allowed-clause-best g c =
    let all : c.loop-bank.bank-index ≡ length c.owners-bank-items.result.now = omega arith in
    yet-found c.args.self.now c.args.side c.args.reach.now c.args.before (option_copied c.args.past) c.owners-bank-items.result.now c.loop-bank.invariant.valid c.loop-bank.invariant.owners c.args.limit c.loop-bank.best c.in_ok-order.order
    (subst (λ n. IsBestYet c.args.self.now.orders c.args.side c.args.reach.now c.args.before (option_copied c.args.past) c.owners-bank-items.result.now n c.loop-bank.best) all c.loop-bank.invariant.yet) c.in_ok-order.was
    (ap (λ s. allows s c.args.limit c.in_ok-order.order.price) (sym c.opposite.ensures) ∙ sym c.is_allowed.ensures ∙ c.if-is_allowed.true)

pub returns-clause-none : goal.returns-clause-none
returns-clause-none g c =
    let all : c.loop-bank.bank-index ≡ length c.owners-bank-items.result.now = omega arith in (
      λ _. yet-dear c.args.self.now c.args.side c.args.reach.now c.args.before (option_copied c.args.past) c.owners-bank-items.result.now c.loop-bank.invariant.valid c.loop-bank.invariant.owners c.args.limit c.loop-bank.best c.in_ok-order.order
          (subst (λ n. IsBestYet c.args.self.now.orders c.args.side c.args.reach.now c.args.before (option_copied c.args.past) c.owners-bank-items.result.now n c.loop-bank.best) all c.loop-bank.invariant.yet) c.in_ok-order.was
          (ap (λ s. allows s c.args.limit c.in_ok-order.order.price) (sym c.opposite.ensures) ∙ sym c.is_allowed.ensures ∙ c.if-is_allowed.false),
      λ _. refl,
    )
