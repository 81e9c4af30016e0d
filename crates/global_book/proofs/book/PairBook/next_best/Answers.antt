use Rattle.std.proofs.Common.{◌≡◌, ◌^◌, None, Some, ap, subst, sym}
use Rattle.std.specs.Option.{IfSome, option_copied}
use Rattle.fx_amounts.specs.Side.{opposite}
use Rattle.fx_rules.specs.Sweep.{IsBest}
use Rattle.fx_rules.specs.declared.orders.Resting.{Resting}
use Rattle.global_book.specs.Book.{Book}
use Rattle.global_book.specs.Behind.{owned_behind}
use Rattle.global_book.specs.inside.Bests.{is_past}
use Rattle.global_book.proofs.Behind.{best-live, either-best, is-best, is-none}
use Rattle.global_book.proofs.Booking.{kept-book}
use Rattle.global_book.proofs.book.PairBook.next_best.Goals as goal

pub returns-in_err-place-clause-none : goal.returns-in_err-place-clause-none
returns-in_err-place-clause-none g c = (
  λ _. is-none c.self.inside.banks c.self.inside.linked c.args.self.now.orders c.args.bank c.args.side (option_copied c.args.past) c.best_behind.result c.self.invariant (ap (λ (b : Book). b.orders) c.self.view_is) c.best_behind.ensures
      c.in_err-place.was,
  λ _. c.from_residual.ensures,
)

pub returns-in_err-place-clause-best : goal.returns-in_err-place-clause-best
returns-in_err-place-clause-best g c = subst (λ (f : _). IfSome f (IsBest (opposite c.args.side) (owned_behind c.args.side c.args.bank (2 ^ 64) (option_copied c.args.past) c.args.self.now.orders))) (sym c.from_residual.ensures) tt

pub returns-in_err-place-clause-valid : goal.returns-in_err-place-clause-valid
returns-in_err-place-clause-valid g c =
    kept-book c.self.inside.banks c.self.inside.linked c.args.self.now c.self.invariant (ap (λ (b : Book). b.orders) c.self.view_is) (ap (λ (b : Book). b.banks) c.self.view_is)

pub order-requires : goal.order-requires
order-requires g c = record {
  live = best-live c.self.inside.linked.orders.slots (is_past c.args.bank c.args.side (option_copied c.args.past)) c.args.side c.best_behind.result c.in_ok-place.place c.best_behind.ensures c.in_ok-place.was;
}

pub returns-clause-none : goal.returns-clause-none
returns-clause-none g c =
    either-best (opposite c.args.side) (owned_behind c.args.side c.args.bank (2 ^ 64) (option_copied c.args.past) c.args.self.now.orders) (Some c.order.result) (λ none. absurd (some_not c.order.result none))
    (is-best c.self.inside.banks c.self.inside.linked c.args.self.now.orders c.args.bank c.args.side (option_copied c.args.past) c.best_behind.result c.in_ok-place.place c.order.result c.self.invariant
    (ap (λ (b : Book). b.orders) c.self.view_is) c.best_behind.ensures c.in_ok-place.was c.order.ensures.value)
  where
    some_not : (order : Resting) → Some order ≡ None → ⊥
    some_not order is = cc

pub returns-clause-best : goal.returns-clause-best
returns-clause-best g c =
    is-best c.self.inside.banks c.self.inside.linked c.args.self.now.orders c.args.bank c.args.side (option_copied c.args.past) c.best_behind.result c.in_ok-place.place c.order.result c.self.invariant
    (ap (λ (b : Book). b.orders) c.self.view_is) c.best_behind.ensures c.in_ok-place.was c.order.ensures.value

pub returns-clause-valid : goal.returns-clause-valid
returns-clause-valid g c =
    kept-book c.self.inside.banks c.self.inside.linked c.args.self.now c.self.invariant (ap (λ (b : Book). b.orders) c.self.view_is) (ap (λ (b : Book). b.banks) c.self.view_is)
