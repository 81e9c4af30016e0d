use Rattle.std.proofs.Common.{◌≡◌, None, Some, ap}
use Rattle.std.specs.Option.{option_copied}
use Rattle.fx_amounts.specs.Side.{opposite}
use Rattle.fx_rules.specs.declared.orders.Resting.{Resting}
use Rattle.global_book.specs.Behind.{owned_behind}
use Rattle.global_book.specs.Book.{Book}
use Rattle.global_book.proofs.Behind.{either-best}
use Rattle.global_book.proofs.Booking.{kept-book}
use Rattle.global_book.proofs.Seeking.{ahead-best, ahead-none}
use Rattle.global_book.proofs.book.PairBook.best_ahead.Goals as goal

pub returns-in_err-place-clause-none : goal.returns-in_err-place-clause-none
returns-in_err-place-clause-none g c = (
  λ _. ahead-none c.self.inside.linked c.args.self.now.orders c.args.bank c.args.side c.args.before (option_copied c.args.past) c.best_ahead.result (ap (λ (b : Book). b.orders) c.self.view_is) c.best_ahead.ensures.best c.in_err-place.was,
  λ _. c.from_residual.ensures,
)

pub returns-in_err-place-clause-valid : goal.returns-in_err-place-clause-valid
returns-in_err-place-clause-valid g c =
    kept-book c.self.inside.banks c.self.inside.linked c.args.self.now c.self.invariant (ap (λ (b : Book). b.orders) c.self.view_is) (ap (λ (b : Book). b.banks) c.self.view_is)

pub returns-clause-none : goal.returns-clause-none
returns-clause-none g c =
    either-best (opposite c.args.side) (owned_behind c.args.side c.args.bank c.args.before (option_copied c.args.past) c.args.self.now.orders) (Some c.order.result) (λ none. absurd (some_not c.order.result none))
    (ahead-best c.self.inside.linked c.args.self.now.orders c.args.bank c.args.side c.args.before (option_copied c.args.past) c.best_ahead.result c.in_ok-place.place c.order.result (ap (λ (b : Book). b.orders) c.self.view_is)
    c.best_ahead.ensures.best c.in_ok-place.was c.order.ensures.value)
  where
    some_not : (order : Resting) → Some order ≡ None → ⊥
    some_not order is = cc

pub returns-clause-best : goal.returns-clause-best
returns-clause-best g c =
    ahead-best c.self.inside.linked c.args.self.now.orders c.args.bank c.args.side c.args.before (option_copied c.args.past) c.best_ahead.result c.in_ok-place.place c.order.result (ap (λ (b : Book). b.orders) c.self.view_is)
    c.best_ahead.ensures.best c.in_ok-place.was c.order.ensures.value

pub returns-clause-valid : goal.returns-clause-valid
returns-clause-valid g c =
    kept-book c.self.inside.banks c.self.inside.linked c.args.self.now c.self.invariant (ap (λ (b : Book). b.orders) c.self.view_is) (ap (λ (b : Book). b.banks) c.self.view_is)
