use Rattle.std.proofs.Common.{ap, sym, ◌∙◌}
use Rattle.std.specs.List.{filter}
use Rattle.fx_rules.specs.Sweep.{is_order}
use Rattle.global_book.specs.Book.{Book, first}
use Rattle.global_book.proofs.Booking.{first-is, found-at, is-live, kept-book, none-is}
use Rattle.global_book.proofs.book.PairBook.find.Goals as goal

pub returns-in_err-place-clause-order : goal.returns-in_err-place-clause-order
returns-in_err-place-clause-order g c =
    c.from_residual.ensures ∙ sym (ap first (none-is c.self.inside.linked.orders c.args.bank c.args.number (c.find.ensures.none c.in_err-place.was)))
    ∙ ap (λ (b : Book). first (filter (is_order c.args.bank c.args.number) b.orders)) c.self.view_is

pub returns-in_err-place-clause-valid : goal.returns-in_err-place-clause-valid
returns-in_err-place-clause-valid g c =
    kept-book c.self.inside.banks c.self.inside.linked c.args.self.now c.self.invariant (ap (λ (b : Book). b.orders) c.self.view_is) (ap (λ (b : Book). b.banks) c.self.view_is)

pub order-requires : goal.order-requires
order-requires g c =
    let it = found-at c.self.inside.linked.orders c.args.bank c.args.number c.find.result c.in_ok-place.place c.in_ok-place.was c.find.ensures.found in
    record { live = is-live _ it.0 it.1.at }

pub returns-clause-order : goal.returns-clause-order
returns-clause-order g c =
    let it = found-at c.self.inside.linked.orders c.args.bank c.args.number c.find.result c.in_ok-place.place c.in_ok-place.was c.find.ensures.found in
    sym c.order.ensures.value ∙ it.1.at
    ∙ sym (first-is c.self.inside.linked.orders c.args.bank c.args.number c.in_ok-place.place it.0 c.order.ensures.valid it.1)
    ∙ ap (λ (b : Book). first (filter (is_order c.args.bank c.args.number) b.orders)) c.self.view_is

pub returns-clause-valid : goal.returns-clause-valid
returns-clause-valid g c =
    kept-book c.self.inside.banks c.self.inside.linked c.args.self.now c.self.invariant (ap (λ (b : Book). b.orders) c.self.view_is) (ap (λ (b : Book). b.banks) c.self.view_is)
