use Rattle.std.proofs.Common.{ap, sym, ◌∙◌}
use Rattle.global_book.specs.Book.{Book, first, is_of_from}
use Rattle.std.specs.List.{filter}
use Rattle.global_book.proofs.Booking.{first-from, from-first, from-none, is-live, kept-book}
use Rattle.global_book.proofs.book.PairBook.next_of.Goals as goal

pub returns-in_err-place-clause-order : goal.returns-in_err-place-clause-order
returns-in_err-place-clause-order g c =
    c.from_residual.ensures ∙ sym (ap first (from-none c.self.inside.linked.orders c.args.bank c.args.after c.next_of.result c.next_of.ensures.first c.in_err-place.was))
    ∙ ap (λ (b : Book). first (filter (is_of_from c.args.bank c.args.after) b.orders)) c.self.view_is

pub returns-in_err-place-clause-valid : goal.returns-in_err-place-clause-valid
returns-in_err-place-clause-valid g c =
    kept-book c.self.inside.banks c.self.inside.linked c.args.self.now c.self.invariant (ap (λ (b : Book). b.orders) c.self.view_is) (ap (λ (b : Book). b.banks) c.self.view_is)

pub order-requires : goal.order-requires
order-requires g c =
    let it = from-first c.self.inside.linked.orders c.args.bank c.args.after c.next_of.result c.in_ok-place.place c.next_of.ensures.first c.in_ok-place.was in
    record { live = is-live _ it.is.order it.is.is }

pub returns-clause-order : goal.returns-clause-order
returns-clause-order g c =
    let it = from-first c.self.inside.linked.orders c.args.bank c.args.after c.next_of.result c.in_ok-place.place c.next_of.ensures.first c.in_ok-place.was in
    sym c.order.ensures.value ∙ it.is.is ∙ sym (first-from c.self.inside.linked.orders c.args.bank c.args.after c.in_ok-place.place it)
    ∙ ap (λ (b : Book). first (filter (is_of_from c.args.bank c.args.after) b.orders)) c.self.view_is

pub returns-clause-valid : goal.returns-clause-valid
returns-clause-valid g c =
    kept-book c.self.inside.banks c.self.inside.linked c.args.self.now c.self.invariant (ap (λ (b : Book). b.orders) c.self.view_is) (ap (λ (b : Book). b.banks) c.self.view_is)
