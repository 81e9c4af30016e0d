use Rattle.std.proofs.Common.{ap}
use Rattle.global_book.specs.Book.{Book}
use Rattle.global_book.proofs.Booking.{kept-book}
use Rattle.global_book.proofs.book.PairBook.pair.Goals as goal

pub returns-clause-valid : goal.returns-clause-valid
returns-clause-valid c =
    kept-book c.self.inside.banks c.self.inside.linked c.args.self.now c.self.invariant (ap (λ (b : Book). b.orders) c.self.view_is) (ap (λ (b : Book). b.banks) c.self.view_is)
