use Rattle.std.proofs.Common.{ap}
use Rattle.global_book.specs.Book.{Book}
use Rattle.global_book.proofs.Booking.{kept-book}
use Rattle.global_book.proofs.book.PairBook.gather_crossing.Goals as goal

pub returns-then-is_err-clause-valid : goal.returns-then-is_err-clause-valid
returns-then-is_err-clause-valid g c =
    kept-book c.self.inside.banks c.self.inside.linked c.args.self.now c.self.invariant (ap (λ (b : Book). b.orders) c.self.view_is) (ap (λ (b : Book). b.banks) c.self.view_is)

pub returns-else-is_err-clause-valid : goal.returns-else-is_err-clause-valid
returns-else-is_err-clause-valid g c =
    kept-book c.self.inside.banks c.self.inside.linked c.args.self.now c.self.invariant (ap (λ (b : Book). b.orders) c.self.view_is) (ap (λ (b : Book). b.banks) c.self.view_is)
