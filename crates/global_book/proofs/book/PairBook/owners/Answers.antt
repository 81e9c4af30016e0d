use Rattle.std.proofs.Common.{ap, subst}
use Rattle.global_book.specs.Book.{Book}
use Rattle.global_book.specs.inside.Owning.{AreOwnersOf}
use Rattle.global_book.proofs.Booking.{kept-book}
use Rattle.global_book.proofs.Owning.{owners-are}
use Rattle.global_book.proofs.book.PairBook.owners.Goals as goal

pub returns-clause-valid : goal.returns-clause-valid
returns-clause-valid c =
    kept-book c.self.inside.banks c.self.inside.linked c.args.self.now c.self.invariant (ap (λ (b : Book). b.orders) c.self.view_is) (ap (λ (b : Book). b.banks) c.self.view_is)

pub returns-clause-owners : goal.returns-clause-owners
returns-clause-owners c =
    owners-are c.args.self.now c.owners.result.now
    (kept-book c.self.inside.banks c.self.inside.linked c.args.self.now c.self.invariant (ap (λ (b : Book). b.orders) c.self.view_is) (ap (λ (b : Book). b.banks) c.self.view_is))
    (subst (λ (b : Book). AreOwnersOf b.orders c.owners.result.now) c.self.view_is c.owners.ensures.owners)
