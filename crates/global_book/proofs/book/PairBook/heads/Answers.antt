use Rattle.std.proofs.Common.{rules, ap, subst, sym, ◌≤◌, min, ℕ}
use Rattle.global_book.specs.Book.{Book}
use Rattle.global_book.proofs.Booking.{kept-book}
use Rattle.global_book.proofs.Heading.{begun}
use Rattle.global_book.proofs.book.PairBook.heads.Goals as goal

pub new-requires : goal.new-requires
new-requires g c =
    let few = subst (λ (banks : ℕ). min banks 64 ≤ g.row.N) (sym (ap (λ (b : Book). b.banks) c.self.view_is)) c.requires.banks in
    (search rules, (c.requires.most, (c.requires.groups, (c.self.inside.banks, few, c.self.invariant))))

pub returns-clause-begun : goal.returns-clause-begun
returns-clause-begun g c =
    begun c.self.inside.linked c.args.side c.args.limit g.row.N c.args.self.now c.new.result (ap (λ (b : Book). b.orders) c.self.view_is)
    c.new.ensures.side c.new.ensures.limit c.new.ensures.orders c.new.ensures.count c.new.ensures.best

pub returns-clause-valid : goal.returns-clause-valid
returns-clause-valid g c =
    kept-book c.self.inside.banks c.self.inside.linked c.args.self.now c.self.invariant (ap (λ (b : Book). b.orders) c.self.view_is) (ap (λ (b : Book). b.banks) c.self.view_is)
