use Rattle.std.proofs.Common.{List, ap, subst}
use Rattle.fx_rules.specs.declared.orders.Resting.{Resting}
use Rattle.global_book.specs.Book.{Book}
use Rattle.global_book.specs.Words.{AreBestWords}
use Rattle.global_book.proofs.Booking.{kept-book}
use Rattle.global_book.proofs.Words.{best-words}
use Rattle.global_book.proofs.book.PairBook.best_words.Goals as goal

pub returns-clause-words : goal.returns-clause-words
returns-clause-words g c =
    subst (λ (os : List Resting). AreBestWords c.args.side os c.words.result.now) (ap (λ (b : Book). b.orders) c.self.view_is)
    (best-words c.self.inside.banks c.self.inside.linked c.args.side c.words.result.now c.self.invariant c.words.ensures.linked c.words.ensures.words)

pub returns-clause-valid : goal.returns-clause-valid
returns-clause-valid g c =
    kept-book c.self.inside.banks c.self.inside.linked c.args.self.now c.self.invariant (ap (λ (b : Book). b.orders) c.self.view_is) (ap (λ (b : Book). b.banks) c.self.view_is)
