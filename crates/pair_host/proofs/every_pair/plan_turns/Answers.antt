-- The next book was made for the banks of the session, as those of the change are.
use Rattle.std.proofs.Common.{ap, sym, subst, ◌∙◌}
use Rattle.global_book.specs.Book.{Book}
use Rattle.credit_raise.specs.UnderWay.{HasBanks}
use Rattle.pair_host.proofs.every_pair.plan_turns.Goals as goal

pub pair-requires-in-loop-book-clause-banks : goal.pair-requires-in-loop-book-clause-banks
pair-requires-in-loop-book-clause-banks c =
    let at = c.requires.books c.loop-book.book-index c.book-item.result c.loop-book-test.true in
    subst (HasBanks c.loop-book.change.course) (sym (ap (λ (b : Book). b.banks) c.book-item.is ∙ at.made_for)) c.loop-book.invariant.banks
