use Rattle.std.proofs.Common.{ap, ◌∙◌}
use Rattle.fx_amounts.specs.Side.{opposite}
use Rattle.price_levels.specs.declared.level.Level.{Level}
use Rattle.access_index.specs.Ranked.{bank_level}
use Rattle.global_book.specs.Book.{Book, level_lots}
use Rattle.global_book.specs.Room.{ladders_of}
use Rattle.global_book.specs.inside.Linked.{Linked}
use Rattle.global_book.proofs.Booking.{kept-book}
use Rattle.global_book.proofs.Stepping.{lots-are}
use Rattle.global_book.proofs.book.PairBook.lots_at.Goals as goal

pub returns-clause-lots : goal.returns-clause-lots
returns-clause-lots c =
    let linked : Linked = c.self.inside.linked in
    ap (λ (l : Level). l.lots) c.level.ensures.level
    ∙ ap (λ r. (bank_level (ladders_of linked.ladders c.args.side) c.args.bank r).lots) c.rank_of.ensures.rank
    ∙ lots-are linked c.level.ensures.valid c.level.ensures.linked c.args.bank c.args.side c.args.price c.rank_of.ensures.price
    ∙ ap (λ (b : Book). level_lots (opposite c.args.side) c.args.bank c.args.price b.orders) c.self.view_is

pub returns-clause-valid : goal.returns-clause-valid
returns-clause-valid c =
    kept-book c.self.inside.banks c.self.inside.linked c.args.self.now c.self.invariant (ap (λ (b : Book). b.orders) c.self.view_is) (ap (λ (b : Book). b.banks) c.self.view_is)
