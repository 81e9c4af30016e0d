-- One pair more is carried.
use Rattle.pair_host.specs.inside.Books.{IsCarried}
use Rattle.pair_host.proofs.Holding.{turned-next}
use Rattle.pair_host.proofs.every_pair.carry_turns.Goals as goal

pub loop-book-preserved : goal.loop-book-preserved
loop-book-preserved c =
    turned-next (IsCarried c.args.change.now) c.args.books.now c.loop-book.books c.loop-book.book-index c.book-item.result c.carry_turn.new.book c.loop-book.invariant c.loop-book-test.true
    (record { pair = c.carry_turn.ensures.pair; banks = c.carry_turn.ensures.banks; reaches = c.carry_turn.ensures.reaches })
