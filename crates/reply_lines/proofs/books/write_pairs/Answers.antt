-- Each turn writes one pair's book behind those so far.
use Rattle.reply_lines.specs.Books.{book_line}
use Rattle.reply_lines.proofs.Outputs.{place_kept, places_of, places_of_cut}
use Rattle.reply_lines.proofs.books.write_pairs.Goals as goal

pub returns-in_err-write_book : goal.returns-in_err-write_book
returns-in_err-write_book g c = record {
  wrote = λ books are. places_of_cut (book_line c.args.session.now books c.args.bank) c.from_residual.result c.from_residual.ensures.1 c.at.ensures.value c.loop-place-test.true c.pairs-place-end.ensures.value
      (c.loop-place.invariant books are) (c.in_err-write_book.ensures.wrote books are);
}

pub loop-place-preserved : goal.loop-place-preserved
loop-place-preserved g c = λ books are. place_kept (book_line c.args.session.now books c.args.bank) c.loop-place.place c.at.ensures.value (c.loop-place.invariant books are) (c.in_ok-write_book.ensures.wrote books are)

pub returns : goal.returns
returns g c = record { wrote = λ books are. places_of (book_line c.args.session.now books c.args.bank) c.loop-place-test.false c.loop-place.auto.place-end c.pairs-place-end.ensures.value (c.loop-place.invariant books are) }
