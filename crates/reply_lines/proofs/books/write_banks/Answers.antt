-- Each turn writes one bank's books behind those so far.
use Rattle.reply_lines.specs.inside.Books.{book_lines}
use Rattle.reply_lines.proofs.Outputs.{place_kept, places_of, places_of_cut}
use Rattle.reply_lines.proofs.books.write_banks.Goals as goal

pub returns-in_err-write_pairs : goal.returns-in_err-write_pairs
returns-in_err-write_pairs g c = record {
  wrote = λ books are. places_of_cut (book_lines c.args.session.now books) c.from_residual.result c.from_residual.ensures.1 c.at.ensures.value c.loop-place-test.true c.banks-place-end.ensures.value
      (c.loop-place.invariant books are) (c.in_err-write_pairs.ensures.wrote books are);
}

pub loop-place-preserved : goal.loop-place-preserved
loop-place-preserved g c = λ books are. place_kept (book_lines c.args.session.now books) c.loop-place.place c.at.ensures.value (c.loop-place.invariant books are) (c.in_ok-write_pairs.ensures.wrote books are)

pub returns : goal.returns
returns g c = record { wrote = λ books are. places_of (book_lines c.args.session.now books) c.loop-place-test.false c.loop-place.auto.place-end c.banks-place-end.ensures.value (c.loop-place.invariant books are) }
