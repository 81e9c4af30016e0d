-- What is written is the line that was made.
use Rattle.std.proofs.Common.{◌∙◌}
use Rattle.reply_lines.specs.Books.{book_line}
use Rattle.reply_lines.proofs.Outputs.{on_ok}
use Rattle.reply_lines.proofs.books.write_book.Goals as goal

pub returns : goal.returns
returns g c = record {
  wrote = λ books are. c.write_made.ensures.wrote (book_line c.args.session.now books c.args.bank c.args.pair)
      (on_ok c.make_book-made.result (λ made. c.deref.ensures.value ∙ made books are) c.make_book-made.ensures.ok);
}
