-- The books follow their heading.
use Rattle.std.proofs.Common.{flat_map}
use Rattle.fx_edges.proofs.Gathering.{Gathered-then}
use Rattle.fx_rules.specs.Lists.{below}
use Rattle.fx_rules.specs.Session.{bank_count}
use Rattle.reply_lines.specs.Books.{books_text}
use Rattle.reply_lines.specs.inside.Books.{book_lines}
use Rattle.reply_lines.proofs.Outputs.{cut_short}
use Rattle.reply_lines.proofs.books.write_books.Goals as goal

pub returns-in_err-put : goal.returns-in_err-put
unfolding books_text
returns-in_err-put g c = record {
  wrote = λ books are. cut_short c.from_residual.result (flat_map (book_lines c.args.session.now books) (below (bank_count c.args.session.now))) c.from_residual.ensures.1 c.in_err-put.ensures.gathered;
}

pub returns : goal.returns
unfolding books_text
returns g c = record { wrote = λ books are. Gathered-then c.write_banks.result c.in_ok-put.ensures.gathered (c.write_banks.ensures.wrote books are) }
