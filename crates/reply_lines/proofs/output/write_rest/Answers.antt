-- The last lines follow local books and report.
use Rattle.fx_edges.proofs.Gathering.{Wrote-then_rest}
use Rattle.reply_lines.specs.Output.{last_text}
use Rattle.reply_lines.proofs.Outputs.{cut_off}
use Rattle.reply_lines.proofs.output.write_rest.Goals as goal

pub returns-in_err-write_books_and_report : goal.returns-in_err-write_books_and_report
returns-in_err-write_books_and_report g c = record {
  wrote = λ entries books report are. cut_off (last_text c.args.strays c.args.ending) c.from_residual.result c.new-pieces.ensures c.from_residual.ensures.1
      (c.in_err-write_books_and_report.ensures.wrote entries books report are);
}

pub returns : goal.returns
returns g c = record {
  wrote = λ entries books report are. Wrote-then_rest (last_text c.args.strays c.args.ending) c.write_end.result c.new-pieces.ensures
      (c.in_ok-write_books_and_report.ensures.wrote entries books report are).ok c.write_end.ensures.wrote;
}
