-- The report follows the books; it is that of the state at the end.
use Rattle.fx_edges.proofs.Gathering.{Gathered-then}
use Rattle.fx_rules.specs.History.{state}
use Rattle.reply_lines.specs.Report.{report_text}
use Rattle.reply_lines.proofs.Outputs.{cut_short, of_text}
use Rattle.reply_lines.proofs.Reporting.{reported}
use Rattle.reply_lines.proofs.output.write_books_and_report.Goals as goal

pub write_report-requires : goal.write_report-requires
write_report-requires g c = record { report = c.requires.report.1.names }

pub returns-in_err-write_books : goal.returns-in_err-write_books
returns-in_err-write_books g c =
    let h = c.args.session.now in
    record {
      wrote = λ entries books is all. cut_short c.from_residual.result (report_text h (state h entries)) c.from_residual.ensures.1 (c.in_err-write_books.ensures.wrote books all);
    }

pub returns : goal.returns
returns g c =
    let h = c.args.session.now in
    let r = c.args.report.now in
    record {
      wrote = λ entries books is all.
          Gathered-then c.write_report.result (c.in_ok-write_books.ensures.wrote books all)
          (of_text (reported h (state h entries) r.volumes r.uses r.nets is.volumes is.uses is.nets) c.write_report.ensures.wrote);
    }
