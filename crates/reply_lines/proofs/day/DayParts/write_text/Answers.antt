-- The journal is that of the history, and so is what is found of it.
use Rattle.std.proofs.Common.{◌++◌, ◌∙◌, length, ap, subst, sym}
use Rattle.fx_edges.proofs.Gathering.{Gathered-then}
use Rattle.reply_lines.specs.Desks.{AreDesksOf}
use Rattle.reply_lines.specs.Output.{day_text, journal_text, desks_text}
use Rattle.reply_lines.specs.inside.Day.{closing_text}
use Rattle.reply_lines.proofs.Journals.{journal-told}
use Rattle.reply_lines.proofs.Outputs.{cut_short, not_begun, of_text}
use Rattle.reply_lines.proofs.day.DayParts.write_text.Goals as goal

pub into_findings-requires : goal.into_findings-requires
into_findings-requires g c =
    let told = c.requires.told in
    record { told = (told.0, told.1.legal, told.1.notices) }

pub write_desks-requires : goal.write_desks-requires
write_desks-requires g c =
    let told = c.requires.told in
    let desks = (c.in_ok-found.ensures.found told.0 told.1.notices).desks in
    record { desks = ap length c.deref.ensures.value ∙ desks.places }

pub write_books_and_report-requires : goal.write_books_and_report-requires
write_books_and_report-requires g c =
    let told = c.requires.told in
    record {
      market = record { entries = told.0; legal = told.1.legal; at_the_end = told.1.at_the_end };
      report = (told.0, (c.in_ok-found.ensures.found told.0 told.1.notices).report);
    }

pub returns-in_err-found : goal.returns-in_err-found
returns-in_err-found g c = record {
  wrote = λ entries books is are.
      not_begun g.K.Sink.written g.K.Sink.faults c.args.pieces.now c.args.out.now c.args.pieces.now (day_text c.args.session.now entries books)
      c.from_residual.result c.from_residual.ensures.1;
}

pub returns-in_err-write_head : goal.returns-in_err-write_head
unfolding day_text
returns-in_err-write_head g c =
    let h = c.args.session.now in
    record {
      wrote = λ entries books is are. cut_short c.from_residual-in_err-write_head.result (journal_text h entries ++ (desks_text h entries ++ closing_text h entries books)) c.from_residual-in_err-write_head.ensures.1 c.in_err-write_head.ensures.wrote;
    }

pub returns-in_err-write_journal_text : goal.returns-in_err-write_journal_text
unfolding day_text
returns-in_err-write_journal_text g c =
    let h = c.args.session.now in
    record {
      wrote = λ entries books is are.
          Gathered-then c.from_residual-in_err-write_journal_text.result c.in_ok-write_head.ensures.wrote
          (cut_short c.from_residual-in_err-write_journal_text.result (desks_text h entries ++ closing_text h entries books) c.from_residual-in_err-write_journal_text.ensures.1
          (of_text (journal-told h entries is.journal.count is.journal.lines) c.in_err-write_journal_text.ensures.wrote));
    }

pub returns-in_err-write_desks : goal.returns-in_err-write_desks
unfolding day_text
returns-in_err-write_desks g c =
    let h = c.args.session.now in
    record {
      wrote = λ entries books is are.
          Gathered-then c.from_residual-in_err-write_desks.result c.in_ok-write_head.ensures.wrote
          (Gathered-then c.from_residual-in_err-write_desks.result
          (of_text (journal-told h entries is.journal.count is.journal.lines) c.in_ok-write_journal_text.ensures.wrote)
          (cut_short c.from_residual-in_err-write_desks.result (closing_text h entries books) c.from_residual-in_err-write_desks.ensures.1
          (c.in_err-write_desks.ensures.wrote entries
          (subst (AreDesksOf h entries) (sym c.deref.ensures.value) (c.in_ok-found.ensures.found entries is.notices).desks))));
    }

pub returns : goal.returns
unfolding day_text
returns g c =
    let h = c.args.session.now in
    record {
      wrote = λ entries books is are.
          let found = c.in_ok-found.ensures.found entries is.notices in
          Gathered-then c.write_books_and_report.result c.in_ok-write_head.ensures.wrote
          (Gathered-then c.write_books_and_report.result
          (of_text (journal-told h entries is.journal.count is.journal.lines) c.in_ok-write_journal_text.ensures.wrote)
          (Gathered-then c.write_books_and_report.result
          (c.in_ok-write_desks.ensures.wrote entries (subst (AreDesksOf h entries) (sym c.deref.ensures.value) found.desks))
          (c.write_books_and_report.ensures.wrote entries books found.report
          (record { entries = entries; legal = is.legal; at_the_end = is.at_the_end; are_books = are }))));
    }
