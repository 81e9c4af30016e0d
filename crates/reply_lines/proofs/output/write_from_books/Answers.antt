-- A legal history has a report, and local books at its end; so it has an output, of which this is the rest.
use Rattle.std.proofs.Common.{◌++◌}
use Rattle.reply_lines.specs.Output.{IsRestOfOutput, last_text}
use Rattle.reply_lines.specs.inside.Day.{closing_text}
use Rattle.reply_lines.proofs.Outputs.{day-books, day_whole, day_part, is_rest, wanting}
use Rattle.reply_lines.proofs.Reporting.{report-at}
use Rattle.reply_lines.proofs.output.write_from_books.Goals as goal

pub returns-in-Err : goal.returns-in-Err
returns-in-Err g c =
    let books = day-books c.args.session.now c.args.entries.now c.requires.legal in
    record {
      wrote = wanting {written = g.K.Sink.written} {faults = g.K.Sink.faults} c.args.out.now (IsRestOfOutput c.args.session.now c.args.entries.now c.args.strays c.args.ending) (closing_text c.args.session.now c.args.entries.now books.0 ++ last_text c.args.strays c.args.ending) c.in-Err.memory
          (is_rest c.args.session.now c.args.entries.now c.args.strays c.args.ending books.0 books.1);
    }

pub write_rest-requires : goal.write_rest-requires
write_rest-requires g c =
    let h = c.args.session.now in
    let es = c.args.entries.now in
    record {
      market = record { entries = es; legal = c.requires.legal; at_the_end = c.requires.market };
      report = (es, report-at h es c.in-Ok.report c.in-Ok.ensures.volumes c.in-Ok.ensures.uses c.in-Ok.ensures.nets);
    }

pub returns-in-Ok-write_rest : goal.returns-in-Ok-write_rest
returns-in-Ok-write_rest g c =
    let h = c.args.session.now in
    let es = c.args.entries.now in
    record {
      wrote = day_whole h es (IsRestOfOutput h es c.args.strays c.args.ending) (λ books. closing_text h es books ++ last_text c.args.strays c.args.ending) (is_rest h es c.args.strays c.args.ending) c.requires.legal
          (λ books are. c.in-Ok-write_rest.ensures.wrote es books (report-at h es c.in-Ok.report c.in-Ok.ensures.volumes c.in-Ok.ensures.uses c.in-Ok.ensures.nets)
          (record { entries = es; legal = c.requires.legal; at_the_end = c.requires.market; are_books = are }));
    }

pub returns : goal.returns
returns g c =
    let h = c.args.session.now in
    let es = c.args.entries.now in
    record {
      wrote = day_part h es (IsRestOfOutput h es c.args.strays c.args.ending) (λ books. closing_text h es books ++ last_text c.args.strays c.args.ending) (is_rest h es c.args.strays c.args.ending) c.requires.legal
          c.in-Err-write_rest.fault c.from.result c.from.ensures
          (λ books are. c.in-Err-write_rest.ensures.wrote es books (report-at h es c.in-Ok.report c.in-Ok.ensures.volumes c.in-Ok.ensures.uses c.in-Ok.ensures.nets)
          (record { entries = es; legal = c.requires.legal; at_the_end = c.requires.market; are_books = are }));
    }
