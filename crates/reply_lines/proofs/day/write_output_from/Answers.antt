-- Nothing is written where memory for the day was refused.
use Rattle.std.proofs.Common.{◌++◌}
use Rattle.reply_lines.specs.Output.{IsOutput, day_text, last_text}
use Rattle.reply_lines.proofs.Outputs.{day-books, is_output, wanting}
use Rattle.reply_lines.proofs.day.write_output_from.Goals as goal

pub returns-in-Err : goal.returns-in-Err
returns-in-Err g c =
    let books = day-books c.args.session.now c.args.entries.now c.requires.legal in
    record {
      wrote = wanting {written = g.K.Sink.written} {faults = g.K.Sink.faults} c.args.out.now (IsOutput c.args.session.now c.args.entries.now c.args.strays c.args.ending) (day_text c.args.session.now c.args.entries.now books.0 ++ last_text c.args.strays c.args.ending) c.in-Err.memory
          (is_output c.args.session.now c.args.entries.now c.args.strays c.args.ending books.0 books.1);
    }
