-- A legal history has an output, and this is all but its last lines.
use Rattle.reply_lines.specs.Output.{IsDayText, day_text}
use Rattle.reply_lines.proofs.Outputs.{day_whole, day_part, is_day}
use Rattle.reply_lines.proofs.day.write_day.Goals as goal

pub write_part-requires : goal.write_part-requires
write_part-requires g c =
    let told = c.requires.told in
    record { told = (told.0, record { legal = told.1; journal = told.2; notices = told.3; at_the_end = told.4 }) }

pub returns-in-Ok : goal.returns-in-Ok
returns-in-Ok g c = record {
  wrote = λ entries legal journal notices stands.
      day_whole c.args.session.now entries (IsDayText c.args.session.now entries) (day_text c.args.session.now entries) (is_day c.args.session.now entries) legal
      (λ books are. c.in-Ok.ensures.wrote entries books (record { legal = legal; journal = journal; notices = notices; at_the_end = stands }) are);
}

pub returns-in-Err : goal.returns-in-Err
returns-in-Err g c = record {
  wrote = λ entries legal journal notices stands.
      day_part c.args.session.now entries (IsDayText c.args.session.now entries) (day_text c.args.session.now entries) (is_day c.args.session.now entries) legal
      c.in-Err.fault c.from.result c.from.ensures (λ books are. c.in-Err.ensures.wrote entries books (record { legal = legal; journal = journal; notices = notices; at_the_end = stands }) are);
}
