-- A legal history has an output, and this is it.
use Rattle.std.proofs.Common.{◌++◌}
use Rattle.reply_lines.specs.Output.{IsOutput, day_text, last_text}
use Rattle.reply_lines.proofs.Journals.{lines-stand}
use Rattle.reply_lines.proofs.Outputs.{day_whole, day_part, is_output}
use Rattle.reply_lines.proofs.day.DayText.write.Goals as goal

pub write_whole-requires : goal.write_whole-requires
write_whole-requires g c =
    let told = c.requires.told in
    record { told = (told.0, record { legal = told.1; journal = lines-stand c.args.session.now told.0 c.args.self.journal c.as_lines.result told.2.journal c.as_lines.ensures.count c.as_lines.ensures.lines; notices = told.2.notices; at_the_end = told.3 }) }

pub returns-in-Ok : goal.returns-in-Ok
returns-in-Ok g c = record {
  wrote = λ entries legal text stands.
      day_whole c.args.session.now entries (IsOutput c.args.session.now entries c.args.strays c.args.ending) (λ books. day_text c.args.session.now entries books ++ last_text c.args.strays c.args.ending) (is_output c.args.session.now entries c.args.strays c.args.ending) legal
      (λ books are. c.in-Ok.ensures.wrote entries books (record { legal = legal; journal = lines-stand c.args.session.now entries c.args.self.journal c.as_lines.result text.journal c.as_lines.ensures.count c.as_lines.ensures.lines; notices = text.notices; at_the_end = stands }) are);
}

pub returns : goal.returns
returns g c = record {
  wrote = λ entries legal text stands.
      day_part c.args.session.now entries (IsOutput c.args.session.now entries c.args.strays c.args.ending) (λ books. day_text c.args.session.now entries books ++ last_text c.args.strays c.args.ending) (is_output c.args.session.now entries c.args.strays c.args.ending) legal
      c.in-Err.fault c.from.result c.from.ensures (λ books are. c.in-Err.ensures.wrote entries books (record { legal = legal; journal = lines-stand c.args.session.now entries c.args.self.journal c.as_lines.result text.journal c.as_lines.ensures.count c.as_lines.ensures.lines; notices = text.notices; at_the_end = stands }) are);
}
