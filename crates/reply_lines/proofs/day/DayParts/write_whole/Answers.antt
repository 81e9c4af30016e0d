-- The last lines follow the day.
use Rattle.fx_edges.proofs.Writing.{Wrote-of_longer, IsPrefixOf-append}
use Rattle.fx_edges.proofs.Gathering.{Wrote-then_rest, Wrote-from_none}
use Rattle.reply_lines.specs.Output.{day_text, last_text}
use Rattle.reply_lines.proofs.day.DayParts.write_whole.Goals as goal

pub returns-in-Ok : goal.returns-in-Ok
returns-in-Ok g c = record {
  wrote = λ entries books is are.
      Wrote-then_rest (last_text c.args.strays c.args.ending) c.write_end.result c.new-pieces.ensures (c.in-Ok.ensures.wrote entries books is are).ok c.write_end.ensures.wrote;
}

pub returns : goal.returns
returns g c = record {
  wrote = λ entries books is are. Wrote-of_longer {T = Unit {0}} (Wrote-from_none c.new-pieces.ensures (c.in-Err.ensures.wrote entries books is are))
      (IsPrefixOf-append (day_text c.args.session.now entries books) (last_text c.args.strays c.args.ending));
}
