-- The last piece is handed on, where all was written.
use Rattle.fx_edges.proofs.Gathering.{Wrote-rest_of_all, Wrote-from_none}
use Rattle.reply_lines.proofs.day.DayParts.write_part.Goals as goal

pub returns-in-Ok : goal.returns-in-Ok
returns-in-Ok g c = record {
  wrote = λ entries books is are. Wrote-rest_of_all c.hand_on.result c.new-pieces.ensures (c.in-Ok.ensures.wrote entries books is are).ok c.hand_on.ensures.wrote;
}

pub returns : goal.returns
returns g c = record { wrote = λ entries books is are. Wrote-from_none c.new-pieces.ensures (c.in-Err.ensures.wrote entries books is are) }
