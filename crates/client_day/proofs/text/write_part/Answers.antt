-- The last piece is handed on, where all was written.
use Rattle.std.proofs.Common.{◌++◌, subst}
use Rattle.fx_edges.specs.Writing.{Wrote}
use Rattle.fx_edges.proofs.Gathering.{Wrote-rest_of_all}
use Rattle.reply_lines.proofs.Outputs.{not_ended}
use Rattle.client_day.specs.Text.{clients_text}
use Rattle.client_day.proofs.text.write_part.Goals as goal

pub returns-in_err-write_lines : goal.returns-in_err-write_lines
returns-in_err-write_lines g c = record {
  wrote = λ events told. subst (λ held. Wrote g.K.Sink.written g.K.Sink.faults c.args.out.now c.write_lines.new.out (held ++ clients_text c.args.session.now c.args.book.now.clients events) c.from_residual.result)
      c.new-pieces.ensures (not_ended c.from_residual.result c.from_residual.ensures.1 (c.in_err-write_lines.ensures.wrote events told));
}

pub returns : goal.returns
returns g c = record { wrote = λ events told. Wrote-rest_of_all c.hand_on.result c.new-pieces.ensures (c.in_ok-write_lines.ensures.wrote events told).ok c.hand_on.ensures.wrote }
