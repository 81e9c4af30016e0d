-- The last piece is handed on, where all was written.
use Rattle.std.proofs.Common.{◌++◌, subst}
use Rattle.fx_edges.specs.Writing.{Wrote}
use Rattle.fx_edges.proofs.Gathering.{Wrote-rest_of_all}
use Rattle.reply_lines.proofs.Outputs.{not_ended}
use Rattle.program_calls.specs.PaymentText.{payments_text}
use Rattle.program_calls.proofs.paying.text.write_payments.Goals as goal

pub returns-in_err-write_rows : goal.returns-in_err-write_rows
returns-in_err-write_rows g c = record {
  wrote = subst (λ held. Wrote g.K.Sink.written g.K.Sink.faults c.args.out.now c.write_rows.new.out (held ++ payments_text c.args.session.now c.args.payments.now) c.from_residual.result)
      c.new-pieces.ensures (not_ended c.from_residual.result c.from_residual.ensures.1 c.in_err-write_rows.ensures.wrote);
}

pub returns : goal.returns
returns g c = record { wrote = Wrote-rest_of_all c.hand_on.result c.new-pieces.ensures c.in_ok-write_rows.ensures.wrote.ok c.hand_on.ensures.wrote }
