-- The count follows the lines.
use Rattle.std.proofs.Common.{length}
use Rattle.fx_edges.proofs.Gathering.{Gathered-then}
use Rattle.reply_lines.proofs.Outputs.{cut_short}
use Rattle.program_calls.specs.PaymentText.{payments_line}
use Rattle.program_calls.proofs.paying.text.write_rows.Goals as goal

pub returns-in_err-write_lines : goal.returns-in_err-write_lines
unfolding payments_line
returns-in_err-write_lines g c = record {
  wrote = cut_short c.from_residual.result (payments_line (length c.args.payments.now)) c.from_residual.ensures.1 c.in_err-write_lines.ensures.wrote;
}

pub returns : goal.returns
unfolding payments_line
returns g c = record { wrote = Gathered-then c.write_count.result c.in_ok-write_lines.ensures.wrote c.write_count.ensures.wrote }
