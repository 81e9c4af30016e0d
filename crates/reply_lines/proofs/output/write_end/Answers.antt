-- The last piece is what is held when the last lines are written.
use Rattle.fx_edges.proofs.Gathering.{Wrote-rest}
use Rattle.reply_lines.proofs.Outputs.{not_ended}
use Rattle.reply_lines.proofs.output.write_end.Goals as goal

pub returns-in_err-write_last : goal.returns-in_err-write_last
returns-in_err-write_last g c = record { wrote = not_ended c.from_residual.result c.from_residual.ensures.1 c.in_err-write_last.ensures.wrote }

pub returns : goal.returns
returns g c = record { wrote = Wrote-rest c.hand_on.result c.in_ok-write_last.ensures.wrote.ok c.hand_on.ensures.wrote }
