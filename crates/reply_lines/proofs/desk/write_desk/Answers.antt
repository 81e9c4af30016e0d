-- The notices follow the desk's line.
use Rattle.std.proofs.Common.{◌∙◌}
use Rattle.fx_edges.proofs.Gathering.{Gathered-then}
use Rattle.reply_lines.proofs.Outputs.{cut_short, of_text}
use Rattle.reply_lines.proofs.desk.write_desk.Goals as goal

pub returns-in_err-put : goal.returns-in_err-put
returns-in_err-put g c = record {
  wrote = cut_short c.from_residual.result c.args.lines.now c.from_residual.ensures.1 (of_text (c.as_slice.ensures.bytes ∙ c.make_desk.ensures) c.in_err-put.ensures.gathered);
}

pub returns : goal.returns
returns g c = record {
  wrote = Gathered-then c.put-2.result (of_text (c.as_slice.ensures.bytes ∙ c.make_desk.ensures) c.in_ok-put.ensures.gathered) c.put-2.ensures.gathered;
}
