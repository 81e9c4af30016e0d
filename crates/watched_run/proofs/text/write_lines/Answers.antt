-- The lines follow their count.
use Rattle.std.proofs.Common.{◌∷◌, [], codes, ap}
use Rattle.fx_amounts.specs.Numeral.{numeral}
use Rattle.fx_edges.proofs.Gathering.{Gathered-then}
use Rattle.reply_lines.specs.Rows.{row}
use Rattle.reply_lines.proofs.Outputs.{cut_short, of_text}
use Rattle.watched_run.proofs.text.write_lines.Goals as goal

pub returns-in_err-write_count : goal.returns-in_err-write_count
returns-in_err-write_count g c = record {
  wrote = cut_short c.from_residual.result c.args.lines.now c.from_residual.ensures.1 (of_text (ap (λ n. row (codes "WATCHED") (numeral n ∷ [])) c.look_count.ensures.count) c.in_err-write_count.ensures.wrote);
}

pub returns : goal.returns
returns g c = record {
  wrote = Gathered-then c.put.result (of_text (ap (λ n. row (codes "WATCHED") (numeral n ∷ [])) c.look_count.ensures.count) c.in_ok-write_count.ensures.wrote) c.put.ensures.gathered;
}
