-- The clients follow their count.
use Rattle.std.proofs.Common.{◌∷◌, [], codes, ap, length, flat_map}
use Rattle.fx_amounts.specs.Numeral.{numeral}
use Rattle.fx_edges.proofs.Gathering.{Gathered-then}
use Rattle.fx_rules.specs.Lists.{below}
use Rattle.reply_lines.specs.Rows.{row}
use Rattle.reply_lines.proofs.Outputs.{cut_short, of_text}
use Rattle.client_day.specs.Text.{client_part, clients_text}
use Rattle.client_day.proofs.text.write_lines.Goals as goal

pub returns-in_err-write_count : goal.returns-in_err-write_count
unfolding clients_text
returns-in_err-write_count g c = record {
  wrote = λ events told.
      cut_short c.from_residual.result (flat_map (client_part c.args.session.now c.args.book.now.clients events) (below (length c.args.book.now.clients))) c.from_residual.ensures.1
      (of_text (ap (λ n. row (codes "CLIENTS") (numeral n ∷ [])) told.count) c.in_err-write_count.ensures.wrote);
}

pub returns : goal.returns
unfolding clients_text
returns g c = record {
  wrote = λ events told.
      Gathered-then c.write_all_clients.result (of_text (ap (λ n. row (codes "CLIENTS") (numeral n ∷ [])) told.count) c.in_ok-write_count.ensures.wrote) (c.write_all_clients.ensures.wrote events told);
}
