-- The last piece is handed on, where all was written.
use Rattle.fx_edges.proofs.Gathering.{Wrote-rest_of_all}
use Rattle.watched_run.proofs.text.write_looks.Goals as goal

pub returns : goal.returns
returns g c = record { wrote = Wrote-rest_of_all c.hand_on.result c.new-pieces.ensures c.in_ok-write_lines.ensures.wrote.ok c.hand_on.ensures.wrote }
