-- The ending follows the strays.
use Rattle.std.proofs.Common.{List, ℕ, subst}
use Rattle.fx_edges.specs.Gathered.{Gathered}
use Rattle.fx_edges.proofs.Gathering.{Gathered-then}
use Rattle.reply_lines.specs.Output.{last_text}
use Rattle.reply_lines.proofs.output.write_last.Goals as goal

pub returns : goal.returns
unfolding last_text
returns g c = record {
  wrote = Gathered-then c.put.result c.in_ok-write_strays.ensures.wrote
      (subst (λ (text : List ℕ). Gathered g.K.Sink.written g.K.Sink.faults c.write_strays.new.pieces c.write_strays.new.out c.put.new.self c.put.new.out text c.put.result) c.line.ensures c.put.ensures.gathered);
}
