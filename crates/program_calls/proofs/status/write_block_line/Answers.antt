-- Where there is no memory for the line, nothing of it was written.
use Rattle.std.proofs.Common.{ℕ, [], sym, arith, length-append, Option, List}
use Rattle.fx_edges.specs.Writing.{CutShort}
use Rattle.fx_edges.proofs.Writing.{IsPrefixOf-nil, append_known-nil}
use Rattle.keep_disk.proofs.Telling.{on_err_always}
use Rattle.program_calls.specs.Status.{block_text}
use Rattle.program_calls.proofs.status.write_block_line.Goals as goal

none_written : {E : Type 0} (written : E → Option (List ℕ)) (faults : E → ℕ) (before : E) (block : ℕ) → CutShort written faults before before (block_text block)
unfolding block_text
none_written written faults before block = record {
  got = record { part = []; prefix = IsPrefixOf-nil _; holds = sym (append_known-nil (written before)); count = omega arith };
  short = omega (arith, length-append {A = ℕ});
}

pub returns-in_err-text-clause-cut : goal.returns-in_err-text-clause-cut
returns-in_err-text-clause-cut g c = on_err_always c.from_residual.result (none_written g.E.Sink.written g.E.Sink.faults c.args.err.now c.args.block)
