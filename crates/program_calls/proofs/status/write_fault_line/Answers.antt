-- Where there is no memory for the line, nothing of it was written.
use Rattle.std.proofs.Common.{ℕ, [], sym, arith, length-append, Option, List, Result, Ok, Err, OnErr}
use Rattle.fx_edges.specs.Writing.{CutShort}
use Rattle.fx_edges.proofs.Writing.{IsPrefixOf-nil, append_known-nil}
use Rattle.session_head.specs.declared.reason.HeadReason.{HeadReason}
use Rattle.program_calls.specs.Status.{fault_text}
use Rattle.program_calls.proofs.status.write_fault_line.Goals as goal

none_written : {E : Type 0} (written : E → Option (List ℕ)) (faults : E → ℕ) (before : E) (line : ℕ) (reason : HeadReason) → CutShort written faults before before (fault_text line reason)
unfolding fault_text
none_written written faults before line reason = record {
  got = record { part = []; prefix = IsPrefixOf-nil _; holds = sym (append_known-nil (written before)); count = omega arith };
  short = omega (arith, length-append {A = ℕ});
}

on_err_always : {T E P : Type 0} (r : Result T E) → P → OnErr r P
on_err_always (Ok value) p = tt
on_err_always (Err e) p = p

pub returns-in_err-text-clause-cut : goal.returns-in_err-text-clause-cut
returns-in_err-text-clause-cut g c = on_err_always c.from_residual.result (none_written g.E.Sink.written g.E.Sink.faults c.args.err.now c.args.line c.args.reason)
