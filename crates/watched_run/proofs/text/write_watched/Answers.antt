-- The output, and behind it what was seen.
use Rattle.std.proofs.Common.{refl}
use Rattle.watched_run.proofs.Written.{wrote_short, wrote_both, wrote_cut}
use Rattle.watched_run.proofs.text.write_watched.Goals as goal

pub returns-in_err-write_output_from : goal.returns-in_err-write_output_from
returns-in_err-write_output_from g c = record {
  wrote = λ sent watched.
      let its = c.args.watched.now in
      wrote_short c.args.session.now sent its.history.items c.deref.result.now c.args.strays c.args.ending its.rounds its.lines.items its.lines.items c.deref.ensures.value refl watched g.K.Sink.written g.K.Sink.faults c.args.out.now c.write_output_from.new.out c.write_output_from.new.out
      c.from_residual.result c.in_err-write_output_from.field-0.0 c.from_residual.ensures.1 c.in_err-write_output_from.ensures.wrote;
}

pub returns-in-Ok : goal.returns-in-Ok
returns-in-Ok g c = record {
  wrote = λ sent watched.
      let its = c.args.watched.now in
      wrote_both c.args.session.now sent its.history.items c.deref.result.now c.args.strays c.args.ending its.rounds its.lines.items c.deref-2.result.now c.deref.ensures.value c.deref-2.ensures.value watched g.K.Sink.written g.K.Sink.faults c.args.out.now c.write_output_from.new.out c.write_looks.new.out
      c.in_ok-write_output_from.ensures.wrote c.in-Ok.ensures.wrote;
}

pub returns-in-Err : goal.returns-in-Err
returns-in-Err g c = record {
  wrote = λ sent watched.
      let its = c.args.watched.now in
      wrote_cut c.args.session.now sent its.history.items c.deref.result.now c.args.strays c.args.ending its.rounds its.lines.items c.deref-2.result.now c.deref.ensures.value c.deref-2.ensures.value watched g.K.Sink.written g.K.Sink.faults c.args.out.now c.write_output_from.new.out c.write_looks.new.out
      c.in-Err.fault c.from.result c.from.ensures c.in_ok-write_output_from.ensures.wrote c.in-Err.ensures.wrote;
}
