-- The reading stopped before START, or its session was run.
use Rattle.std.proofs.Common.{rules, ◌≡◌}
use Rattle.program_calls.specs.Headline.{IsSerial}
use Rattle.program_calls.specs.Status.{status_of}
use Rattle.program_calls.specs.TopCall.{IsOutputOf}
use Rattle.program_calls.proofs.Served.{ran-stopped}
use Rattle.program_calls.proofs.serial_run.serial.Goals as goal

pub returns-in-Ok : goal.returns-in-Ok
returns-in-Ok g c = record { ran = c.serve_text.ensures.ran c.args.source.now c.in-Ok.ensures.journal.0 c.in-Ok.ensures.journal.1 }

pub returns-in-Err : goal.returns-in-Err
returns-in-Err g c =
    let is : c.from.result ≡ status_of c.in-Err.stop = search rules in
    record { ran = ran-stopped (IsOutputOf IsSerial) g.S.Source.left g.S.Source.faults g.K.Sink.written g.K.Sink.faults c.args.source.now c.begin_with_journal.new.source c.args.out.now c.in-Err.stop c.from.result c.in-Err.ensures.begun is }
