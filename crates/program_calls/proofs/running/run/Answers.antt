-- One worker serves in the order of the lines; else the reading stopped before START, or its session was run.
use Rattle.std.proofs.Common.{rules, ◌≡◌}
use Rattle.program_calls.specs.Headline.{IsHeadline}
use Rattle.program_calls.specs.Status.{status_of}
use Rattle.program_calls.specs.TopCall.{IsOutputOf}
use Rattle.program_calls.proofs.HeadlineLaws.{ran_of_serial}
use Rattle.program_calls.proofs.Served.{ran-stopped}
use Rattle.program_calls.proofs.running.run.Goals as goal

pub returns-then-workers-eq1 : goal.returns-then-workers-eq1
returns-then-workers-eq1 g c = record {
  ran = ran_of_serial g.S.Source.left g.S.Source.faults g.K.Sink.written g.K.Sink.faults c.args.source.now c.serial.new.source c.args.out.now c.serial.new.out c.serial.result c.serial.ensures.ran;
}

pub returns-in-Ok : goal.returns-in-Ok
returns-in-Ok g c = record { ran = c.serve_text.ensures.ran c.args.source.now c.in-Ok.ensures.begun.0 c.in-Ok.ensures.begun.1 }

pub returns-in-Err : goal.returns-in-Err
returns-in-Err g c =
    let is : c.from.result ≡ status_of c.in-Err.stop = search rules in
    record { ran = ran-stopped (IsOutputOf IsHeadline) g.S.Source.left g.S.Source.faults g.K.Sink.written g.K.Sink.faults c.args.source.now c.begin.new.source c.args.out.now c.in-Err.stop c.from.result c.in-Err.ensures.begun is }
