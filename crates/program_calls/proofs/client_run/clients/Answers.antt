-- The reading stopped before START, or its session was run.
use Rattle.std.proofs.Common.{rules, ◌≡◌}
use Rattle.program_calls.specs.Clients.{IsClientsTextOf}
use Rattle.program_calls.specs.Status.{status_of}
use Rattle.program_calls.proofs.Served.{ran-stopped}
use Rattle.program_calls.proofs.client_run.clients.Goals as goal

pub returns-in-Ok : goal.returns-in-Ok
returns-in-Ok g c = record { ran = c.serve_text.ensures.ran c.args.source.now c.in-Ok.ensures.heard.0 c.in-Ok.ensures.heard.1 }

pub returns-in-Err : goal.returns-in-Err
returns-in-Err g c =
    let is : c.from.result ≡ status_of c.in-Err.stop = search rules in
    record { ran = ran-stopped IsClientsTextOf g.S.Source.left g.S.Source.faults g.K.Sink.written g.K.Sink.faults c.args.source.now c.begin_keeping.new.source c.args.out.now c.in-Err.stop c.from.result c.in-Err.ensures.begun is }
