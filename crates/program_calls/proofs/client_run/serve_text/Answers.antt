-- What was written is the output of the history that the run made, and what its clients have and were told.
use Rattle.std.proofs.Common.{refl}
use Rattle.program_calls.specs.Clients.{IsClientsTextOf}
use Rattle.program_calls.proofs.ClientTexts.{clients_ran, clients_stand}
use Rattle.program_calls.proofs.Served.{ran-memory}
use Rattle.program_calls.proofs.client_run.serve_text.Goals as goal

pub returns-in-Err : goal.returns-in-Err
returns-in-Err g c = record {
  ran = λ before h has.
      ran-memory IsClientsTextOf g.S.Source.left g.S.Source.faults g.K.Sink.written g.K.Sink.faults before c.serve_clients.new.source c.args.out.now c.args.out.now
      (c.in-Err.ensures.served before h has) refl;
}

pub write_clients-written-requires : goal.write_clients-written-requires
write_clients-written-requires g c =
    let begun = c.requires.begun in
    let served = c.in-Ok.ensures.served begun.0 begun.1 begun.2 in
    record { day = (served.heard, clients_stand served c.script-script.result.now.session c.script-script.ensures.session) }

pub returns : goal.returns
returns g c = record {
  ran = λ before h has.
      clients_ran g.S.Source.left g.S.Source.faults g.K.Sink.written g.K.Sink.faults before c.serve_clients.new.source c.serve_clients.new.reading h c.in-Ok.served.0 c.in-Ok.served.1 (c.in-Ok.ensures.served before h has)
      c.write_clients-written.result c.args.out.now c.write_clients-written.new.out c.script-script.result.now.session c.ending_of.result c.written_status.result
      c.script-script.ensures.session c.ending_of.ensures c.write_clients-written.ensures.wrote c.written_status.ensures;
}
