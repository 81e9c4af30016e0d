-- What was written is the output of the history that the threads made, and what was seen of it.
use Rattle.std.proofs.Common.{refl}
use Rattle.program_calls.specs.Watch.{IsWatchedOf}
use Rattle.program_calls.proofs.Served.{ran-memory}
use Rattle.program_calls.proofs.Watched.{watched_ran, watched_stands}
use Rattle.program_calls.proofs.watching.watch_text.Goals as goal

pub returns-in-Err : goal.returns-in-Err
returns-in-Err g c = record {
  ran = λ before h has.
      ran-memory IsWatchedOf g.S.Source.left g.S.Source.faults g.K.Sink.written g.K.Sink.faults before c.watch_session.new.source c.args.out.now c.args.out.now
      (c.in-Err.ensures.watched before h has) refl;
}

pub write_watched-written-requires : goal.write_watched-written-requires
write_watched-written-requires g c =
    let begun = c.requires.begun in
    let its = watched_stands g.S.Source.left g.S.Source.faults g.K.Sink.written g.K.Sink.faults begun.0 c.watch_session.new.source c.watch_session.new.reading begun.1 c.in-Ok.watched (c.in-Ok.ensures.watched begun.0 begun.1 begun.2) c.script-script.result.now.session c.script-script.ensures.session in
    record { legal = its.0; market = its.1 }

pub returns : goal.returns
returns g c = record {
  ran = λ before h has.
      watched_ran g.S.Source.left g.S.Source.faults g.K.Sink.written g.K.Sink.faults before c.watch_session.new.source c.watch_session.new.reading h c.in-Ok.watched (c.in-Ok.ensures.watched before h has)
      c.write_watched-written.result c.args.out.now c.write_watched-written.new.out c.script-script.result.now.session c.script-script.result.now.strays c.ending_of.result c.written_status.result
      c.script-script.ensures.session c.script-script.ensures.strays c.ending_of.ensures c.write_watched-written.ensures.wrote c.written_status.ensures;
}
