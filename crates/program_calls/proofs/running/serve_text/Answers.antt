-- What was written is the output of the history that the threads made.
use Rattle.std.proofs.Common.{refl}
use Rattle.session_script.specs.Stage.{session_at}
use Rattle.program_calls.specs.Headline.{IsHeadline}
use Rattle.program_calls.specs.TopCall.{IsOutputOf}
use Rattle.session_script.proofs.RoundLaws.{header_or_none, promptly, read_here}
use Rattle.program_calls.proofs.Served.{history_stands, ran-memory, threads_ran}
use Rattle.program_calls.proofs.running.serve_text.Goals as goal

pub returns-in-Err : goal.returns-in-Err
returns-in-Err g c = record {
  ran = λ before h has. ran-memory (IsOutputOf IsHeadline) g.S.Source.left g.S.Source.faults g.K.Sink.written g.K.Sink.faults before c.args.source.now c.args.out.now c.args.out.now (promptly has) refl;
}

pub returns-in-Err-served : goal.returns-in-Err-served
returns-in-Err-served g c = record {
  ran = λ before h has.
      ran-memory (IsOutputOf IsHeadline) g.S.Source.left g.S.Source.faults g.K.Sink.written g.K.Sink.faults before c.serve_at-served.new.source c.args.out.now c.args.out.now
      (c.in-Err-served.ensures.served before (read_here has)) refl;
}

pub write_output_from-written-requires : goal.write_output_from-written-requires
write_output_from-written-requires g c =
    let begun = c.requires.begun in
    let end = history_stands {h = header_or_none (session_at c.args.reading.now.intake.stage)} c.script-script.result.now.session c.deref.result.now (c.in-Ok-served.ensures.served begun.0 (read_here begun.2)) c.script-script.ensures.session c.deref.ensures.value in
    record { legal = end.0; market = end.1 }

pub returns : goal.returns
returns g c = record {
  ran = λ before h has.
      threads_ran g.S.Source.left g.S.Source.faults g.K.Sink.written g.K.Sink.faults c.write_output_from-written.result before c.serve_at-served.new.source c.args.out.now c.write_output_from-written.new.out
      c.serve_at-served.new.reading (header_or_none (session_at c.args.reading.now.intake.stage)) c.script-script.result.now.session c.in-Ok-served.served.0 c.in-Ok-served.served.1.items c.deref.result.now c.in-Ok-served.served.2 c.script-script.result.now.strays c.ending_of.result c.written_status.result
      (c.in-Ok-served.ensures.served before (read_here has)) c.script-script.ensures.session c.deref.ensures.value c.script-script.ensures.strays c.ending_of.ensures c.write_output_from-written.ensures.wrote c.written_status.ensures;
}
