-- What was written is the output of the history that the run made.
use Rattle.std.proofs.Common.{refl, sym, subst, ◌∙◌}
use Rattle.fx_rules.specs.Session.{Header}
use Rattle.market_run.specs.Running.{HasServed}
use Rattle.market_run.proofs.Serving.{of-parts}
use Rattle.reply_lines.specs.Day.{AreNoticesOf}
use Rattle.pair_host.specs.Standing.{stands}
use Rattle.program_calls.specs.Headline.{IsSerial}
use Rattle.program_calls.specs.TopCall.{IsOutputOf}
use Rattle.session_script.proofs.RoundLaws.{promptly, same_session}
use Rattle.program_calls.proofs.Served.{journal_served, ran-memory, serving_open, serial_ran}
use Rattle.program_calls.proofs.serial_run.serve_text.Goals as goal

pub returns-in-Err : goal.returns-in-Err
returns-in-Err g c = record {
  ran = λ before h has. ran-memory (IsOutputOf IsSerial) g.S.Source.left g.S.Source.faults g.K.Sink.written g.K.Sink.faults before c.args.source.now c.args.out.now c.args.out.now (promptly has.has_read) refl;
}

pub serve_rounds-requires : goal.serve_rounds-requires
serve_rounds-requires g c =
    let begun = c.requires.begun in
    record { serving = (begun.0, begun.1, serving_open c.script.result.now.session c.in-Ok.run' begun.2 c.script.ensures.session c.in-Ok.ensures.opens) }

pub returns-in-Err-serve_rounds : goal.returns-in-Err-serve_rounds
returns-in-Err-serve_rounds g c = record {
  ran = λ before h has.
      ran-memory (IsOutputOf IsSerial) g.S.Source.left g.S.Source.faults g.K.Sink.written g.K.Sink.faults before c.serve_rounds.new.source c.args.out.now c.args.out.now
      (c.in-Err-serve_rounds.ensures.served before h (serving_open c.script.result.now.session c.in-Ok.run' has c.script.ensures.session c.in-Ok.ensures.opens)) refl;
}

pub write-written-requires : goal.write-written-requires
write-written-requires g c =
    let script = c.into_script-session in
    let begun = c.requires.begun in
    let all = (c.in-Ok-serve_rounds.ensures.served begun.0 begun.1 (serving_open c.script.result.now.session c.in-Ok.run' begun.2 c.script.ensures.session c.in-Ok.ensures.opens)).all in
    let has = subst (λ (h : Header). HasServed stands AreNoticesOf h all.entries c.serve_rounds.new.run) (sym (same_session script.result.session all.has_journal.has_read script.ensures.session)) all.has_served in
    let parts = of-parts stands AreNoticesOf script.result.session c.serve_rounds.new.run _ _ all.entries c.into_parts-host.ensures.market c.into_parts-host.ensures.observer has in
    let journal = journal_served script.result.session c.of.result all script.ensures.session c.of.ensures.count (c.of.ensures.lines ∙ sym script.ensures.journal) in
    record { told = (all.entries, parts.0, c.of-day.ensures.told script.result.session all.entries journal parts.1, parts.2) }

pub returns : goal.returns
returns g c = record {
  ran = λ before h has.
      let script = c.into_script-session in
      let served = c.in-Ok-serve_rounds.ensures.served before h (serving_open c.script.result.now.session c.in-Ok.run' has c.script.ensures.session c.in-Ok.ensures.opens) in
      let journal = journal_served script.result.session c.of.result served.all script.ensures.session c.of.ensures.count (c.of.ensures.lines ∙ sym script.ensures.journal) in
      serial_ran g.S.Source.left g.S.Source.faults g.K.Sink.written g.K.Sink.faults c.write-written.result before c.serve_rounds.new.source c.args.out.now c.write-written.new.out
      c.serve_rounds.new.reading h script.result.session c.serve_rounds.new.run c.serve_rounds.new.count c.in-Ok-serve_rounds.end script.result.strays c.ending_of.result c.written_status.result
      served script.ensures.session script.ensures.strays c.ending_of.ensures
      (λ has_served.
      let parts = of-parts stands AreNoticesOf script.result.session c.serve_rounds.new.run _ _ served.all.entries c.into_parts-host.ensures.market c.into_parts-host.ensures.observer has_served in
      c.write-written.ensures.wrote served.all.entries parts.0 (c.of-day.ensures.told script.result.session served.all.entries journal parts.1) parts.2)
      c.written_status.ensures;
}
