-- The history of the lanes is that of the text.
use Rattle.std.proofs.Common.{[], Result}
use Rattle.std.specs.declared.alloc.Global.{Global}
use Rattle.std.specs.declared.vec.Vec.{Vec}
use Rattle.fx_amounts.specs.declared.memory.Memory.{Memory}
use Rattle.fx_rules.specs.declared.outcome.Entry.{Entry}
use Rattle.pair_host.specs.Standing.{HostState}
use Rattle.session_script.specs.declared.ends.TextEnd.{TextEnd}
use Rattle.program_calls.specs.inside.Rounds.{ThreadsServedText}
use Rattle.session_script.proofs.RoundLaws.{promptly, same_session}
use Rattle.program_calls.proofs.Served.{for_memory}
use Rattle.program_calls.proofs.running.serve_at.Goals as goal

pub returns-in_err-end : goal.returns-in_err-end
returns-in_err-end g c = record {
  served = λ before has.
      for_memory c.from_residual-in_err-end.result _ (λ (r : Result (TextEnd × Vec Entry Global × HostState) Memory). ThreadsServedText g.S.Source.left g.S.Source.faults before c.serve_rounds.new.source c.serve_rounds.new.reading g.N.Naming.session r) c.from_residual-in_err-end.ensures.1
      (λ memory. c.in_err-end.ensures.served before [] has c.in_ok-run.ensures.opened);
}

pub close-requires-clause-session : goal.close-requires-clause-session
close-requires-clause-session g c lifetimes outlive =
    let begun = c.requires.begun in
    same_session c.script-2.result.now.session (c.in_ok-end.ensures.served begun.0 [] begun.1 c.in_ok-run.ensures.opened).has_read c.script-2.ensures.session

pub returns-in_err-history : goal.returns-in_err-history
returns-in_err-history g c = record {
  served = λ before has.
      for_memory c.from_residual-in_err-history.result _ (λ (r : Result (TextEnd × Vec Entry Global × HostState) Memory). ThreadsServedText g.S.Source.left g.S.Source.faults before c.serve_rounds.new.source c.serve_rounds.new.reading g.N.Naming.session r) c.from_residual-in_err-history.ensures.1
      (λ memory. promptly (c.in_ok-end.ensures.served before [] has c.in_ok-run.ensures.opened).has_read);
}

pub returns : goal.returns
returns g c = record {
  served = λ before has.
      let all = c.in_ok-end.ensures.served before [] has c.in_ok-run.ensures.opened in
      record {
        ended = all.ended;
        sent = all.sent;
        has_read = all.has_read;
        legal = c.in_ok-history.ensures.legal;
        streams = c.in_ok-history.ensures.streams all.sent all.served;
        at_the_end = c.in_ok-history.ensures.market;
      };
}
