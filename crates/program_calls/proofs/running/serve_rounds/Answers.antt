-- Each round serves what it read.
use Rattle.std.proofs.Common.{[], rules, ◌≡◌, ◌++◌, Some, None, Result, sym, ◌∙◌}
use Rattle.fx_amounts.specs.declared.memory.Memory.{Memory}
use Rattle.session_script.specs.declared.ends.TextEnd.{TextEnd}
use Rattle.session_script.specs.Stage.{sent_at}
use Rattle.program_calls.specs.inside.Rounds.{LanesServedText}
use Rattle.session_script.proofs.RoundLaws.{less_to_read, promptly, taken_within}
use Rattle.program_calls.proofs.Served.{can_serve_lanes, for_memory, lanes_served}
use Rattle.program_calls.proofs.running.serve_rounds.Goals as goal

pub serve_round-requires-clause-can_serve : goal.serve_round-requires-clause-can_serve
serve_round-requires-clause-can_serve g c κs within =
    let its = c.requires.serving in
    let so_far = c.loop-reading.invariant.serving its.before its.sent its.has_read its.served in
    can_serve_lanes g.N.Naming.session so_far.0 c.deref.result.now c.loop-reading.run.lanes.items so_far.1 so_far.2 (c.deref.ensures.value ∙ sym c.script.ensures.sent)

pub returns-in_err-serve_round : goal.returns-in_err-serve_round
returns-in_err-serve_round g c = record {
  served = λ before all has are.
      for_memory c.from_residual.result _ (λ (r : Result TextEnd Memory). LanesServedText g.S.Source.left g.S.Source.faults before c.loop-reading.source c.loop-reading.reading g.N.Naming.session c.serve_round.new.self.lanes.items r) c.from_residual.ensures.1
      (λ memory. promptly (c.loop-reading.invariant.serving before all has are).1);
}

pub returns-in-Some : goal.returns-in-Some
returns-in-Some g c =
    let ended : c.loop-reading.reading.end ≡ Some c.in-Some.end = search rules in
    record {
      served = λ before all has are.
          let so_far = c.loop-reading.invariant.serving before all has are in
          record {
            ended = ended;
            sent = so_far.0 ++ sent_at c.loop-reading.reading.intake.stage;
            has_read = so_far.1;
            served = lanes_served g.N.Naming.session so_far.0 c.deref.result.now (sent_at c.loop-reading.reading.intake.stage) c.serve_round.new.self.lanes.items (c.deref.ensures.value ∙ sym c.script.ensures.sent) (c.in_ok-serve_round.ensures.served so_far.0 so_far.2);
          };
    }

pub loop-reading-preserved : goal.loop-reading-preserved
loop-reading-preserved g c = record {
  serving = λ before all has are.
      let so_far = c.loop-reading.invariant.serving before all has are in (
        so_far.0 ++ sent_at c.loop-reading.reading.intake.stage,
        c.in_ok-read_round.ensures.read [] before g.N.Naming.session (so_far.0 ++ sent_at c.loop-reading.reading.intake.stage) so_far.1,
        lanes_served g.N.Naming.session so_far.0 c.deref.result.now (sent_at c.loop-reading.reading.intake.stage) c.serve_round.new.self.lanes.items (c.deref.ensures.value ∙ sym c.script.ensures.sent) (c.in_ok-serve_round.ensures.served so_far.0 so_far.2),
      );
}

pub loop-reading-smaller : goal.loop-reading-smaller
loop-reading-smaller g c =
    let goes_on : c.loop-reading.reading.end ≡ None = search rules in
    let its = c.requires.serving in
    let so_far = c.loop-reading.invariant.serving its.before its.sent its.has_read its.served in
    let has = c.in_ok-read_round.ensures.read [] its.before g.N.Naming.session (so_far.0 ++ sent_at c.loop-reading.reading.intake.stage) so_far.1 in
    less_to_read c.loop-reading.reading.end c.read_round.new.self.end c.loop-reading.reading.intake.taken c.read_round.new.self.intake.taken goes_on c.in_ok-read_round.ensures.further (taken_within has)

pub returns-in_err-read_round : goal.returns-in_err-read_round
returns-in_err-read_round g c = record {
  served = λ before all has are.
      let so_far = c.loop-reading.invariant.serving before all has are in
      for_memory c.from_residual-in_err-read_round.result _ (λ (r : Result TextEnd Memory). LanesServedText g.S.Source.left g.S.Source.faults before c.read_round.new.source c.read_round.new.self g.N.Naming.session c.serve_round.new.self.lanes.items r) c.from_residual-in_err-read_round.ensures.1
      (λ memory. (c.in_err-read_round.ensures.memory [] before g.N.Naming.session (so_far.0 ++ sent_at c.loop-reading.reading.intake.stage) so_far.1).0);
}
