-- Each round serves what it heard.
use Rattle.std.proofs.Common.{[], rules, ◌≡◌, ◌++◌, None, Some, Result, sym}
use Rattle.fx_amounts.specs.declared.memory.Memory.{Memory}
use Rattle.session_script.specs.Stage.{heard_at, sent_at}
use Rattle.session_script.specs.declared.ends.TextEnd.{TextEnd}
use Rattle.session_script.proofs.RoundLaws.{less_to_read, promptly, taken_within}
use Rattle.client_day.specs.inside.Rounds.{ServedRounds}
use Rattle.client_day.proofs.Serving.{for_memory, next-day, next-valid, round-served}
use Rattle.client_day.proofs.rounds.serve_rounds.Goals as goal

pub take_all-requires : goal.take_all-requires
take_all-requires g c =
    let its = c.requires.serving in
    let so_far = c.loop-reading.invariant.serving its.0 its.1 its.2 in
    record {
      next = next-day c.script-script.result.now.session c.script-script.result.now.heard so_far c.script-script.ensures.session (sym c.script-script.ensures.heard);
      valid = next-valid c.script-script.result.now.session c.script-script.result.now.heard so_far c.script-script.ensures.session (sym c.script-script.ensures.heard);
    }

pub returns-in_err-take_all : goal.returns-in_err-take_all
returns-in_err-take_all g c = record {
  served = λ before h serving.
      for_memory c.from_residual.result _ (λ (r : Result TextEnd Memory). ServedRounds g.S.Source.left g.S.Source.faults before c.loop-reading.source c.loop-reading.reading h c.take_all.new.self r) c.from_residual.ensures.1
      (λ memory. promptly (c.loop-reading.invariant.serving before h serving).has_heard.has_read);
}

pub returns-in-Some : goal.returns-in-Some
returns-in-Some g c =
    let ended : c.loop-reading.reading.end ≡ Some c.in-Some.end = search rules in
    record {
      served = λ before h serving.
          let so_far = c.loop-reading.invariant.serving before h serving in
          record {
            ended = ended;
            sent = so_far.sent ++ sent_at c.loop-reading.reading.intake.stage;
            heard = so_far.heard ++ heard_at c.loop-reading.reading.intake.stage;
            has_heard = so_far.has_heard;
            served = round-served c.script-script.result.now.session c.script-script.result.now.heard c.take_all.new.self so_far c.script-script.ensures.session (sym c.script-script.ensures.heard) c.in_ok-take_all.ensures.taken;
          };
    }

pub loop-reading-preserved : goal.loop-reading-preserved
loop-reading-preserved g c = record {
  serving = λ before h serving.
      let so_far = c.loop-reading.invariant.serving before h serving in
      record {
        sent = so_far.sent ++ sent_at c.loop-reading.reading.intake.stage;
        heard = so_far.heard ++ heard_at c.loop-reading.reading.intake.stage;
        has_heard = c.in_ok-read_round.ensures.heard [] before h (so_far.sent ++ sent_at c.loop-reading.reading.intake.stage) (so_far.heard ++ heard_at c.loop-reading.reading.intake.stage) so_far.has_heard;
        served = round-served c.script-script.result.now.session c.script-script.result.now.heard c.take_all.new.self so_far c.script-script.ensures.session (sym c.script-script.ensures.heard) c.in_ok-take_all.ensures.taken;
      };
}

pub loop-reading-smaller : goal.loop-reading-smaller
loop-reading-smaller g c =
    let goes_on : c.loop-reading.reading.end ≡ None = search rules in
    let its = c.requires.serving in
    let so_far = c.loop-reading.invariant.serving its.0 its.1 its.2 in
    let has = c.in_ok-read_round.ensures.read [] its.0 its.1 (so_far.sent ++ sent_at c.loop-reading.reading.intake.stage) so_far.has_heard.has_read in
    less_to_read c.loop-reading.reading.end c.read_round.new.self.end c.loop-reading.reading.intake.taken c.read_round.new.self.intake.taken goes_on c.in_ok-read_round.ensures.further (taken_within has)

pub returns-in_err-read_round : goal.returns-in_err-read_round
returns-in_err-read_round g c = record {
  served = λ before h serving.
      let so_far = c.loop-reading.invariant.serving before h serving in
      for_memory c.from_residual-in_err-read_round.result _ (λ (r : Result TextEnd Memory). ServedRounds g.S.Source.left g.S.Source.faults before c.read_round.new.source c.read_round.new.self h c.take_all.new.self r) c.from_residual-in_err-read_round.ensures.1
      (λ memory. (c.in_err-read_round.ensures.memory [] before h (so_far.sent ++ sent_at c.loop-reading.reading.intake.stage) so_far.has_heard.has_read).0);
}
