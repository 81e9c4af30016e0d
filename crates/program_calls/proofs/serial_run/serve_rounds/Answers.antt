-- Each round serves what it read, and counts it.
use Rattle.std.proofs.Common.{[], rules, ◌≡◌, ◌+◌, map, Some, None, Result, sym, ◌∙◌, arith, length, ap}
use Rattle.fx_amounts.specs.declared.memory.Memory.{Memory}
use Rattle.fx_rules.specs.Sending.{sent_by}
use Rattle.session_script.specs.declared.ends.TextEnd.{TextEnd}
use Rattle.program_calls.specs.inside.Rounds.{ServedText}
use Rattle.session_script.proofs.RoundLaws.{less_to_read, promptly, taken_within}
use Rattle.program_calls.proofs.Served.{may_serve, for_memory, round_served, serving_few}
use Rattle.program_calls.proofs.serial_run.serve_rounds.Goals as goal

pub serve_ahead-requires : goal.serve_ahead-requires
serve_ahead-requires g c =
    let its = c.requires.serving in
    let so_far = c.loop-count.invariant.serving its.0 its.1 its.2 in
    record { may_serve = may_serve c.script-script.result.now.session c.loop-count.run c.deref.result.now so_far c.script-script.ensures.session (c.deref.ensures.value ∙ sym c.script-script.ensures.sent) }

pub returns-in_err-serve_ahead : goal.returns-in_err-serve_ahead
returns-in_err-serve_ahead g c = record {
  served = λ before h serving.
      for_memory c.from_residual.result _ (λ (r : Result TextEnd Memory). ServedText g.S.Source.left g.S.Source.faults before c.loop-count.source c.loop-count.reading h c.serve_ahead.new.self c.loop-count.count r) c.from_residual.ensures.1
      (λ memory. promptly (c.loop-count.invariant.serving before h serving).has_journal.has_read);
}

pub overflow_add-count : goal.overflow_add-count
overflow_add-count g c =
    let its = c.requires.serving in
    let so_far = c.loop-count.invariant.serving its.0 its.1 its.2 in
    omega (arith, serving_few c.deref.result.now so_far (c.deref.ensures.value ∙ sym c.script-script.ensures.sent), so_far.counted, c.len.ensures, ap length c.deref.ensures.value)

pub returns-in-Some : goal.returns-in-Some
returns-in-Some g c =
    let ended : c.loop-count.reading.end ≡ Some c.in-Some.end = search rules in
    record {
      served = λ before h serving. record {
        ended = ended;
        all = round_served c.script-script.result.now.session c.loop-count.run c.serve_ahead.new.self c.deref.result.now c.len.result (c.loop-count.invariant.serving before h serving)
            c.script-script.ensures.session (c.deref.ensures.value ∙ sym c.script-script.ensures.sent) c.in_ok-serve_ahead.ensures.served (omega (arith, c.len.ensures, ap length c.deref.ensures.value));
      };
    }

pub loop-count-preserved : goal.loop-count-preserved
loop-count-preserved g c = record {
  serving = λ before h serving.
      let round = round_served c.script-script.result.now.session c.loop-count.run c.serve_ahead.new.self c.deref.result.now c.len.result (c.loop-count.invariant.serving before h serving)
      c.script-script.ensures.session (c.deref.ensures.value ∙ sym c.script-script.ensures.sent) c.in_ok-serve_ahead.ensures.served (omega (arith, c.len.ensures, ap length c.deref.ensures.value)) in
      record {
        entries = round.entries;
        has_journal = c.in_ok-read_round.ensures.journal [] before h (map sent_by round.entries) round.has_journal;
        has_served = round.has_served;
        counted = round.counted;
      };
}

pub loop-count-smaller : goal.loop-count-smaller
loop-count-smaller g c =
    let goes_on : c.loop-count.reading.end ≡ None = search rules in
    let its = c.requires.serving in
    let so_far = c.loop-count.invariant.serving its.0 its.1 its.2 in
    let round = round_served c.script-script.result.now.session c.loop-count.run c.serve_ahead.new.self c.deref.result.now c.len.result so_far
    c.script-script.ensures.session (c.deref.ensures.value ∙ sym c.script-script.ensures.sent) c.in_ok-serve_ahead.ensures.served (omega (arith, c.len.ensures, ap length c.deref.ensures.value)) in
    let has = c.in_ok-read_round.ensures.read [] its.0 its.1 (map sent_by round.entries) round.has_journal.has_read in
    less_to_read c.loop-count.reading.end c.read_round.new.self.end c.loop-count.reading.intake.taken c.read_round.new.self.intake.taken goes_on c.in_ok-read_round.ensures.further (taken_within has)

pub returns-in_err-read_round : goal.returns-in_err-read_round
returns-in_err-read_round g c = record {
  served = λ before h serving.
      let round = round_served c.script-script.result.now.session c.loop-count.run c.serve_ahead.new.self c.deref.result.now c.len.result (c.loop-count.invariant.serving before h serving)
      c.script-script.ensures.session (c.deref.ensures.value ∙ sym c.script-script.ensures.sent) c.in_ok-serve_ahead.ensures.served (omega (arith, c.len.ensures, ap length c.deref.ensures.value)) in
      for_memory c.from_residual-in_err-read_round.result _ (λ (r : Result TextEnd Memory). ServedText g.S.Source.left g.S.Source.faults before c.read_round.new.source c.read_round.new.self h c.serve_ahead.new.self (c.loop-count.count + c.len.result) r) c.from_residual-in_err-read_round.ensures.1
      (λ memory. (c.in_err-read_round.ensures.memory [] before h (map sent_by round.entries) round.has_journal.has_read).0);
}
