-- The day opens with nothing heard, and the rounds serve the rest.
use Rattle.std.proofs.Common.{Result}
use Rattle.fx_amounts.specs.declared.memory.Memory.{Memory}
use Rattle.session_script.specs.declared.ends.TextEnd.{TextEnd}
use Rattle.session_script.proofs.RoundLaws.{promptly}
use Rattle.client_day.specs.Rounds.{ServedText}
use Rattle.client_day.specs.declared.day.ClientDay.{ClientDay}
use Rattle.client_day.proofs.Serving.{for_memory, serving-open}
use Rattle.client_day.proofs.rounds.serve_clients.Goals as goal

pub returns-in_err-day : goal.returns-in_err-day
returns-in_err-day g c = record {
  served = λ before h has.
      for_memory c.from_residual.result _ (λ (r : Result (TextEnd × ClientDay) Memory). ServedText g.S.Source.left g.S.Source.faults before c.args.source.now c.args.reading.now h r) c.from_residual.ensures.1
      (λ memory. promptly has.has_read);
}

pub serve_rounds-requires : goal.serve_rounds-requires
serve_rounds-requires g c =
    let begun = c.requires.begun in
    record { serving = (begun.0, begun.1, serving-open c.script.result.now.session begun.2 c.script.ensures.session c.in_ok-day.ensures.opens) }

pub returns-in_err-end : goal.returns-in_err-end
returns-in_err-end g c = record {
  served = λ before h has.
      for_memory c.from_residual-in_err-end.result _ (λ (r : Result (TextEnd × ClientDay) Memory). ServedText g.S.Source.left g.S.Source.faults before c.serve_rounds.new.source c.serve_rounds.new.reading h r) c.from_residual-in_err-end.ensures.1
      (λ memory. c.in_err-end.ensures.served before h (serving-open c.script.result.now.session has c.script.ensures.session c.in_ok-day.ensures.opens));
}

pub returns : goal.returns
returns g c = record {
  served = λ before h has. c.in_ok-end.ensures.served before h (serving-open c.script.result.now.session has c.script.ensures.session c.in_ok-day.ensures.opens);
}
