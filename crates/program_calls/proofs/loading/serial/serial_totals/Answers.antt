-- The totals are those of the run's history, and as many orders rest in its state.
use Rattle.std.proofs.Common.{List, length, ap, ◌∙◌}
use Rattle.fx_rules.specs.declared.outcome.Entry.{Entry}
use Rattle.made_session.specs.Totals.{fills_told, lots_told}
use Rattle.program_calls.proofs.LoadComing.{comes-to}
use Rattle.program_calls.proofs.loading.serial.serial_totals.Goals as goal

pub returns : goal.returns
returns c = record {
  comes_to = comes-to c.args.session.now c.args.sent.now c.in_ok-history.history.items c.in_ok-history.market (length c.as_slice-entries.result.now) c.add_up-totals.result.fills c.add_up-totals.result.lots c.resting.result
      c.in_ok-history.ensures.legal c.in_ok-history.ensures.market c.in_ok-history.ensures.in_order
      (ap (λ (es : List Entry). length es) c.as_slice-entries.ensures.value)
      (c.add_up-totals.ensures.fills ∙ ap fills_told c.as_slice-entries.ensures.value)
      (c.add_up-totals.ensures.lots ∙ ap lots_told c.as_slice-entries.ensures.value)
      c.resting.ensures.resting;
}
