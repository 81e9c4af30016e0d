-- What a run in order comes to.
use Rattle.std.proofs.Common.{ℕ, ◌≡◌, List, length, map, ap, ◌∙◌}
use Rattle.fx_rules.specs.declared.command.Sent.{Sent}
use Rattle.fx_rules.specs.declared.outcome.Entry.{Entry}
use Rattle.fx_rules.specs.Session.{Header}
use Rattle.fx_rules.specs.State.{State}
use Rattle.fx_rules.specs.History.{IsLegal, state}
use Rattle.fx_rules.specs.Sending.{sent_by}
use Rattle.fx_rules.specs.Sound.{IsSound}
use Rattle.fx_rules.proofs.Soundness.{legal-sound}
use Rattle.made_session.specs.Totals.{fills_told, lots_told}
use Rattle.pair_host.specs.Standing.{HostState, StandsFor, stands}
use Rattle.program_calls.specs.declared.loading.serial.SerialTotals.{SerialTotals}
use Rattle.program_calls.specs.inside.LoadSummary.{ComesTo}

pub comes-to : (h : Header) (sent : List Sent) (history : List Entry) (host : HostState) (commands fills lots resting : ℕ) → IsLegal h history → stands host h (state h history) → map sent_by history ≡ sent
    → commands ≡ length history → fills ≡ fills_told history → lots ≡ lots_told history
    → ((g : Header) (S : State) → IsSound g S → StandsFor g S host → resting ≡ length S.orders)
    → ComesTo h sent (record { commands = commands; fills = fills; lots = lots; resting = resting })
comes-to h sent history host commands fills lots resting legal stood in_order commands_are fills_are lots_are rest = record {
  history = history;
  legal = legal;
  in_order = in_order;
  tells = ap (λ n. let its : SerialTotals = record { commands = n; fills = fills; lots = lots; resting = resting } in its) commands_are
      ∙ ap (λ n. let its : SerialTotals = record { commands = length history; fills = n; lots = lots; resting = resting } in its) fills_are
      ∙ ap (λ n. let its : SerialTotals = record { commands = length history; fills = fills_told history; lots = n; resting = resting } in its) lots_are
      ∙ ap (λ n. let its : SerialTotals = record { commands = length history; fills = fills_told history; lots = lots_told history; resting = n } in its)
      (rest h (state h history) (legal-sound h history legal) stood);
}
