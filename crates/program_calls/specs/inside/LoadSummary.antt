-- What private functions and proofs alone say of it, beside `specs/Summary.antt`.
use Rattle.std.specs.Prelude.{◌≡◌, List, length, map}
use Rattle.fx_rules.specs.declared.command.Sent.{Sent}
use Rattle.fx_rules.specs.declared.outcome.Entry.{Entry}
use Rattle.fx_rules.specs.Session.{Header}
use Rattle.fx_rules.specs.History.{IsLegal, state}
use Rattle.fx_rules.specs.Sending.{sent_by}
use Rattle.made_session.specs.Totals.{fills_told, lots_told}
use Rattle.program_calls.specs.declared.loading.serial.SerialTotals.{SerialTotals}

-- what a history comes to
abbrev pub told_of : Header → List Entry → SerialTotals
told_of h history = record {
  commands = length history;
  fills = fills_told history;
  lots = lots_told history;
  resting = length (state h history).orders;
}

-- so it came out of a legal history of these commands, in their order
pub record ComesTo (h : Header) (sent : List Sent) (serial : SerialTotals) : Type 0 where
  pub history : List Entry
  pub legal : IsLegal h history
  pub in_order : map sent_by history ≡ sent
  pub tells : serial ≡ told_of h history
