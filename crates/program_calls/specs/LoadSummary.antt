-- The summary of a load.
use Rattle.std.specs.Prelude.{ℕ, ◌≡◌, List, [], ◌∷◌, length, map}
use Rattle.fx_rules.specs.declared.outcome.Entry.{Entry}
use Rattle.fx_rules.specs.History.{IsLegal, state}
use Rattle.fx_rules.specs.Sending.{sent_by}
use Rattle.journal_check.specs.Verdict.{yes}
use Rattle.made_session.specs.Session.{made_header}
use Rattle.made_session.specs.Commands.{made_commands}
use Rattle.made_session.specs.Totals.{fills_told, lots_told}
use Rattle.program_calls.specs.LoadLines.{three_lines}

-- The text of a load whose commands make so many fills of so many lots, and leave so many orders. On threads it has as many
-- entries as commands, and the check says yes.
abbrev pub load_text : ℕ → ℕ → ℕ → ℕ → ℕ → ℕ → ℕ → List ℕ
load_text seed banks pairs commands fills lots resting =
    three_lines (seed ∷ banks ∷ pairs ∷ commands ∷ []) (commands ∷ fills ∷ lots ∷ resting ∷ []) commands yes

-- The text tells of a legal history of the session that is made from these numbers, whose commands are the made ones in their
-- order: its fills, the lots of them all, and how many orders rest at its end.
pub record IsSummary (seed banks pairs commands : ℕ) (text : List ℕ) : Type 0 where
  pub history : List Entry
  pub legal : IsLegal (made_header seed banks pairs) history
  pub in_order : map sent_by history ≡ made_commands seed banks pairs commands
  pub tells :
      text ≡ load_text seed banks pairs commands (fills_told history) (lots_told history) (length (state (made_header seed banks pairs) history).orders)

-- Two summaries of a load from the same numbers are the same.
abbrev pub SummariesAgree : Type 0
SummariesAgree =
    (seed banks pairs commands : ℕ) (one other : List ℕ) →
    IsSummary seed banks pairs commands one → IsSummary seed banks pairs commands other → one ≡ other
