use Rattle.std.proofs.Common.{◌≡◌, List, length, ap, sym, ◌∙◌}
use Rattle.fx_rules.specs.declared.outcome.Entry.{Entry}
use Rattle.fx_rules.specs.Session.{Header}
use Rattle.fx_rules.specs.History.{state}
use Rattle.fx_rules.proofs.Continuing.{histories_agree}
use Rattle.made_session.specs.Session.{made_header}
use Rattle.made_session.specs.Totals.{fills_told, lots_told}
use Rattle.program_calls.specs.LoadSummary.{load_text}
use Rattle.program_calls.proofs.loading.laws.summaries_agree.Goals as goal

-- the commands determine their legal history, and this what is told of it
pub returns : goal.returns
returns c = record {
  agree = λ seed banks pairs commands one other a b.
      let h : Header = made_header seed banks pairs in
      let same : a.history ≡ b.history = histories_agree h a.history b.history a.legal b.legal (a.in_order ∙ sym b.in_order) in
      a.tells
      ∙ ap (λ (history : List Entry). load_text seed banks pairs commands (fills_told history) (lots_told history) (length (state h history).orders)) same
      ∙ sym b.tells;
}
