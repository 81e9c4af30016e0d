-- The run begins without an entry, and its history has one of every command.
use Rattle.std.proofs.Common.{◌≡◌, List, [], map, ◌∙◌, sym, subst, ap}
use Rattle.fx_rules.specs.declared.outcome.Entry.{Entry}
use Rattle.fx_rules.specs.History.{IsLegal, state}
use Rattle.fx_rules.specs.Sending.{sent_by}
use Rattle.market_run.specs.Kept.{Kept}
use Rattle.market_run.proofs.Serving.{of-parts}
use Rattle.market_run.proofs.history.run_in_order.Goals as goal

pub returns : goal.returns
returns g c =
    let went = c.in_ok-serve_all.ensures.served [] c.open-run.ensures.opens in
    let parts = of-parts g.M.Market.stands (λ _ (entries : List Entry) (history : Kept). history.entries ≡ entries) c.args.session.now _ _ _ went.more c.into_parts-market.ensures.market c.into_parts-market.ensures.observer went.has_served in
    let kept : went.more ≡ c.into_entries.result.items = sym (c.into_entries.ensures.entries ∙ parts.1) in
    record {
      legal = subst (λ (es : List Entry). IsLegal c.args.session.now es) kept parts.0;
      in_order = ap (λ (es : List Entry). map sent_by es) (sym kept) ∙ went.sent_is;
      market = subst (λ (es : List Entry). g.M.Market.stands c.into_parts-market.result.0 c.args.session.now (state c.args.session.now es)) kept parts.2;
    }
