-- The credit opens as that of the session's opening state.
use Rattle.std.proofs.Common.{sym, subst}
use Rattle.credit_lines.specs.Credit.{Credit}
use Rattle.credit_lines.specs.Market.{StandsFor}
use Rattle.credit_lines.proofs.MarketLemmas.{StandsFor-opened}
use Rattle.fx_rules.specs.State.{opening}
use Rattle.day_report.proofs.day_sums.DaySums.open.Goals as goal

pub returns : goal.returns
returns c = record {
  sums = record {
    credit_is = c.in_ok-open.ensures.valid;
    lines_are = subst (λ (credit : Credit). StandsFor c.args.session.now (opening c.args.session.now) credit) (sym c.in_ok-open.ensures.value) (StandsFor-opened c.args.session.now);
    volumes_are = c.in_ok-no_volumes.ensures.value;
    flows_are = c.in_ok-open-2.ensures.value;
  };
}
