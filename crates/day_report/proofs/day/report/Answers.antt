use Rattle.std.proofs.Common.{ℕ, List, ◌≡◌, pos, take, ap, subst, ◌∙◌, IfOk}
use Rattle.std.proofs.lemmas.Result.{IfOk-weaker}
use Rattle.fx_rules.specs.State.{State}
use Rattle.fx_rules.specs.History.{state}
use Rattle.day_report.specs.declared.rows.Report.{Report}
use Rattle.day_report.specs.Report.{volumes_of, uses_of, nets_of, balance, IsReportOf}
use Rattle.day_report.specs.Sums.{AreSumsOf}
use Rattle.day_report.proofs.Balance.{nets-balance}
use Rattle.fx_rules.proofs.Trading.{legal-trades}
use Rattle.day_report.proofs.Trading.{legal-to, state-to}
use Rattle.day_report.proofs.Following.{whole-sums}
use Rattle.day_report.proofs.day.report.Goals as goal

pub follow-requires : goal.follow-requires
follow-requires c = record {
  next = (
    take c.loop-entry.entry-index c.args.entries.now,
    legal-to c.args.session.now c.args.entries.now c.loop-entry.entry-index c.entry-item.result c.requires.legal c.loop-entry-test.true c.entry-item.is,
    c.loop-entry.invariant,
  );
}

pub loop-entry-preserved : goal.loop-entry-preserved
loop-entry-preserved c =
    subst (λ (S : State). AreSumsOf c.args.session.now S c.follow.new.self)
    (state-to c.args.session.now c.args.entries.now c.loop-entry.entry-index c.entry-item.result c.loop-entry-test.true c.entry-item.is)
    (c.follow.ensures.follows (take c.loop-entry.entry-index c.args.entries.now)
    (legal-to c.args.session.now c.args.entries.now c.loop-entry.entry-index c.entry-item.result c.requires.legal c.loop-entry-test.true c.entry-item.is) c.loop-entry.invariant)

pub into_report-requires : goal.into_report-requires
into_report-requires c = record {
  sums = (
    c.args.entries.now,
    c.requires.legal,
    whole-sums c.args.session.now c.args.entries.now c.loop-entry.entry-index c.loop-entry.sums c.loop-entry-test.false c.loop-entry.invariant,
  );
}

pub returns : goal.returns
returns c =
    let h = c.args.session.now in
    let S : State = state h c.args.entries.now in
    let sums = whole-sums h c.args.entries.now c.loop-entry.entry-index c.loop-entry.sums c.loop-entry-test.false c.loop-entry.invariant in
    let reports : IfOk c.into_report.result (IsReportOf h S) =
    IfOk-weaker c.into_report.result (λ (r : Report). (T : State) → AreSumsOf h T c.loop-entry.sums → IsReportOf h T r) (IsReportOf h S) (λ r all. all S sums) c.into_report.ensures.reports in
    record {
      volumes = IfOk-weaker c.into_report.result (IsReportOf h S) (λ (r : Report). r.volumes ≡ volumes_of h S) (λ r is. is.volumes_are) reports;
      uses = IfOk-weaker c.into_report.result (IsReportOf h S) (λ (r : Report). r.uses ≡ uses_of h S) (λ r is. is.uses_are) reports;
      nets = IfOk-weaker c.into_report.result (IsReportOf h S) (λ (r : Report). r.nets ≡ nets_of h S) (λ r is. is.nets_are) reports;
      balance = IfOk-weaker c.into_report.result (IsReportOf h S) (λ (r : Report). (currency : List ℕ) → balance currency r.nets ≡ pos 0)
          (λ r is currency. ap (balance currency) is.nets_are ∙ nets-balance h S currency (legal-trades h c.args.entries.now c.requires.legal)) reports;
    }
