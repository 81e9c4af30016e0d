-- The report is that of the state after the history.
use Rattle.fx_rules.specs.History.{state}
use Rattle.reply_lines.proofs.Reporting.{report-at}
use Rattle.reply_lines.proofs.day_notices.DayNotices.into_findings.Goals as goal

pub into_report-requires : goal.into_report-requires
into_report-requires c = record { sums = (c.requires.told.0, c.requires.told.1, c.requires.told.2.sums) }

pub returns : goal.returns
returns c = record {
  found = λ entries are.
      let reports = c.in_ok-into_report.ensures.reports (state c.args.session.now entries) are.sums in
      record {
        report = report-at c.args.session.now entries c.in_ok-into_report.field-0 reports.volumes_are reports.uses_are reports.nets_are;
        desks = are.desks;
      };
}
