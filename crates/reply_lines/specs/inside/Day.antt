-- What is found of a history before its last parts are printed, and what a history has that can be printed.
use Rattle.std.specs.Prelude.{ℕ, ◌≡◌, List, ◌++◌}
use Rattle.fx_rules.specs.declared.outcome.Entry.{Entry}
use Rattle.fx_rules.specs.Session.{Header}
use Rattle.fx_rules.specs.State.{State}
use Rattle.fx_rules.specs.History.{IsLegal, state}
use Rattle.day_report.specs.Report.{volumes_of, uses_of, nets_of}
use Rattle.day_report.specs.declared.rows.Report.{Report}
use Rattle.reply_lines.specs.Books.{LocalBook, books_text}
use Rattle.reply_lines.specs.Report.{report_text}
use Rattle.reply_lines.specs.Desks.{AreDesksOf}
use Rattle.reply_lines.specs.Day.{AreLinesOf, AreNoticesOf}
use Rattle.reply_lines.specs.inside.Report.{IsReportOf}
use Rattle.reply_lines.specs.declared.day.DayParts.{DayParts}
use Rattle.reply_lines.specs.declared.day_notices.Findings.{Findings}

-- the report is that of the state at the end of a history
pub record IsReportAt (h : Header) (entries : List Entry) (report : Report) : Type 0 where
  pub names : IsReportOf h report
  pub volumes : report.volumes ≡ volumes_of h (state h entries)
  pub uses : report.uses ≡ uses_of h (state h entries)
  pub nets : report.nets ≡ nets_of h (state h entries)

-- and each sender's desk has its notices
pub record AreFindingsOf (h : Header) (entries : List Entry) (found : Findings) : Type 0 where
  pub report : IsReportAt h entries found.report
  pub desks : AreDesksOf h entries found.desks.items

-- the entries are a legal history, of which these are the parts, and the market stands for the state after it
pub record IsDayOf {M : Type 0} (stands : M → Header → State → Type 0) (h : Header) (entries : List Entry) (day : DayParts) (market : M) : Type 0 where
  pub legal : IsLegal h entries
  pub journal : AreLinesOf h entries day.journal
  pub notices : AreNoticesOf h entries day.notices
  pub at_the_end : stands market h (state h entries)

-- what stands behind the desks, up to the last lines
abbrev pub closing_text : Header → List Entry → (ℕ → ℕ → LocalBook) → List ℕ
closing_text h entries books = books_text h books ++ report_text h (state h entries)
