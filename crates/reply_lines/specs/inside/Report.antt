-- What private functions and proofs alone say of it, beside `specs/Report.antt`.
use Rattle.std.specs.Prelude.{◌<◌, List}
use Rattle.fx_rules.specs.Lists.{Each}
use Rattle.fx_rules.specs.Session.{Header, bank_count, pair_count}
use Rattle.day_report.specs.declared.rows.Use.{Use}
use Rattle.day_report.specs.declared.rows.Report.{Report}

-- its rows name the session's pairs and banks
abbrev pub AreUsesOf : Header → List Use → Type 0
AreUsesOf h uses = Each (λ credit. (credit.a < bank_count h) × (credit.b < bank_count h)) uses

pub record IsReportOf (h : Header) (report : Report) : Type 0 where
  pub pairs : Each (λ volume. volume.pair < pair_count h) report.volumes
  pub banks : AreUsesOf h report.uses
  pub owners : Each (λ net. net.bank < bank_count h) report.nets
