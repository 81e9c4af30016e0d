-- The text of the day report.
use Rattle.std.specs.Prelude.{ℕ, List, [], ◌∷◌, ◌++◌, codes}
use Rattle.std.specs.List.{flat_map}
use Rattle.fx_amounts.specs.Numeral.{numeral}
use Rattle.fx_text.specs.Number.{signed_numeral}
use Rattle.fx_rules.specs.Session.{Header, bank_name, pair_name}
use Rattle.fx_rules.specs.State.{State}
use Rattle.day_report.specs.declared.rows.Volume.{Volume}
use Rattle.day_report.specs.declared.rows.Use.{Use}
use Rattle.day_report.specs.declared.rows.Net.{Net}
use Rattle.day_report.specs.Report.{volumes_of, uses_of, nets_of}
use Rattle.reply_lines.specs.Rows.{row}

-- what was traded in a pair: how many fills, their lots, and their base and quote amounts
abbrev pub volume_line : Header → Volume → List ℕ
volume_line h volume = row (codes "VOLUME")
    (pair_name h volume.pair ∷ numeral volume.fills ∷ numeral volume.lots ∷ numeral volume.base ∷ numeral volume.quote ∷ [])

-- two banks, the limit that each sets on the other, what they have used, and their line
abbrev pub use_line : Header → Use → List ℕ
use_line h credit = row (codes "USE")
    (bank_name h credit.a ∷ bank_name h credit.b ∷ numeral credit.limit_ab ∷ numeral credit.limit_ba ∷ numeral credit.used ∷ numeral credit.eff ∷ [])

-- what a bank got of a currency, less what it gave
abbrev pub net_line : Header → Net → List ℕ
net_line h net = row (codes "NET") (bank_name h net.bank ∷ net.currency ∷ signed_numeral net.amount ∷ [])

-- a report: the volumes of the pairs, the credit between each two banks, and the nets of the banks
unfoldable pub report_of : Header → List Volume → List Use → List Net → List ℕ
report_of h volumes uses nets =
    codes "REPORT\n" ++ (flat_map (volume_line h) volumes ++ (flat_map (use_line h) uses ++ flat_map (net_line h) nets))

-- the report as it stands in a state
abbrev pub report_text : Header → State → List ℕ
report_text h S = report_of h (volumes_of h S) (uses_of h S) (nets_of h S)
