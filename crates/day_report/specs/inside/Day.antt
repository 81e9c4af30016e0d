-- What the sums of a day need to have fills added to them.
use Rattle.std.specs.Prelude.{List, ◌++◌}
use Rattle.fx_rules.specs.declared.orders.Fill.{Fill}
use Rattle.fx_rules.specs.Session.{Header}
use Rattle.day_report.specs.declared.day_sums.DaySums.{DaySums}
use Rattle.day_report.specs.inside.Trades.{AreTrades}
use Rattle.day_report.specs.inside.Parts.{HasFills}

-- fills can be added to the sums: they fit with those before
abbrev pub CanAddAll : Header → DaySums → List Fill → Type 0
CanAddAll h sums more = (before : List Fill) × HasFills h before sums × AreTrades h (before ++ more)
