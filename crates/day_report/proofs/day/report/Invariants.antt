use Rattle.std.proofs.Common.{take}
use Rattle.fx_rules.specs.History.{state}
use Rattle.day_report.specs.Sums.{AreSumsOf}
use Rattle.day_report.proofs.day.report.Given as goal

-- the sums are those of the entries that were passed
abbrev pub invariant-loop-entry : goal.invariant-loop-entry
invariant-loop-entry l = AreSumsOf l.session (state l.session (take l.entry-index l.entries)) l.sums
