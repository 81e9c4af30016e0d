use Rattle.std.proofs.Common.{◌≡◌, List, ◌++◌, take}
use Rattle.fx_rules.specs.declared.orders.Fill.{Fill}
use Rattle.day_report.specs.inside.Parts.{HasFills}
use Rattle.day_report.proofs.day_sums.DaySums.add_all.Given as goal

-- whatever the fills before were, those so far were added to them
abbrev pub invariant-loop-fill : goal.invariant-loop-fill
invariant-loop-fill l = record {
  lines : l.self.lines ≡ l.initial.self.lines;
  adds : (before : List Fill) → HasFills l.session before l.initial.self → HasFills l.session (before ++ take l.fill-index l.fills) l.self;
}
