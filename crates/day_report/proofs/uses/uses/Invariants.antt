use Rattle.std.proofs.Common.{◌≡◌}
use Rattle.std.specs.List.{flat_map}
use Rattle.fx_rules.specs.Lists.{below}
use Rattle.day_report.specs.inside.Lists.{uses_behind}
use Rattle.day_report.proofs.uses.uses.Given as goal

-- the credit of the banks that were passed with those behind them
abbrev pub invariant-loop-place : goal.invariant-loop-place
invariant-loop-place l = l.uses.items ≡ flat_map (uses_behind l.lines) (below l.place)
