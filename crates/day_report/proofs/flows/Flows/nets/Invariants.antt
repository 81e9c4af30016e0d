use Rattle.std.proofs.Common.{◌≡◌}
use Rattle.std.specs.List.{flat_map}
use Rattle.fx_rules.specs.Lists.{below}
use Rattle.day_report.specs.inside.Lists.{nets_at}
use Rattle.day_report.proofs.flows.Flows.nets.Given as goal

-- the nets of the banks that were passed
abbrev pub invariant-loop-place : goal.invariant-loop-place
invariant-loop-place l = l.nets.items ≡ flat_map (nets_at l.self) (below l.place)
