use Rattle.std.proofs.Common.{◌≡◌, ◌++◌, map}
use Rattle.fx_rules.specs.Lists.{below}
use Rattle.day_report.specs.inside.Lists.{net_in}
use Rattle.day_report.proofs.flows.Flows.push_nets.Given as goal

-- the bank's nets of the currencies that were passed
abbrev pub invariant-loop-column : goal.invariant-loop-column
invariant-loop-column l = l.nets.items ≡ l.fn.nets.items ++ map (net_in l.self l.bank) (below l.column)
