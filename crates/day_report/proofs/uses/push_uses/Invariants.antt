use Rattle.std.proofs.Common.{◌≡◌, ◌++◌, map, nat_lt}
use Rattle.std.specs.List.{filter}
use Rattle.fx_rules.specs.Lists.{below}
use Rattle.day_report.specs.inside.Lists.{use_in}
use Rattle.day_report.proofs.uses.push_uses.Given as goal

-- the credit with the banks behind `a` that were passed
abbrev pub invariant-loop-place : goal.invariant-loop-place
invariant-loop-place l = l.uses.items ≡ l.fn.uses.items ++ map (use_in l.lines l.a) (filter (nat_lt l.a) (below l.place))
