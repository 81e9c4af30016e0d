use Rattle.std.proofs.Common.{◌≡◌}
use Rattle.std.specs.List.{flat_map}
use Rattle.fx_rules.specs.Lists.{below}
use Rattle.net_settle.specs.inside.Dues.{column_in}
use Rattle.net_settle.proofs.each_two.bilateral.Given as goal

-- the payments of the currencies that were passed
abbrev pub invariant-loop-column : goal.invariant-loop-column
invariant-loop-column l = l.payments.items ≡ flat_map (column_in l.dues) (below l.column)
