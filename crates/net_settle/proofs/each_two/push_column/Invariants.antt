use Rattle.std.proofs.Common.{◌≡◌, ◌++◌}
use Rattle.std.specs.List.{flat_map}
use Rattle.fx_rules.specs.Lists.{below}
use Rattle.net_settle.specs.inside.Dues.{behind_in}
use Rattle.net_settle.proofs.each_two.push_column.Given as goal

-- what the banks that were passed and those behind them pay each other
abbrev pub invariant-loop-a : goal.invariant-loop-a
invariant-loop-a l = l.payments.items ≡ l.fn.payments.items ++ flat_map (behind_in l.dues l.column) (below l.a)
