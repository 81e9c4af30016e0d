use Rattle.std.proofs.Common.{◌≡◌, ◌++◌, nat_lt}
use Rattle.std.specs.List.{filter, flat_map}
use Rattle.fx_rules.specs.Lists.{below}
use Rattle.net_settle.specs.inside.Dues.{two_in}
use Rattle.net_settle.proofs.each_two.push_behind.Given as goal

-- what `a` and those behind it that were passed pay each other
abbrev pub invariant-loop-b : goal.invariant-loop-b
invariant-loop-b l = l.payments.items ≡ l.fn.payments.items ++ flat_map (two_in l.dues l.column l.a) (filter (nat_lt l.a) (below l.b))
