use Rattle.std.proofs.Common.{◌≡◌}
use Rattle.fx_rules.specs.Lists.{total, below}
use Rattle.net_settle.specs.inside.Dues.{due_in}
use Rattle.net_settle.proofs.dues.Dues.flow.Given as goal

-- both sums, over the banks that were passed
abbrev pub invariant-loop-other : goal.invariant-loop-other
invariant-loop-other l = record {
  got_so_far : l.got ≡ total (λ other. due_in l.self l.bank other l.column) (below l.other);
  gave_so_far : l.gave ≡ total (λ other. due_in l.self other l.bank l.column) (below l.other);
}
