use Rattle.std.proofs.Common.{◌≡◌, ◌≤◌, map, vec_len}
use Rattle.std.specs.Vec.{vec_capacity}
use Rattle.fx_rules.specs.Lists.{below}
use Rattle.fx_rules.specs.Session.{opening_total}
use Rattle.credit_lines.proofs.lines.opening_totals.Given as goal

-- the totals of the banks before this one, and room for all
abbrev pub invariant-loop-bank : goal.invariant-loop-bank
invariant-loop-bank l = record {
  totals : l.totals.items ≡ map (opening_total l.session) (below l.bank);
  count : vec_len l.totals ≡ l.bank;
  room : l.banks ≤ vec_capacity l.totals;
}
