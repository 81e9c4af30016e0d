use Rattle.std.proofs.Common.{◌≡◌, ◌≤◌, ◌*◌, ◌^◌}
use Rattle.fx_rules.specs.Lists.{total}
use Rattle.flat_host.specs.FlatState.{use_in, others_of}
use Rattle.flat_host.proofs.credit.spent_of.Given as goal

-- what was used with the banks that were passed
abbrev pub invariant-loop-place : goal.invariant-loop-place
invariant-loop-place l = record {
  spent : l.spent ≡ total (use_in l.uses l.bank) (others_of l.place l.bank);
  most : l.spent ≤ l.place * 10 ^ 15;
}
