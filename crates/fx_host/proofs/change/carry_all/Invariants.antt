use Rattle.std.proofs.Common.{◌≡◌}
use Rattle.pair_shards.specs.inside.Shards.{PairsPend}
use Rattle.fx_host.proofs.change.carry_all.Given as goal

-- the pairs so far have signed, and the others still have to
abbrev pub invariant-loop-place : goal.invariant-loop-place
invariant-loop-place g l = record {
  entries : l.credit.history.entries ≡ l.fn.credit.history.entries;
  pend : PairsPend g.N.Naming.session l.place l.credit.history.pending;
}
