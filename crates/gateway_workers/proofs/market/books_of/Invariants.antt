use Rattle.std.proofs.Common.{◌≡◌, ◌+◌, length}
use Rattle.gateway_workers.proofs.TakingOut.{AreTaken}
use Rattle.gateway_workers.proofs.market.books_of.Given as goal

-- the books of the shards so far
abbrev pub invariant-loop-shard : goal.invariant-loop-shard
invariant-loop-shard g l = record {
  can : (goal.iterator-loop-shard g).can_next l.shard-iterator;
  ends : (goal.iterator-loop-shard g).is_finite l.shard-iterator;
  count : length l.books.items + length l.shard-iterator.rest.items ≡ length l.initial.shard-iterator.rest.items;
  taken : AreTaken g.N.Naming.session l.initial.shard-iterator.rest.items l.shard-iterator.rest.items l.books.items;
}
