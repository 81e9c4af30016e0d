-- The pairs at the close of a host.
use Rattle.std.specs.Prelude.{◌≡◌, List, length}
use Rattle.fx_rules.specs.declared.outcome.Entry.{Entry}
use Rattle.fx_rules.specs.Lists.{Each}
use Rattle.fx_rules.specs.Session.{Header, pair_count}
use Rattle.fx_rules.specs.State.{orders_in}
use Rattle.fx_rules.specs.History.{state}
use Rattle.pair_shards.specs.Shards.{PairState}

-- A shard's front has seen just this history, so that its book is its pair's in the state after it.
pub record HasSeenAll (h : Header) (entries : List Entry) (shard : PairState) : Type 0 where
  pub seen : shard.front.seen ≡ entries
  pub orders : shard.book.orders ≡ orders_in shard.book.pair (state h entries).orders

-- as many shards as there are pairs, each of which has seen all
pub record AreShardsOf (h : Header) (entries : List Entry) (shards : List PairState) : Type 0 where
  pub count : length shards ≡ pair_count h
  pub each : Each (HasSeenAll h entries) shards
