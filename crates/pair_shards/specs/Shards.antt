-- A pair as it lies behind its lock: its book, and what it has seen of the history.
use Rattle.std.specs.Prelude.{ℕ, ◌≡◌, ◌<◌, ◌++◌, List, [], ◌∷◌}
use Rattle.fx_rules.specs.declared.orders.Fill.{Fill}
use Rattle.fx_rules.specs.declared.outcome.Entry.{Entry}
use Rattle.fx_rules.specs.Session.{Header, bank_count, pair_count}
use Rattle.fx_rules.specs.State.{orders_in}
use Rattle.fx_rules.specs.Keyed.{pair_key}
use Rattle.fx_rules.specs.History.{IsLegal, state}
use Rattle.fx_chronicle.specs.Faces.{Witness}
use Rattle.global_book.specs.Book.{Book}
use Rattle.credit_raise.specs.UnderWay.{Makes}

-- the pair's book, and the front of its key
pub record PairState : Type 0 where
  pub book : Book
  pub front : Witness Entry

-- What holds of every shard: the book was made for a pair of the session and for as many banks as the session has; it is the
-- pair's book in the state after the entries that the front has seen, which are a legal history; and the front has met all of
-- them.
pub record IsShard (h : Header) (shard : PairState) : Type 0 where
  pub pair : shard.book.pair < pair_count h
  pub banks : shard.book.banks ≡ bank_count h
  pub key : shard.front.key ≡ pair_key shard.book.pair
  pub legal : IsLegal h shard.front.seen
  pub orders : shard.book.orders ≡ orders_in shard.book.pair (state h shard.front.seen).orders
  pub met : shard.front.met ≡ shard.front.seen

-- Fills that the last entry of a history makes in a pair: made there, they leave the pair as the market is behind the entry.
pub record AreOfLast (h : Header) (entries : List Entry) (pair : ℕ) (fills : List Fill) : Type 0 where
  pub before : List Entry
  pub last : Entry
  pub ends : entries ≡ before ++ last ∷ []
  pub makes : Makes (state h before) (state h entries) pair fills
