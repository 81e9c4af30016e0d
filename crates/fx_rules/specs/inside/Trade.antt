-- What each fill of a legal history is.
use Rattle.std.specs.Prelude.{◌≢◌, ◌≤◌, ◌<◌, ◌^◌}
use Rattle.fx_rules.specs.declared.orders.Fill.{Fill}
use Rattle.fx_rules.specs.Session.{Header, bank_count, pair_count}

-- a fill of one of the session's pairs between two different banks of it, for a lot at least, at a price in range
pub record IsTrade (h : Header) (fill : Fill) : Type 0 where
  pub pair : fill.pair < pair_count h
  pub taker : fill.taker < bank_count h
  pub maker : fill.maker < bank_count h
  pub differ : fill.taker ≢ fill.maker
  pub least : 1 ≤ fill.lots
  pub price : fill.price ≤ 10 ^ 9
