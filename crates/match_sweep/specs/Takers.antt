-- A bank's order as it comes, and as it is swept in a pair.
use Rattle.std.specs.Prelude.{ℕ}
use Rattle.fx_rules.specs.declared.taker.SweptOrder.{SweptOrder}
use Rattle.match_sweep.specs.declared.taker.Taker.{Taker}

-- a bank's order as it is swept in a pair, before its first fill
abbrev pub swept_in : ℕ → Taker → SweptOrder
swept_in pair taker = record {
  bank = taker.bank;
  number = taker.number;
  pair = pair;
  side = taker.side;
  price = taker.price;
  left = taker.lots;
  arrival = taker.arrival;
}
