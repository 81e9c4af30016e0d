use Rattle.std.proofs.Common.{◌≡◌, take}
use Rattle.credit_raise.proofs.sweep.book_of.Given as goal

-- the orders that were passed rest
abbrev pub invariant-loop-order : goal.invariant-loop-order
invariant-loop-order l = record {
  orders : l.book.orders ≡ take l.order-index l.orders;
  pair : l.book.pair ≡ l.fn.pair;
  banks : l.book.banks ≡ l.fn.banks;
}
