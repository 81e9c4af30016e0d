use Rattle.std.proofs.Common.{◌≡◌, ◌+◌, ◌^◌, None, length}
use Rattle.std.specs.Option.{IfSome}
use Rattle.global_book.specs.Behind.{IsCursor, owned_behind}
use Rattle.pair_host.proofs.counting.count_side.Given as goal

-- the bank's orders of the side are those counted and those behind the last one
abbrev pub invariant-loop-order : goal.invariant-loop-order
invariant-loop-order g l = record {
  counted : l.count + length (owned_behind l.side l.bank (2 ^ 64) l.past l.book.orders) ≡ length (owned_behind l.side l.bank (2 ^ 64) None l.book.orders);
  cursor : IfSome l.past (IsCursor l.book.orders l.bank l.side);
}

abbrev pub decreases-loop-order : goal.decreases-loop-order
decreases-loop-order g l = length (owned_behind l.side l.bank (2 ^ 64) l.past l.book.orders)
