use Rattle.std.proofs.Common.{◌≡◌, ◌*◌, ◌^◌, ◌≤◌, length}
use Rattle.fx_rules.specs.State.{State}
use Rattle.pair_host.specs.inside.Books.{HaveOrders}
use Rattle.pair_host.proofs.PairSums.{of_pairs_below}
use Rattle.pair_host.proofs.every_pair.all_resting.Given as goal

-- the orders of the pairs so far are counted
abbrev pub invariant-loop-book : goal.invariant-loop-book
invariant-loop-book l = record {
  counted : (S : State) → HaveOrders S l.books → l.count ≡ length (of_pairs_below l.book-index S.orders);
  most : l.count ≤ l.book-index * 2 ^ 38;
}
