-- The orders of one pair more are counted, until all are.
use Rattle.std.proofs.Common.{ℕ, ◌≡◌, List, length, ap, sym, ◌∙◌, arith}
use Rattle.fx_rules.specs.declared.orders.ActiveOrder.{ActiveOrder}
use Rattle.fx_rules.specs.declared.orders.Resting.{Resting}
use Rattle.fx_rules.specs.State.{orders_in}
use Rattle.global_book.specs.Book.{Book}
use Rattle.pair_host.proofs.Counted.{none-below, all-below}
use Rattle.pair_host.proofs.PairSums.{of_pairs_below, one-pair-more}
use Rattle.pair_host.proofs.every_pair.all_resting.Goals as goal

pub loop-book-init : goal.loop-book-init
loop-book-init c = record {
  counted = λ S have. sym (ap (λ (orders : List ActiveOrder). length orders) (none-below (λ (a : ActiveOrder). a.pair) S.orders));
  most = omega arith;
}

pub loop-book-preserved : goal.loop-book-preserved
loop-book-preserved c = record {
  counted = λ S have.
      let n : ℕ = c.loop-book.book-index in
      let its : c.resting-count.result ≡ length (orders_in n S.orders) =
      c.resting-count.ensures.value ∙ ap (λ (b : Book). length b.orders) c.book-item.is ∙ ap (λ (os : List Resting). length os) (have n c.book-item.result c.loop-book-test.true) in
      omega (arith, one-pair-more n S.orders, its, c.loop-book.invariant.counted S have);
  most = omega (arith, c.loop-book.invariant.most, c.resting-count.ensures.most);
}

pub returns : goal.returns
returns c = record {
  resting = λ S have each.
      let n : ℕ = c.loop-book.book-index in
      let end : n ≡ length c.args.books.now = omega (arith, c.loop-book-test.false, c.loop-book.auto.book-index-end) in
      c.loop-book.invariant.counted S have ∙ ap (λ k. length (of_pairs_below k S.orders)) end
      ∙ ap (λ (orders : List ActiveOrder). length orders) (all-below (λ (a : ActiveOrder). a.pair) (length c.args.books.now) S.orders each);
}
