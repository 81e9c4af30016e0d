-- All pairs are the session's, and so all their orders are the state's.
use Rattle.std.proofs.Common.{ℕ, ◌≡◌, ◌<◌, ◌≤◌, List, length, get_or, ap, sym, subst, arith}
use Rattle.fx_rules.specs.declared.orders.ActiveOrder.{ActiveOrder}
use Rattle.fx_rules.specs.Sound.{IsKept}
use Rattle.fx_rules.proofs.ListLemmas.{Each-weaker}
use Rattle.global_book.specs.Book.{Book}
use Rattle.pair_host.specs.inside.Books.{HaveOrders}
use Rattle.pair_host.proofs.Holding.{BooksOf, books-of}
use Rattle.pair_host.specs.Standing.{StandsFor}
use Rattle.pair_host.proofs.host.PairHost.resting.Goals as goal

pub all_resting-requires-clause-few : goal.all_resting-requires-clause-few
all_resting-requires-clause-few c =
    omega (arith, ap (λ (bs : List Book). length bs) c.deref.ensures.value, c.self.invariant.count, c.lines-lines.ensures.session.pairs_most)

pub all_resting-requires-clause-banks : goal.all_resting-requires-clause-banks
all_resting-requires-clause-banks c =
    subst (λ (bs : List Book). (k : ℕ) (d : Book) → k < length bs → (get_or bs k d).banks ≤ 64) (sym c.deref.ensures.value)
    (λ k d within. omega (arith, (c.self.invariant.are k d within).made_for, c.lines-lines.ensures.session.banks_most))

pub returns : goal.returns
returns c = record {
  resting = λ h S sound stood.
      let of : BooksOf h S c.self.inside.books.items c.self.inside.table =
      books-of h S c.self.inside.books.items c.self.inside.table (subst (StandsFor h S) (sym c.self.view_is) stood) in
      let count : length c.deref.result.now ≡ length c.self.inside.books.items = ap (λ (bs : List Book). length bs) c.deref.ensures.value in
      c.all_resting.ensures.resting S (subst (HaveOrders S) (sym c.deref.ensures.value) of.orders)
      (Each-weaker (IsKept h S.counts) (λ (a : ActiveOrder). a.pair < length c.deref.result.now) (λ a kept. omega (arith, kept.pair, of.count, count)) S.orders sound.kept);
}
