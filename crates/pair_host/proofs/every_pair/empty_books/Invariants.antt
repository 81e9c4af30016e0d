use Rattle.std.proofs.Common.{◌≡◌, length}
use Rattle.pair_host.specs.inside.Books.{AreBooks, AreEmpty}
use Rattle.pair_host.proofs.every_pair.empty_books.Given as goal

-- the books of the pairs so far
abbrev pub invariant-loop-place : goal.invariant-loop-place
invariant-loop-place l = record {
  count : length l.books.items ≡ l.place;
  books : AreBooks l.banks l.books.items;
  empty : AreEmpty l.books.items;
}
