use Rattle.std.proofs.Common.{◌≡◌, length}
use Rattle.client_desk.specs.inside.Books.{AreAllEmpty}
use Rattle.client_desk.proofs.book.empty_rows.Given as goal

-- an empty row for each sender so far
abbrev pub invariant-loop-sender : goal.invariant-loop-sender
invariant-loop-sender l = record {
  count : length l.rows.items ≡ l._sender;
  empty : AreAllEmpty l.rows.items;
}
