use Rattle.std.proofs.Common.{ℕ, flat_map}
use Rattle.fx_edges.specs.Gathered.{Kept}
use Rattle.fx_rules.specs.Lists.{below}
use Rattle.reply_lines.specs.Books.{LocalBook, book_line}
use Rattle.reply_lines.specs.inside.Books.{AreBooksOf}
use Rattle.reply_lines.proofs.books.write_pairs.Given as goal

-- the bank's local books of the pairs so far are written
abbrev pub invariant-loop-place : goal.invariant-loop-place
invariant-loop-place g l =
    (books : ℕ → ℕ → LocalBook) → AreBooksOf g.M.Market.stands l.session l.market books →
    Kept g.K.Sink.written g.K.Sink.faults l.initial.pieces l.initial.out l.pieces l.out (flat_map (book_line l.session books l.bank) (below l.place))
