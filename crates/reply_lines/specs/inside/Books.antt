-- What private functions and proofs alone say of it, beside `specs/Books.antt`.
use Rattle.std.specs.Prelude.{ℕ, List, flat_map}
use Rattle.fx_rules.specs.declared.outcome.Entry.{Entry}
use Rattle.fx_rules.specs.History.{IsLegal, state}
use Rattle.fx_rules.specs.Lists.{below}
use Rattle.fx_rules.specs.Session.{Header, pair_count}
use Rattle.fx_rules.specs.State.{State}
use Rattle.reply_lines.specs.Books.{LocalBook, AreBooks, book_line}

-- a bank's local books of all pairs
abbrev pub book_lines : Header → (ℕ → ℕ → LocalBook) → ℕ → List ℕ
book_lines h books bank = flat_map (book_line h books bank) (below (pair_count h))

-- a legal history of the session led to a state that a market stands for
pub record IsMarketOf {M : Type 0} (stands : M → Header → State → Type 0) (h : Header) (market : M) : Type 0 where
  pub entries : List Entry
  pub legal : IsLegal h entries
  pub at_the_end : stands market h (state h entries)

-- `books` has the local books of such a state
pub record AreBooksOf {M : Type 0} (stands : M → Header → State → Type 0) (h : Header) (market : M) (books : ℕ → ℕ → LocalBook) : Type 0 where
  pub entries : List Entry
  pub legal : IsLegal h entries
  pub at_the_end : stands market h (state h entries)
  pub are_books : AreBooks h (state h entries) books
