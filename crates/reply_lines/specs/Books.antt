-- The local books of all banks at the end of a day.
use Rattle.std.specs.Prelude.{ℕ, ◌<◌, List, ◌++◌, flat_map, codes}
use Rattle.fx_rules.specs.declared.orders.Level.{Level}
use Rattle.fx_rules.specs.Depth.{IsDepth}
use Rattle.fx_rules.specs.Lists.{below}
use Rattle.fx_rules.specs.Session.{Header, bank_count, pair_count, bank_name}
use Rattle.fx_rules.specs.State.{State}
use Rattle.reply_lines.specs.Rows.{row}
use Rattle.reply_lines.specs.Notices.{book_fields}

-- what a bank could sell now in a pair, and what it could buy
pub record LocalBook : Type 0 where
  pub bids : List Level
  pub asks : List Level

-- `books` has the local book of each bank in each pair, in this state
abbrev pub AreBooks : Header → State → (ℕ → ℕ → LocalBook) → Type 0
AreBooks h S books = (bank pair : ℕ) → bank < bank_count h → pair < pair_count h → IsDepth h S bank pair (books bank pair).bids (books bank pair).asks

-- the line of a bank's local book of a pair
abbrev pub book_line : Header → (ℕ → ℕ → LocalBook) → ℕ → ℕ → List ℕ
book_line h books bank pair = row (bank_name h bank) (book_fields h pair (books bank pair).bids (books bank pair).asks)

-- the local books of each bank in each pair, in header order
unfoldable pub books_text : Header → (ℕ → ℕ → LocalBook) → List ℕ
books_text h books = codes "BOOKS\n" ++ flat_map (λ bank. flat_map (book_line h books bank) (below (pair_count h))) (below (bank_count h))
