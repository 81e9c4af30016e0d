-- What a reader shows of a session that it watches.
use Rattle.std.specs.Prelude.{ℕ, ◌≡◌, ◌+◌, ◌%◌, ◌≤◌, List, [], ◌∷◌, ◌++◌, length, map, take}
use Rattle.std.specs.List.{flat_map}
use Rattle.fx_amounts.specs.Numeral.{numeral}
use Rattle.fx_rules.specs.declared.command.Sent.{Sent}
use Rattle.fx_rules.specs.declared.outcome.Entry.{Entry}
use Rattle.fx_rules.specs.Depth.{IsDepth}
use Rattle.fx_rules.specs.History.{state}
use Rattle.fx_rules.specs.Lists.{below, Each, EachPair}
use Rattle.fx_rules.specs.Session.{Header, bank_count, pair_count, bank_name}
use Rattle.reply_lines.specs.Books.{LocalBook}
use Rattle.reply_lines.specs.Notices.{book_fields}
use Rattle.reply_lines.specs.Rows.{row}

-- where the reader is to look: at a bank's local book of a pair, behind so many entries of the history at least
pub record Due : Type 0 where
  pub bank : ℕ
  pub pair : ℕ
  pub known : ℕ

-- a look: it was due, and behind so many entries it found this local book
pub record Look : Type 0 where
  pub due : Due
  pub count : ℕ
  pub book : LocalBook

-- It is one at a history: of that it found the first so many entries, with all that was known, and the bank's local book of the pair in
-- the state after them.
pub record IsLookAt (h : Header) (history : List Entry) (look : Look) : Type 0 where
  pub known : look.due.known ≤ look.count
  pub within : look.count ≤ length history
  pub book : IsDepth h (state h (take look.count history)) look.due.bank look.due.pair look.book.bids look.book.asks

-- the line of a look
abbrev pub look_line : Header → Look → List ℕ
look_line h look = row (numeral look.count) (bank_name h look.due.bank ∷ book_fields h look.due.pair look.book.bids look.book.asks)

-- The lines show the looks that were due, in their order, each at the history. The number of entries never falls from one to the next.
pub record Shows (h : Header) (dues : List Due) (history : List Entry) (lines : List ℕ) : Type 0 where
  pub looks : List Look
  pub in_order : map (λ look. look.due) looks ≡ dues
  pub each : Each (IsLookAt h history) looks
  pub never_back : EachPair (λ one later. one.count ≤ later.count) looks
  pub exactly : lines ≡ flat_map (look_line h) looks

-- Where the reader is to look

-- at one bank's local book of a pair
abbrev pub due_at : ℕ → ℕ → ℕ → Due
due_at known pair bank = record { bank = bank; pair = pair; known = known }

-- in one pair at each bank's, in header order
abbrev pub pair_due : Header → ℕ → ℕ → List Due
pair_due h known pair = map (due_at known pair) (below (bank_count h))

-- After each of these rounds, in one pair, whose turn it is: the first of them has this number, and so many entries stood before it.
abbrev pub rounds_due : Header → ℕ → ℕ → List (List Sent) → List Due
rounds_due h number before [] = []
rounds_due h number before (round ∷ more) = pair_due h before (number % pair_count h) ++ rounds_due h (number + 1) (before + length round) more

-- at one bank's in every pair
abbrev pub bank_due : Header → ℕ → ℕ → List Due
bank_due h known bank = map (λ pair. due_at known pair bank) (below (pair_count h))

-- in every pair at each bank's, in the order in which the output has local books
abbrev pub all_due : Header → ℕ → List Due
all_due h known = flat_map (bank_due h known) (below (bank_count h))
