-- What private functions and proofs alone say of it, beside `specs/Telling.antt`.
use Rattle.std.specs.Prelude.{ℕ, ◌≡◌, ◌<◌, ◌+◌, ◌^◌, List, [], ◌∷◌, ◌++◌, length, slice_index_or, slice_set}
use Rattle.fx_rules.specs.declared.orders.Fill.{Fill}
use Rattle.fx_rules.specs.Lists.{Each}
use Rattle.fx_rules.specs.Session.{Header}
use Rattle.reply_lines.specs.Telling.{Addressed, count_to, told_line}
use Rattle.reply_lines.specs.declared.notices.FillPart.{FillPart}
use Rattle.reply_lines.specs.declared.notices.FillPart.TheVariants.{Taker, Maker}

-- the bank with this part in a fill
abbrev pub bank_of : FillPart → Fill → ℕ
bank_of Taker fill = fill.taker
bank_of Maker fill = fill.maker

-- the number of a sender's next notice
abbrev pub next_of : List ℕ → ℕ → ℕ
next_of counts sender = slice_index_or counts sender 0 + 1

-- the counts with one notice more of a sender
abbrev pub with_one : List ℕ → ℕ → List ℕ
with_one counts sender = slice_set counts sender (next_of counts sender)

-- the counts behind further notices
abbrev pub counts_behind : List ℕ → List Addressed → List ℕ
counts_behind counts [] = counts
counts_behind counts (a ∷ more) = counts_behind (with_one counts a.sender) more

-- the lines of further notices, numbered on from the counts
abbrev pub lines_behind : Header → List ℕ → List Addressed → List ℕ
lines_behind h counts [] = []
lines_behind h counts (a ∷ more) =
    told_line h (record { sender = a.sender; number = next_of counts a.sender; notice = a.notice }) ++ lines_behind h (with_one counts a.sender) more

-- each further notice is to a sender that has a count, and no count gets too large by them
pub record CanCount (more : List Addressed) (counts : List ℕ) : Type 0 where
  pub senders : Each (λ a. a.sender < length counts) more
  pub few : (sender : ℕ) → sender < length counts → slice_index_or counts sender 0 + count_to sender more < 2 ^ 128

-- further notices are counted, and their lines stand behind a text
pub record HasTold (h : Header) (more : List Addressed) (counts counts' text text' : List ℕ) : Type 0 where
  pub counted : counts' ≡ counts_behind counts more
  pub lines : text' ≡ text ++ lines_behind h counts more
