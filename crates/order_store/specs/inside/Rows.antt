-- The keys of a bank's orders by number, as the bank's row has them.
use Rattle.std.specs.Prelude.{ℕ, ◌<◌, min, Bool, false, ◌==◌, nat_lt, if◌then◌else◌, List, [], ◌∷◌, Option, Some, None, slice_get, slice_index_or}
use Rattle.std.specs.List.{AllPairs}
use Rattle.fx_rules.specs.declared.orders.Resting.{Resting}
use Rattle.fx_rules.specs.Sweep.{is_order}
use Rattle.order_store.specs.declared.row.Numbered.{Numbered}

-- `room` is how many entries more can come in
pub record Row : Type 0 where
  pub entries : List Numbered
  pub room : ℕ

-- a row with no entries
abbrev pub no_row : Row
no_row = record { entries = []; room = 0 }

-- the row of a bank, of those for each bank from 0 on
abbrev pub row_at : List Row → ℕ → Row
row_at rows bank = slice_index_or rows bank no_row

-- each number is below all that follow it
abbrev pub AreRising : List Numbered → Type 0
AreRising = AllPairs (λ entry later. entry.number < later.number)

-- the key that stands with a number, if any
abbrev pub key_in : List Numbered → ℕ → Option ℕ
key_in [] number = None
key_in (entry ∷ entries) number = if entry.number == number then Some entry.key else key_in entries number

-- an entry is there and has this number
abbrev pub is_for : ℕ → Option Numbered → Bool
is_for number None = false
is_for number (Some entry) = entry.number == number

-- an entry with this number stands at an index
abbrev pub is_at : ℕ → List Numbered → ℕ → Bool
is_at number entries at = is_for number (slice_get entries at)

-- the entries with this key for this number
abbrev pub with_key : ℕ → ℕ → List Numbered → List Numbered
with_key number key [] = record { number = number; key = key } ∷ []
with_key number key (entry ∷ entries) =
    if nat_lt entry.number number then entry ∷ with_key number key entries
    else if entry.number == number then record { number = number; key = key } ∷ entries
    else record { number = number; key = key } ∷ entry ∷ entries

-- a slot has the order of this bank and number
abbrev pub has_order : ℕ → ℕ → Option Resting → Bool
has_order bank number None = false
has_order bank number (Some order) = is_order bank number order

-- the order of this bank and number is kept under a key
abbrev pub is_under : List (Option Resting) → ℕ → ℕ → ℕ → Bool
is_under slots key bank number = has_order bank number (slice_index_or slots key None)

-- how many orders more can be added that a row is for, where there are so many places
abbrev pub room_with : ℕ → Row → ℕ
room_with places row = min places row.room
