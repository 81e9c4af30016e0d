-- What an entry of the history changes in a book, step by step.
use Rattle.std.specs.Prelude.{ℕ, ◌≡◌, ◌≤◌, ◌<◌, ◌+◌, ◌-◌, ◌*◌, ◌^◌, List, [], ◌∷◌, ◌++◌, length, slice_index, slice_index_or, slice_set, Option, Some, None, option_and_then}
use Rattle.fx_rules.specs.declared.command.Command.{Command}
use Rattle.fx_rules.specs.declared.command.Command.TheVariants.{Order}
use Rattle.client_desk.specs.declared.rows.Slot.{Slot}
use Rattle.client_desk.specs.Standing.{Sums, Row, Book, no_sums, row_of, account_of, left_in}
use Rattle.client_desk.specs.inside.Books.{slot_numbered}

-- a place with so many lots less
abbrev pub less_left : Slot → ℕ → Slot
less_left slot lots = record slot { left = slot.left - lots }

-- a row in which the order of a number has so many lots less, where the command has an owner
abbrev pub owned_lower : Row → ℕ → ℕ → Slot → Option ℕ → Row
owned_lower row number lots slot None = row
owned_lower row number lots slot (Some c) = record row { slots = slice_set row.slots (number - 1) (less_left slot lots) }

abbrev pub lowered_by : Row → ℕ → ℕ → Option Slot → Row
lowered_by row number lots None = row
lowered_by row number lots (Some slot) = owned_lower row number lots slot slot.owner

abbrev pub lowered_row : Row → ℕ → ℕ → Row
lowered_row row number lots = lowered_by row number lots (slot_numbered row.slots number)

-- the owner that is kept of the command of a number
abbrev pub owner_numbered : List Slot → ℕ → Option ℕ
owner_numbered slots number = option_and_then (λ slot. slot.owner) (slot_numbered slots number)

-- credit units that no longer are reserved, and those that were reserved and are filled
abbrev pub released_sums : Sums → ℕ → Sums
released_sums sums units = record { filled = sums.filled; reserved = sums.reserved - units }

abbrev pub filled_sums : Sums → ℕ → Sums
filled_sums sums units = record { filled = sums.filled + units; reserved = sums.reserved - units }

abbrev pub reserved_sums : Sums → ℕ → Sums
reserved_sums sums units = record { filled = sums.filled; reserved = sums.reserved + units }

-- the accounts with one changed, where there is a client
abbrev pub with_sums : (Sums → ℕ → Sums) → ℕ → List Sums → Option ℕ → List Sums
with_sums change units accounts None = accounts
with_sums change units accounts (Some c) = slice_set accounts c (change (slice_index_or accounts c no_sums) units)

-- a book in which the order of this bank and number has so many lots of this pair less, and its owner's sums are changed by what
-- they cost
abbrev pub side_with : (Sums → ℕ → Sums) → Book → ℕ → ℕ → ℕ → ℕ → Book
side_with change book bank number pair lots = record book {
  rows = slice_set book.rows bank (lowered_row (row_of book bank) number lots);
  accounts = with_sums change (lots * slice_index book.weights pair) book.accounts (owner_numbered (row_of book bank).slots number);
}

-- an order that can have so many lots of this pair less, and its owner's reservation what they cost
pub record CanGive (book : Book) (bank number pair lots : ℕ) : Type 0 where
  pub sender : bank < length book.rows
  pub weighs : pair < length book.weights
  pub lots_most : (slot : Slot) (c : ℕ) → slot_numbered (row_of book bank).slots number ≡ Some slot → slot.owner ≡ Some c → lots ≤ slot.left
  pub owner_in : (c : ℕ) → owner_numbered (row_of book bank).slots number ≡ Some c → c < length book.accounts
  pub units_most : (c : ℕ) → owner_numbered (row_of book bank).slots number ≡ Some c → lots * slice_index book.weights pair ≤ (account_of book c).reserved

-- what is kept of a command as it comes in: of a client's order its pair and all its lots
abbrev pub slot_for : Option ℕ → Command → Slot
slot_for (Some c) (Order side pair price lots life) = record { owner = Some c; pair = pair; left = lots }
slot_for who _ = record { owner = who; pair = 0; left = 0 }

-- the credit units that it reserves
abbrev pub units_of : List ℕ → Slot → ℕ
units_of weights slot = slot.left * slice_index weights slot.pair

-- a book with a place more
abbrev pub entered_with : Book → ℕ → Slot → Book
entered_with book bank slot = record book {
  rows = slice_set book.rows bank (record (row_of book bank) { slots = (row_of book bank).slots ++ slot ∷ [] });
  accounts = with_sums reserved_sums (units_of book.weights slot) book.accounts slot.owner;
}

-- the lots that are kept of the order of this bank and number in a pair
abbrev pub left_at : Option Slot → ℕ → ℕ
left_at None pair = 0
left_at (Some slot) pair = left_in slot pair

abbrev pub kept_left : Book → ℕ → ℕ → ℕ → ℕ
kept_left book pair bank number = left_at (slot_numbered (row_of book bank).slots number) pair

-- a client, where there is one, has room for what lots of a pair cost
pub record CanReserve (book : Book) (owner : Option ℕ) (pair lots : ℕ) : Type 0 where
  pub weighs : pair < length book.weights
  pub owner_in : (c : ℕ) → owner ≡ Some c → c < length book.accounts
  pub room : (c : ℕ) → owner ≡ Some c → (account_of book c).filled + (account_of book c).reserved + lots * slice_index book.weights pair ≤ 10 ^ 15

-- a place can be added
pub record CanEnter (book : Book) (bank : ℕ) (slot : Slot) : Type 0 where
  pub sender : bank < length book.rows
  pub room : CanReserve book slot.owner slot.pair slot.left
