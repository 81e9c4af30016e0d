-- What holds of every book, whatever it stands for, and what is read off one.
use Rattle.std.specs.Prelude.{ℕ, ◌≡◌, ◌<◌, ◌-◌, ◌==◌, ◌&&◌, Bool, false, nat_lt, if◌then◌else◌, List, [], length, Option, Some, None, option_and_then, replicate, slice_get}
use Rattle.fx_rules.specs.Lists.{Each}
use Rattle.client_desk.specs.declared.client.Client.{Client}
use Rattle.client_desk.specs.declared.rows.Slot.{Slot}
use Rattle.client_desk.specs.Clients.{bank_of_client, is_client}
use Rattle.client_desk.specs.Standing.{Sums, Row, Book, row_of}

-- an account for each client, and a row for each client's bank
pub record AreKept (clients : List Client) (accounts : List Sums) (rows : List Row) : Type 0 where
  pub accounts_full : length accounts ≡ length clients
  pub banks : (c : ℕ) → c < length clients → bank_of_client clients c < length rows

-- the row of a sender that has sent no command
abbrev pub empty_row : Row
empty_row = record { slots = []; swept = replicate 32 0 }

-- so is each
abbrev pub AreAllEmpty : List Row → Type 0
AreAllEmpty rows = Each (λ row. row ≡ empty_row) rows

-- what is kept of the command of a number, from 1
abbrev pub slot_numbered : List Slot → ℕ → Option Slot
slot_numbered slots number = if nat_lt 0 number then slice_get slots (number - 1) else None

-- an order of this client rests in this pair, by what is kept of its command
abbrev pub slot_rests : Slot → ℕ → ℕ → Bool
slot_rests slot c pair = is_client slot.owner c && slot.pair == pair && nat_lt 0 slot.left

abbrev pub some_rests : Option Slot → ℕ → ℕ → Bool
some_rests None c pair = false
some_rests (Some slot) c pair = slot_rests slot c pair

abbrev pub rests_in : Book → ℕ → ℕ → ℕ → Bool
rests_in book c pair number = some_rests (slot_numbered (row_of book (bank_of_client book.clients c)).slots number) c pair

-- the owner that is kept of a command
abbrev pub owner_at : Book → ℕ → ℕ → Option ℕ
owner_at book bank number = option_and_then (λ slot. slot.owner) (slot_numbered (row_of book bank).slots number)
