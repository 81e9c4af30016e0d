-- What the book of the clients holds, and the histories that it stands for.
use Rattle.std.specs.Prelude.{ℕ, ◌≡◌, ◌<◌, ◌≤◌, ◌+◌, ◌-◌, ◌==◌, ◌&&◌, if◌then◌else◌, List, [], length, map, slice_index, slice_index_or, Option, None, is_some}
use Rattle.fx_rules.specs.declared.orders.ActiveOrder.{ActiveOrder}
use Rattle.fx_rules.specs.declared.command.Command.{Command}
use Rattle.fx_rules.specs.declared.command.Command.TheVariants.{Order, Cancel, Reduce}
use Rattle.fx_rules.specs.Lists.{total}
use Rattle.fx_rules.specs.Session.{Header, sender_places}
use Rattle.fx_rules.specs.Sweep.{is_order}
use Rattle.client_desk.specs.declared.client.Client.{Client}
use Rattle.client_desk.specs.declared.rows.Slot.{Slot}
use Rattle.client_desk.specs.Clients.{Tagged, IsTagged, owner_in, filled_by, limit_of, reserved_of, state_of, when}

-- what a client has filled and what it has reserved, in credit units
pub record Sums : Type 0 where
  pub filled : ℕ
  pub reserved : ℕ

-- a place for each command of a sender, in the order of their numbers; and by pair how many of them, from the first on, have no
-- lots left in it for sure
pub record Row : Type 0 where
  pub slots : List Slot
  pub swept : List ℕ

-- the clients, the weight of each pair, by client what it has, and by sender its commands
pub record Book : Type 0 where
  pub clients : List Client
  pub weights : List ℕ
  pub accounts : List Sums
  pub rows : List Row

abbrev pub no_sums : Sums
no_sums = record { filled = 0; reserved = 0 }

abbrev pub no_slot : Slot
no_slot = record { owner = None; pair = 0; left = 0 }

abbrev pub account_of : Book → ℕ → Sums
account_of book c = slice_index_or book.accounts c no_sums

abbrev pub no_row : Row
no_row = record { slots = []; swept = [] }

-- what a client's limit leaves of that
abbrev pub free_in : Book → ℕ → ℕ
free_in book c = limit_of book.clients c - (account_of book c).filled - (account_of book c).reserved

-- the commands of a sender
abbrev pub row_of : Book → ℕ → Row
row_of book bank = slice_index_or book.rows bank no_row

-- what a place says of the lots that its order has left in a pair
abbrev pub left_in : Slot → ℕ → ℕ
left_in slot pair = if slot.pair == pair then slot.left else 0

-- the lots that the order of this bank and number has left in a pair; 0 where it does not rest there
abbrev pub left_of : List ActiveOrder → ℕ → ℕ → ℕ → ℕ
left_of orders pair bank number =
    total (λ active. when (active.pair == pair && is_order bank number active.order) active.order.left) orders

-- the place of a command says its owner, and of an owner's order the lots that it has left
pub record SlotStands (own : ℕ → ℕ → Option ℕ) (orders : List ActiveOrder) (bank number : ℕ) (slot : Slot) : Type 0 where
  pub owner : slot.owner ≡ own bank number
  pub left : (pair : ℕ) → left_in slot pair ≡ when (is_some (own bank number)) (left_of orders pair bank number)

-- so do the places of a sender that sent so many commands
pub record RowStands (own : ℕ → ℕ → Option ℕ) (orders : List ActiveOrder) (bank count : ℕ) (row : Row) : Type 0 where
  pub count_is : length row.slots ≡ count
  pub each : (place : ℕ) → place < count → SlotStands own orders bank (place + 1) (slice_index_or row.slots place no_slot)
  pub swept_most : (pair : ℕ) → slice_index row.swept pair ≤ count
  pub swept_none : (pair place : ℕ) → place < slice_index row.swept pair → left_in (slice_index_or row.slots place no_slot) pair ≡ 0

-- a book is that of these counts and orders and of what each client has filled, by those owners
pub record Stands (h : Header) (own : ℕ → ℕ → Option ℕ) (counts : List ℕ) (orders : List ActiveOrder) (filled_so : ℕ → ℕ) (book : Book) : Type 0 where
  pub weights : book.weights ≡ map (λ rule. rule.weight) h.pairs
  pub senders : length book.rows ≡ sender_places h
  pub rows : (bank : ℕ) → bank < sender_places h → RowStands own orders bank (slice_index counts bank) (row_of book bank)
  pub filled : (c : ℕ) → c < length book.clients → (account_of book c).filled ≡ filled_so c
  pub reserved : (c : ℕ) → c < length book.clients → (account_of book c).reserved ≡ reserved_of h own c orders

-- A book stands for each tagged history that has these.
pub record StandsFor (h : Header) (tagged : List Tagged) (book : Book) : Type 0 where
  pub tagged_is : IsTagged h book.clients tagged
  pub stands : Stands h (owner_in tagged) (state_of h tagged).counts (state_of h tagged).orders (filled_by h tagged) book

-- a command names a pair of so many, where it is an order, a cancel or a reduction
abbrev pub NamesPair : ℕ → Command → Type 0
NamesPair pairs (Order side pair price lots life) = pair < pairs
NamesPair pairs (Cancel pair number) = pair < pairs
NamesPair pairs (Reduce pair number lots) = pair < pairs
NamesPair pairs _ = Unit {0}
