-- What private functions and proofs alone say of it, beside `specs/Days.antt`.
use Rattle.std.specs.Prelude.{ℕ, ◌≡◌, ◌<◌, ◌+◌, ◌^◌, true, List, [], ◌∷◌, ◌++◌, length, slice_index_or, Option, Some}
use Rattle.fx_rules.specs.Session.{Header}
use Rattle.client_desk.specs.Clients.{AreClients, bank_of_client}
use Rattle.client_desk.specs.Standing.{Book, StandsFor}
use Rattle.reply_lines.specs.Desks.{DeskSoFar, nothing_yet}
use Rattle.client_day.specs.Days.{IsBehind}
use Rattle.client_day.specs.Desks.{with_notes}
use Rattle.client_day.specs.Events.{Event, asked_by, tagged_in}
use Rattle.client_day.specs.Notes.{notes_of}
use Rattle.client_day.specs.Script.{Asked}
use Rattle.client_day.specs.declared.day.ClientDay.{ClientDay}

-- a client, where there is one, is one of the book's, and of this bank
abbrev pub IsClientOf : ClientDay → Option ℕ → ℕ → Type 0
IsClientOf day who bank = (c : ℕ) → who ≡ Some c → (c < length day.book.clients) × (bank ≡ bank_of_client day.book.clients c)

-- there is a number for a command more
abbrev pub HasRoom : List Event → Type 0
HasRoom events = length events + 1 < 2 ^ 32

-- a client's desk is behind these events, and so are the book and each client's desk
pub record IsToldOf (h : Header) (events : List Event) (book : Book) (c : ℕ) (desk : DeskSoFar) : Type 0 where
  pub known : StandsFor h (tagged_in events) book
  pub clients : AreClients h book.clients
  pub noted : desk ≡ with_notes h nothing_yet (notes_of events c)

pub record AreToldOf (h : Header) (events : List Event) (book : Book) (desks : List DeskSoFar) : Type 0 where
  pub count : length desks ≡ length book.clients
  pub each : (c : ℕ) → c < length book.clients → IsToldOf h events book c (slice_index_or desks c nothing_yet)

-- a command was served or refused: each day that stood behind some events stands behind one more
pub record TakesAsked (h : Header) (asked : Asked) (was now : ClientDay) : Type 0 where
  pub clients_stay : now.book.clients ≡ was.book.clients
  pub strays_stay : now.strays ≡ was.strays
  pub trades : now.trading ≡ true
  pub goes_on : (events : List Event) → IsBehind h events was → (event : Event) × (asked_by event ≡ asked) × IsBehind h (events ++ event ∷ []) now
