-- A market and the book of its clients on a day.
use Rattle.std.specs.Prelude.{ℕ, ◌≡◌, ◌<◌, List, length, Option, Some}
use Rattle.fx_rules.specs.Session.{Header}
use Rattle.fx_rules.specs.State.{State}
use Rattle.client_desk.specs.Clients.{Tagged, bank_of_client, state_of}
use Rattle.client_desk.specs.Standing.{Book, StandsFor}

-- a history of the session, of clients' and banks' commands, led both to where they stand
pub record IsClientDay {M : Type 0} (stands : M → Header → State → Type 0) (h : Header) (market : M) (book : Book) : Type 0 where
  pub tagged : List Tagged
  pub stood : stands market h (state_of h tagged)
  pub known : StandsFor h tagged book

-- a client, where there is one, is one of the book's, and of this bank
abbrev pub IsClientOf : Book → Option ℕ → ℕ → Type 0
IsClientOf book who bank = (c : ℕ) → who ≡ Some c → (c < length book.clients) × (bank ≡ bank_of_client book.clients c)
