-- What contracts see of the pair host, and the states of the market that it stands for.
use Rattle.std.specs.Prelude.{ℕ, ◌≡◌, ◌<◌, List, [], length, slice_index_or}
use Rattle.fx_rules.specs.declared.orders.Resting.{Resting}
use Rattle.fx_rules.specs.declared.outcome.Entry.{Entry}
use Rattle.fx_rules.specs.Session.{Header, IsSession, bank_count, pair_count}
use Rattle.fx_rules.specs.State.{State, orders_in}
use Rattle.fx_rules.specs.History.{IsStep, after_entry}
use Rattle.fx_rules.specs.Sound.{IsSound}
use Rattle.global_book.specs.Book.{Book}
use Rattle.credit_lines.specs.Table.{Table, Stands}

-- the orders that rest in each pair, in arrival order, the pairs in the order of the header; and the credit table
pub record HostState : Type 0 where
  pub books : List (List Resting)
  pub table : Table

-- the host stands for a state: each pair has its orders, and the table is the state's
pub record StandsFor (h : Header) (S : State) (host : HostState) : Type 0 where
  pub pairs : length host.books ≡ pair_count h
  pub orders : (pair : ℕ) → pair < pair_count h → slice_index_or host.books pair [] ≡ orders_in pair S.orders
  pub credit : Stands h S host.table

-- what the host stands for, as a market does
abbrev pub stands : HostState → Header → State → Type 0
stands host h S = StandsFor h S host

-- the entry is a step of a sound state that the host stands for, as the state of a legal history is which goes on by it
pub record IsNextOf (host : HostState) (entry : Entry) : Type 0 where
  pub session : Header
  pub before : State
  pub valid : IsSession session
  pub sound : IsSound session before
  pub stood : StandsFor session before host
  pub step : IsStep session before entry

-- Each sound state that the host stood for and of which the entry is a step: it stands for the state after it.
abbrev pub FollowsOn : HostState → HostState → Entry → Type 0
FollowsOn old new entry =
    (h : Header) (S : State) → IsSession h → IsSound h S → StandsFor h S old → IsStep h S entry → StandsFor h (after_entry S entry) new

-- a book is a pair's in a state: it was made for the pair and for the session's banks, and has the pair's orders
pub record IsBookOf (h : Header) (S : State) (pair : ℕ) (book : Book) : Type 0 where
  pub made_of : book.pair ≡ pair
  pub made_for : book.banks ≡ bank_count h
  pub orders : book.orders ≡ orders_in pair S.orders

-- the books of all pairs in a state, in the order of the header
pub record AreBooksOf (h : Header) (S : State) (books : List Book) : Type 0 where
  pub count : length books ≡ pair_count h
  pub each : (pair : ℕ) (none : Book) → pair < pair_count h → IsBookOf h S pair (slice_index_or books pair none)

-- books and a credit table are of one state of a session
pub record AreOfOneState (books : List Book) (table : Table) : Type 0 where
  pub session : Header
  pub at : State
  pub books_are : AreBooksOf session at books
  pub stands : Stands session at table
