-- A command in one pair, carried out in the pair's book and the credit table.
use Rattle.std.specs.Prelude.{ℕ, ◌≡◌}
use Rattle.fx_rules.specs.declared.command.Command.{Command}
use Rattle.fx_rules.specs.declared.outcome.Entry.{Entry}
use Rattle.fx_rules.specs.declared.outcome.Outcome.{Outcome}
use Rattle.fx_rules.specs.Session.{Header, IsSession}
use Rattle.fx_rules.specs.State.{State, orders_in}
use Rattle.fx_rules.specs.History.{IsStep, after_entry}
use Rattle.fx_rules.specs.Sound.{IsSound}
use Rattle.fx_rules.specs.Market.{MaySend, next_entry}
use Rattle.global_book.specs.Book.{Book}
use Rattle.credit_lines.specs.Table.{Table, Stands}

-- a pair's book and the table are a state's
pub record AreOf (h : Header) (S : State) (book : Book) (table : Table) : Type 0 where
  pub valid : IsSession h
  pub sound : IsSound h S
  pub orders : book.orders ≡ orders_in book.pair S.orders
  pub credit : Stands h S table

-- the book and the table are of a state in which a bank may send a command
pub record MayServe (book : Book) (table : Table) (bank : ℕ) (command : Command) : Type 0 where
  pub session : Header
  pub before : State
  pub are_of : AreOf session before book table
  pub may_send : MaySend bank command session before

-- and of one of which an entry is a step
pub record IsFollowed (book : Book) (table : Table) (entry : Entry) : Type 0 where
  pub session : Header
  pub before : State
  pub are_of : AreOf session before book table
  pub step : IsStep session before entry

-- Each state that book and table were of and of which the entry is a step: they are of the state after it.
abbrev pub FollowsEach : Book → Book → Table → Table → Entry → Type 0
FollowsEach book new table table' entry =
    (h : Header) (S : State) → AreOf h S book table → IsStep h S entry →
    (new.orders ≡ orders_in new.pair (after_entry S entry).orders) × Stands h (after_entry S entry) table'

-- Each state that book and table were of and in which a bank may send the command: it goes on by the outcome, and book and
-- table are of the state after it.
abbrev pub ServesEach : Book → Book → Table → Table → ℕ → Command → Outcome → Type 0
ServesEach book new table table' bank command outcome =
    (h : Header) (S : State) → AreOf h S book table → MaySend bank command h S →
    IsStep h S (next_entry S bank command outcome)
    × (new.orders ≡ orders_in new.pair (after_entry S (next_entry S bank command outcome)).orders)
    × Stands h (after_entry S (next_entry S bank command outcome)) table'
