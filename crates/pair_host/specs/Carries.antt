-- What an entry does to the book of its pair.
use Rattle.std.specs.Prelude.{ℕ, ◌≡◌, nat_lt, not, if◌then◌else◌, List, [], ◌∷◌, ◌++◌, filter, map}
use Rattle.fx_amounts.specs.declared.side.Side.{Side}
use Rattle.fx_rules.specs.declared.command.Command.{Command}
use Rattle.fx_rules.specs.declared.command.Command.TheVariants.{Order, Cancel, Reduce, Pull}
use Rattle.fx_rules.specs.declared.command.Life.TheVariants.{Day}
use Rattle.fx_rules.specs.declared.orders.Resting.{Resting}
use Rattle.fx_rules.specs.declared.outcome.Outcome.{Outcome}
use Rattle.fx_rules.specs.declared.outcome.Outcome.TheVariants.{Ordered, Cancelled, Reduced, Pulled}
use Rattle.fx_rules.specs.Session.{Header, IsSession}
use Rattle.fx_rules.specs.State.{State, orders_in}
use Rattle.fx_rules.specs.Sweep.{is_order}
use Rattle.fx_rules.specs.History.{IsStep, after_entry}
use Rattle.fx_rules.specs.Sound.{IsSound}
use Rattle.global_book.specs.Book.{Book, is_of, relotted}
use Rattle.global_book.specs.Room.{HasRoom}
use Rattle.match_sweep.specs.Carries.{carried}
use Rattle.fx_rules.specs.declared.sender.Sender.{Sender}
use Rattle.fx_rules.specs.Sending.{IsNextIn, entry_of}

-- there is room for what may come to rest of a command: of a Day order, one order of its bank and side at its price
abbrev pub HasRoomFor : Book → ℕ → Command → Type 0
HasRoomFor book bank (Order side pair price lots Day) = HasRoom book.room bank side price
HasRoomFor book bank _ = Unit {0}

-- a sender's order as it comes to rest, with so many lots left
abbrev pub order_at_rest : Sender → Side → ℕ → ℕ → Resting
order_at_rest sender side price left = record {
  bank = sender.bank;
  number = sender.number;
  side = side;
  price = price;
  left = left;
  arrival = sender.arrival;
}

-- a book's orders with one more at their end, where it has anything left
abbrev pub with_rest : Resting → List Resting → List Resting
with_rest order orders = if nat_lt 0 order.left then orders ++ order ∷ [] else orders

-- the orders of its pair's book after a command and its outcome
abbrev pub orders_after : Sender → Command → Outcome → List Resting → List Resting
orders_after sender (Order side pair price lots life) (Ordered done rests fills) orders =
    with_rest (order_at_rest sender side price rests) (carried orders fills)
orders_after sender (Cancel pair number) (Cancelled left) orders = filter (λ order. not (is_order sender.bank number order)) orders
orders_after sender (Reduce pair number lots) (Reduced left) orders = map (relotted sender.bank number left) orders
orders_after sender (Pull pair) (Pulled count) orders = filter (λ order. not (is_of sender.bank order)) orders
orders_after sender _ _ orders = orders

-- the book is of a state of which the command with its outcome is a step
pub record IsStepOf (h : Header) (S : State) (book : Book) (sender : Sender) (command : Command) (outcome : Outcome) : Type 0 where
  pub sound : IsSound h S
  pub orders : book.orders ≡ orders_in book.pair S.orders
  pub next : IsNextIn S sender
  pub step : IsStep h S (entry_of sender command outcome)

-- there is such a state, of a valid session: that of a legal history which goes on by the entry is one
pub record IsStepOfSome (book : Book) (sender : Sender) (command : Command) (outcome : Outcome) : Type 0 where
  pub session : Header
  pub before : State
  pub valid : IsSession session
  pub step : IsStepOf session before book sender command outcome

-- Each such state that the book was of: it is the pair's book in the state after the entry.
abbrev pub FollowsOn : Book → Book → Sender → Command → Outcome → Type 0
FollowsOn old new sender command outcome =
    (h : Header) (S : State) → IsStepOf h S old sender command outcome →
    new.orders ≡ orders_in new.pair (after_entry S (entry_of sender command outcome)).orders
