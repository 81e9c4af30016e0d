-- The books of all pairs, one for each in the order of the header.
use Rattle.std.specs.Prelude.{ℕ, ◌≡◌, ◌<◌, List, [], length, map, slice_index_or}
use Rattle.fx_rules.specs.declared.orders.Fill.{Fill}
use Rattle.fx_rules.specs.Lists.{Each}
use Rattle.fx_rules.specs.Session.{Header, IsSession, bank_count, pair_count}
use Rattle.fx_rules.specs.State.{State, orders_in}
use Rattle.global_book.specs.Book.{Book}
use Rattle.credit_raise.specs.UnderWay.{Change, IsUnderWay}
use Rattle.credit_lines.specs.Table.{Table, Stands}
use Rattle.match_sweep.specs.Carries.{carried}
use Rattle.pair_host.specs.Turns.{ReachesEach, FollowsRaise, fills_in}
use Rattle.pair_host.specs.Standing.{HostState}

-- a book is that of the pair at its place, made for so many banks
pub record IsBookAt (banks place : ℕ) (book : Book) : Type 0 where
  pub pair : book.pair ≡ place
  pub made_for : book.banks ≡ banks

-- so is each of some books
abbrev pub AreBooks : ℕ → List Book → Type 0
AreBooks banks books = (place : ℕ) (none : Book) → place < length books → IsBookAt banks place (slice_index_or books place none)

-- so are those of a host, one for each pair of the table's session
pub record AreHosted (books : List Book) (table : Table) : Type 0 where
  pub count : length books ≡ pair_count table.session
  pub are : AreBooks (bank_count table.session) books

-- no book has an order
abbrev pub AreEmpty : List Book → Type 0
AreEmpty books = (place : ℕ) (none : Book) → place < length books → (slice_index_or books place none).orders ≡ []

-- each book has the orders of the pair at its place
abbrev pub HaveOrders : State → List Book → Type 0
HaveOrders S books = (place : ℕ) (none : Book) → place < length books → (slice_index_or books place none).orders ≡ orders_in place S.orders

-- what contracts see of books and a table
abbrev pub host_of : List Book → Table → HostState
host_of books table = record { books = map (λ book. book.orders) books; table = table }

-- each of the books came to be one that is in this relation to it
pub record EachBook (became : Book → Book → Type 0) (old new : List Book) : Type 0 where
  pub count : length new ≡ length old
  pub each : (place : ℕ) (none : Book) → place < length old → became (slice_index_or old place none) (slice_index_or new place none)

-- Each state of which the credit change was under way, and whose books and table these are: it is under way still.
abbrev pub PlansEach : List Book → Table → Change → Change → Type 0
PlansEach books table old new =
    (h : Header) (S : State) → IsSession h → HaveOrders S books → Stands h S table → IsUnderWay h S old → IsUnderWay h S new

-- a pair's book with what a credit change makes in it
pub record IsCarried (change : Change) (old new : Book) : Type 0 where
  pub pair : new.pair ≡ old.pair
  pub banks : new.banks ≡ old.banks
  pub reaches : ReachesEach change old new

-- and with what these fills of a recorded one make
pub record IsRecorded (fills : List Fill) (old new : Book) : Type 0 where
  pub pair : new.pair ≡ old.pair
  pub banks : new.banks ≡ old.banks
  pub orders : new.orders ≡ carried old.orders (fills_in old.pair fills)
  pub follows : FollowsRaise old new fills

-- So many orders rest in all the books: in each state whose books they are, of the pairs that they are of, as many rest.
abbrev pub RestsIn : List Book → ℕ → Type 0
RestsIn books count = (S : State) → HaveOrders S books → Each (λ active. active.pair < length books) S.orders → count ≡ length S.orders
