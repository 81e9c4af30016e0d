-- A book on its way from a history to one that is longer by an entry.
use Rattle.std.specs.Prelude.{ℕ, ◌≡◌, ◌≤◌, ◌<◌, ◌+◌, true, List, [], ◌∷◌, ◌++◌, slice_index}
use Rattle.fx_rules.specs.declared.orders.ActiveOrder.{ActiveOrder}
use Rattle.fx_rules.specs.declared.orders.Fill.{Fill}
use Rattle.fx_rules.specs.declared.outcome.Entry.{Entry}
use Rattle.fx_rules.specs.Lists.{Among, Each, EachPair}
use Rattle.fx_rules.specs.Session.{Header, pair_count, sender_places}
use Rattle.fx_rules.specs.Sweep.{is_order}
use Rattle.fx_rules.specs.Step.{fills_of, reduced, without_orders}
use Rattle.fx_rules.specs.History.{after_entry}
use Rattle.fx_rules.specs.Sound.{Rises}
use Rattle.client_desk.specs.Clients.{Tagged, IsTagged, owner_in, state_of, filled_by, filled_of}
use Rattle.client_desk.specs.Standing.{Book, Stands}
use Rattle.client_desk.specs.Draws.{IsDrawn, AreDrawn, drawn, drawn_all, entered, settled, taken_out}
use Rattle.client_desk.specs.inside.Numbers.{IsKnown}

-- the counts behind the entry
abbrev pub counts_of : Header → List Tagged → Tagged → List ℕ
counts_of h tagged t = (after_entry (state_of h tagged) t.entry).counts

-- an order of a command that was sent, in a pair of the session, with a lot left at least
pub record IsOrderOf (h : Header) (counts : List ℕ) (active : ActiveOrder) : Type 0 where
  pub known : IsKnown h counts active.order.bank active.order.number
  pub pair : active.pair < pair_count h
  pub least : 1 ≤ active.order.left

-- The entry of `t` is entered, these orders are left, and so many of its fills are made.
pub record IsUnderWay (h : Header) (tagged : List Tagged) (t : Tagged) (orders : List ActiveOrder) (fills : List Fill) (book : Book) : Type 0 where
  pub tagged_is : IsTagged h book.clients (tagged ++ t ∷ [])
  pub orders_of : Each (IsOrderOf h (counts_of h tagged t)) orders
  pub stands : Stands h (owner_in (tagged ++ t ∷ [])) (counts_of h tagged t) orders (λ c. filled_by h tagged c + filled_of h (owner_in (tagged ++ t ∷ [])) c fills) book

-- the orders of an entry's step once its fills are made
abbrev pub drawn_here : Header → List Tagged → Entry → List ActiveOrder
drawn_here h tagged e = drawn_all (entered (state_of h tagged) e) (fills_of e.outcome)

-- a fill can be made, and was made
abbrev pub CanFill : Book → Fill → Type 0
CanFill book fill = (h : Header) × (tagged : List Tagged) × (t : Tagged) × (orders : List ActiveOrder) × (fills : List Fill) × IsUnderWay h tagged t orders fills book × IsDrawn orders fill

abbrev pub Fills : Book → Book → Fill → Type 0
Fills old new fill =
    (h : Header) (tagged : List Tagged) (t : Tagged) (orders : List ActiveOrder) (fills : List Fill) → IsUnderWay h tagged t orders fills old → IsDrawn orders fill →
    IsUnderWay h tagged t (drawn orders fill) (fills ++ fill ∷ []) new

-- so of fills in order
abbrev pub CanFillAll : Book → List Fill → Type 0
CanFillAll book more = (h : Header) × (tagged : List Tagged) × (t : Tagged) × (orders : List ActiveOrder) × IsUnderWay h tagged t orders [] book × AreDrawn orders more

abbrev pub FillsAll : Book → Book → List Fill → Type 0
FillsAll old new more =
    (h : Header) (tagged : List Tagged) (t : Tagged) (orders : List ActiveOrder) → IsUnderWay h tagged t orders [] old → AreDrawn orders more →
    IsUnderWay h tagged t (drawn_all orders more) more new

-- an order can be taken out of a pair, and was taken out
abbrev pub CanTake : Book → ℕ → ℕ → ℕ → Type 0
CanTake book pair bank number =
    (h : Header) × (tagged : List Tagged) × (t : Tagged) × (orders : List ActiveOrder) × (fills : List Fill) × IsUnderWay h tagged t orders fills book
    × IsKnown h (counts_of h tagged t) bank number × (pair < pair_count h)

abbrev pub Takes : Book → Book → ℕ → ℕ → ℕ → Type 0
Takes old new pair bank number =
    (h : Header) (tagged : List Tagged) (t : Tagged) (orders : List ActiveOrder) (fills : List Fill) → IsUnderWay h tagged t orders fills old →
    IsKnown h (counts_of h tagged t) bank number → IsUnderWay h tagged t (taken_out pair bank number orders) fills new

-- an order that rests in the pair has more than so many lots left
pub record IsAbove (orders : List ActiveOrder) (pair bank number left : ℕ) : Type 0 where
  pub rising : EachPair Rises orders
  pub active : ActiveOrder
  pub among : Among active orders
  pub of_pair : active.pair ≡ pair
  pub is : is_order bank number active.order ≡ true
  pub some : 1 ≤ left
  pub less : left < active.order.left

-- it can be reduced to them, and was reduced
abbrev pub CanReduce : Book → ℕ → ℕ → ℕ → ℕ → Type 0
CanReduce book pair bank number left =
    (h : Header) × (tagged : List Tagged) × (t : Tagged) × (orders : List ActiveOrder) × (fills : List Fill) × IsUnderWay h tagged t orders fills book
    × IsKnown h (counts_of h tagged t) bank number × (pair < pair_count h) × IsAbove orders pair bank number left

abbrev pub Reduces : Book → Book → ℕ → ℕ → ℕ → ℕ → Type 0
Reduces old new pair bank number left =
    (h : Header) (tagged : List Tagged) (t : Tagged) (orders : List ActiveOrder) (fills : List Fill) → IsUnderWay h tagged t orders fills old →
    IsKnown h (counts_of h tagged t) bank number → IsAbove orders pair bank number left → IsUnderWay h tagged t (reduced bank number left orders) fills new

-- a sender of so many commands can pull its orders of a pair, and pulled them
abbrev pub CanPull : Book → ℕ → ℕ → ℕ → Type 0
CanPull book pair bank last =
    (h : Header) × (tagged : List Tagged) × (t : Tagged) × (orders : List ActiveOrder) × (fills : List Fill) × IsUnderWay h tagged t orders fills book
    × (bank < sender_places h) × (last ≡ slice_index (counts_of h tagged t) bank) × (pair < pair_count h)

abbrev pub Pulls : Book → Book → ℕ → ℕ → ℕ → Type 0
Pulls old new pair bank last =
    (h : Header) (tagged : List Tagged) (t : Tagged) (orders : List ActiveOrder) (fills : List Fill) → IsUnderWay h tagged t orders fills old →
    bank < sender_places h → last ≡ slice_index (counts_of h tagged t) bank → IsUnderWay h tagged t (without_orders pair bank orders) fills new

-- what an entry's outcome takes out can be taken out, its fills made, and was taken out
abbrev pub CanSettle : Book → Entry → Type 0
CanSettle book e =
    (h : Header) × (tagged : List Tagged) × (t : Tagged) × (t.entry ≡ e)
    × IsUnderWay h tagged t (drawn_here h tagged e) (fills_of e.outcome) book

abbrev pub Settles : Book → Book → Entry → Type 0
Settles old new e =
    (h : Header) (tagged : List Tagged) (t : Tagged) → t.entry ≡ e →
    IsUnderWay h tagged t (drawn_here h tagged e) (fills_of e.outcome) old →
    IsUnderWay h tagged t (settled e.bank e.number e.command e.outcome (drawn_here h tagged e)) (fills_of e.outcome) new
