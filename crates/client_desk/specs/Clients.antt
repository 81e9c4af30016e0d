-- What clients have by a history whose entries carry the client that sent them, and which commands of a client pass.
-- A client is named by its place among the clients.
use Rattle.std.specs.Prelude.{ℕ, ◌≡◌, ◌≢◌, ◌≤◌, ◌<◌, ◌+◌, ◌-◌, ◌*◌, ◌==◌, ◌&&◌, Bool, false, nat_lt, if◌then◌else◌, List, [], ◌∷◌, ◌++◌, length, map, filter, slice_index, Option, Some, None, is_some}
use Rattle.fx_rules.specs.declared.orders.Fill.{Fill}
use Rattle.fx_rules.specs.declared.orders.ActiveOrder.{ActiveOrder}
use Rattle.fx_rules.specs.declared.outcome.Entry.{Entry}
use Rattle.fx_rules.specs.declared.command.Command.{Command}
use Rattle.fx_rules.specs.declared.command.Command.TheVariants.{Order, Cancel, Reduce, Book, Bad}
use Rattle.fx_rules.specs.Lists.{total, Among, Each, EachPair}
use Rattle.fx_rules.specs.Session.{Header, bank_count, weight_of}
use Rattle.fx_rules.specs.State.{State, cost}
use Rattle.fx_rules.specs.Raise.{order_of}
use Rattle.fx_rules.specs.History.{IsLegal, state}
use Rattle.client_desk.specs.declared.client.Client.{Client}
use Rattle.client_desk.specs.declared.ask.Ask.{Ask}
use Rattle.client_desk.specs.declared.ask.Ask.TheVariants.{Pass, Short, Barred}

-- Clients.

-- the bank of a client, and its limit
abbrev pub bank_of_client : List Client → ℕ → ℕ
bank_of_client clients c = slice_index (map (λ client. client.bank) clients) c

abbrev pub limit_of : List Client → ℕ → ℕ
limit_of clients c = slice_index (map (λ client. client.limit) clients) c

-- two clients are not of one bank and one name
abbrev pub Differ : Client → Client → Type 0
Differ a b = a.bank ≡ b.bank → a.name ≢ b.name

-- the clients that a session can have: 1,024 at most, of its banks, none repeated
pub record AreClients (h : Header) (clients : List Client) : Type 0 where
  pub most : length clients ≤ 1024
  pub banks : Each (λ client. client.bank < bank_count h) clients
  pub differ : EachPair Differ clients

-- Histories whose entries carry a client or none.

pub record Tagged : Type 0 where
  pub who : Option ℕ
  pub entry : Entry

abbrev pub tag : Option ℕ → Entry → Tagged
tag client of = record { who = client; entry = of }

abbrev pub entries_of : List Tagged → List Entry
entries_of tagged = map (λ t. t.entry) tagged

-- the state after them
abbrev pub state_of : Header → List Tagged → State
state_of h tagged = state h (entries_of tagged)

-- the owner of an order: the client of the entry with its bank and number, if it has one
abbrev pub owner_in : List Tagged → ℕ → ℕ → Option ℕ
owner_in [] bank number = None
owner_in (t ∷ ts) bank number = if t.entry.bank == bank && t.entry.number == number then t.who else owner_in ts bank number

-- a client or none is this client
abbrev pub is_client : Option ℕ → ℕ → Bool
is_client None c = false
is_client (Some who) c = who == c

-- a number where a test holds
abbrev pub when : Bool → ℕ → ℕ
when test n = if test then n else 0

-- What orders and fills come to for a client, in credit units, where `own` tells the owner of the order of a bank and a number.

-- lots times weight of the sides of a fill whose orders are the client's
abbrev pub side_cost : Header → (ℕ → ℕ → Option ℕ) → ℕ → Fill → ℕ
side_cost h own c fill =
    when (is_client (own fill.taker fill.taker_number) c) (cost h fill) + when (is_client (own fill.maker fill.maker_number) c) (cost h fill)

-- what it has filled
abbrev pub filled_of : Header → (ℕ → ℕ → Option ℕ) → ℕ → List Fill → ℕ
filled_of h own c fills = total (side_cost h own c) fills

-- the lots that an order has left times weight, where it is the client's
abbrev pub left_cost : Header → (ℕ → ℕ → Option ℕ) → ℕ → ActiveOrder → ℕ
left_cost h own c active = when (is_client (own active.order.bank active.order.number) c) (active.order.left * weight_of h active.pair)

-- what its resting orders reserve
abbrev pub reserved_of : Header → (ℕ → ℕ → Option ℕ) → ℕ → List ActiveOrder → ℕ
reserved_of h own c orders = total (left_cost h own c) orders

-- By a history: what a client has filled, what it has reserved, and what its limit leaves.

abbrev pub filled_by : Header → List Tagged → ℕ → ℕ
filled_by h tagged c = filled_of h (owner_in tagged) c (state_of h tagged).fills

abbrev pub reserved_by : Header → List Tagged → ℕ → ℕ
reserved_by h tagged c = reserved_of h (owner_in tagged) c (state_of h tagged).orders

abbrev pub free_of : Header → List Client → List Tagged → ℕ → ℕ
free_of h clients tagged c = limit_of clients c - filled_by h tagged c - reserved_by h tagged c

-- an order of this number rests in the pair for the client
abbrev pub rests_for : Header → List Client → List Tagged → ℕ → ℕ → ℕ → Bool
rests_for h clients tagged c pair number =
    is_client (owner_in tagged (bank_of_client clients c) number) c
    && is_some (order_of (state_of h tagged) pair (bank_of_client clients c) number)

-- What a client's command is answered. An order that costs more than the client has free is short. A cancel or a reduction is
-- barred where no such order rests for the client, and so is every command that is not about the client's own orders; a local
-- book and a line that could not be read pass.
abbrev pub ask_of : Header → List Client → List Tagged → ℕ → Command → Ask
ask_of h clients tagged c (Order side pair price lots life) =
    if nat_lt (free_of h clients tagged c) (lots * weight_of h pair) then Short (free_of h clients tagged c) else Pass
ask_of h clients tagged c (Cancel pair number) = if rests_for h clients tagged c pair number then Pass else Barred
ask_of h clients tagged c (Reduce pair number lots) = if rests_for h clients tagged c pair number then Pass else Barred
ask_of h clients tagged c (Book pair) = Pass
ask_of h clients tagged c (Bad reason) = Pass
ask_of h clients tagged c _ = Barred

-- an entry's client, where it has one, is one of the clients, and of the entry's bank
abbrev pub IsTagOf : List Client → Tagged → Type 0
IsTagOf clients t = (c : ℕ) → t.who ≡ Some c → (c < length clients) × (t.entry.bank ≡ bank_of_client clients c)

-- a client's command passed after the entries before it; one without a client always passes
abbrev pub HasPassed : Header → List Client → List Tagged → Tagged → Type 0
HasPassed h clients before t = (c : ℕ) → t.who ≡ Some c → ask_of h clients before c t.entry.command ≡ Pass

-- so did each of some entries
abbrev pub PassedAfter : Header → List Client → List Tagged → List Tagged → Type 0
PassedAfter h clients before [] = Unit {0}
PassedAfter h clients before (t ∷ ts) = HasPassed h clients before t × PassedAfter h clients (before ++ t ∷ []) ts

-- a legal history of clients' and banks' commands, whose client commands passed
pub record IsTagged (h : Header) (clients : List Client) (tagged : List Tagged) : Type 0 where
  pub legal : IsLegal h (entries_of tagged)
  pub tags : Each (IsTagOf clients) tagged
  pub passed : PassedAfter h clients [] tagged

-- Laws.

-- No client has more filled and reserved than its limit.
abbrev pub ClientsAreWithin : Type 0
ClientsAreWithin =
    (h : Header) (clients : List Client) (tagged : List Tagged) (c : ℕ) → IsTagged h clients tagged → c < length clients →
    filled_by h tagged c + reserved_by h tagged c ≤ limit_of clients c

-- the entries of this bank and number
abbrev pub entries_at : ℕ → ℕ → List Entry → List Entry
entries_at bank number entries = filter (λ e. e.bank == bank && e.number == number) entries

-- Each side of a fill is of an order that one entry of the history sent, so that it has the one owner of that order, or none.
abbrev pub SidesHaveOneEntry : Type 0
SidesHaveOneEntry =
    (h : Header) (entries : List Entry) (fill : Fill) → IsLegal h entries → Among fill (state h entries).fills →
    (length (entries_at fill.taker fill.taker_number entries) ≡ 1) × (length (entries_at fill.maker fill.maker_number entries) ≡ 1)
