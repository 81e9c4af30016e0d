-- What a command may answer in a state, and the state after it.
use Rattle.std.specs.Prelude.{ℕ, ◌≡◌, ◌≢◌, ◌≤◌, ◌<◌, ◌-◌, ◌+◌, ◌^◌, ◌==◌, Bool, true, false, ◌&&◌, not, nat_lt, if◌then◌else◌, List, [], ◌∷◌, ◌++◌, length, map, filter, slice_set, Option, Some, None}
use Rattle.fx_amounts.specs.Price.{IsPrice}
use Rattle.fx_amounts.specs.Quantity.{IsLots, IsUnits}
use Rattle.fx_rules.specs.declared.orders.Fill.{Fill}
use Rattle.fx_rules.specs.declared.command.Command.{Command}
use Rattle.fx_rules.specs.declared.command.Command.TheVariants.{Order, Cancel, Reduce, Pull, Line, Total, Settle, Show, Book, Bad}
use Rattle.fx_rules.specs.declared.command.Reject.TheVariants.{Units}
use Rattle.fx_rules.specs.declared.command.Life.{Life}
use Rattle.fx_rules.specs.declared.command.Life.TheVariants.{Day, Ioc, Fok}
use Rattle.fx_rules.specs.declared.outcome.Outcome.{Outcome}
use Rattle.fx_rules.specs.declared.outcome.Outcome.TheVariants.{Ordered, Killed, Cancelled, Reduced, NotLess, Nothing, Pulled, LineSet, TotalSet, Settled, Shown, Depth, Rejected}
use Rattle.fx_rules.specs.Session.{Header, IsSender, bank_count, host, pair_count}
use Rattle.fx_rules.specs.declared.orders.ActiveOrder.{ActiveOrder}
use Rattle.fx_rules.specs.declared.orders.Resting.{Resting}
use Rattle.fx_rules.specs.State.{State, orders_in, count_of, used, line}
use Rattle.fx_rules.specs.Sweep.{Taker, Swept, taker_of, filled_all, is_order, at_rest, with_left}
use Rattle.fx_rules.specs.Raise.{limit_set, limited, total_set, totalled, given_back, settled, order_of, Raised}
use Rattle.fx_rules.specs.Depth.{IsDepth}

-- a number that a command can have
abbrev pub IsNumber : ℕ → Type 0
IsNumber number = (1 ≤ number) × (number < 2 ^ 32)

-- who may send a command: the operator gives credit back, a bank of the session sends all else, and a total comes in version 2
-- alone; what could not be read may be any sender's, but for the fault that only an operator's command can have
abbrev pub Suits : Header → ℕ → Command → Type 0
Suits h sender (Total limit) = (h.version ≡ 2) × (sender < bank_count h)
Suits h sender (Settle a b units) = (h.version ≡ 2) × (sender ≡ host)
Suits h sender (Bad Units) = (h.version ≡ 2) × (sender ≡ host)
Suits h sender (Bad reason) = IsSender h sender
Suits h sender _ = sender < bank_count h

-- what a command names and tells: its pair and its other banks are the session's, the other bank is not its sender, two banks that
-- it names differ, and its values are in their ranges
abbrev pub AreValues : Header → ℕ → Command → Type 0
AreValues h sender (Order side pair price lots life) = (pair < pair_count h) × IsPrice price × IsLots lots
AreValues h sender (Cancel pair number) = (pair < pair_count h) × IsNumber number
AreValues h sender (Reduce pair number lots) = (pair < pair_count h) × IsNumber number × IsLots lots
AreValues h sender (Pull pair) = pair < pair_count h
AreValues h sender (Line other limit) = (other < bank_count h) × (other ≢ sender) × IsUnits limit
AreValues h sender (Total limit) = IsUnits limit
AreValues h sender (Settle a b units) = (a < bank_count h) × (b < bank_count h) × (a ≢ b) × (1 ≤ units) × IsUnits units
AreValues h sender (Show other) = (other < bank_count h) × (other ≢ sender)
AreValues h sender (Book pair) = pair < pair_count h
AreValues h sender (Bad reason) = Unit {0}

-- a command that a sender of the session may send
pub record IsCommand (h : Header) (sender : ℕ) (command : Command) : Type 0 where
  pub sends : Suits h sender command
  pub values : AreValues h sender command

-- an order's outcome by its life. The rest of a Day order rests, that of an Ioc order is dropped. A Fok order whose sweep
-- would leave a rest is killed.
abbrev pub IsOrdered : Header → State → Taker → Life → Outcome → Type 0
IsOrdered h S t Day (Ordered done rests fills) = Swept h S t fills rests × (done ≡ t.left - rests) × (rests ≤ t.left)
IsOrdered h S t Ioc (Ordered done rests fills) = Swept h S t fills (t.left - done) × (done ≤ t.left) × (rests ≡ 0)
IsOrdered h S t Fok (Ordered done rests fills) = Swept h S t fills 0 × (done ≡ t.left) × (rests ≡ 0)
IsOrdered h S t Fok Killed = (fills : List Fill) × (left : ℕ) × Swept h S t fills left × (1 ≤ left)
IsOrdered _ _ _ _ _ = ⊥

-- a cancel's answer by the sender's order of that number, where it rests in the pair
abbrev pub cancel_answer : Option Resting → Outcome
cancel_answer None = Nothing
cancel_answer (Some order) = Cancelled order.left

-- a reduction's
abbrev pub reduce_answer : ℕ → Option Resting → Outcome
reduce_answer lots None = Nothing
reduce_answer lots (Some order) = if nat_lt lots order.left then Reduced lots else NotLess order.left

-- what a command may answer
abbrev pub IsOutcome : Header → State → ℕ → Command → Outcome → Type 0
IsOutcome h S bank (Order side pair price lots life) outcome = IsOrdered h S (taker_of S bank side pair price lots) life outcome
IsOutcome h S bank (Cancel pair number) outcome = outcome ≡ cancel_answer (order_of S pair bank number)
IsOutcome h S bank (Reduce pair number lots) outcome = outcome ≡ reduce_answer lots (order_of S pair bank number)
IsOutcome h S bank (Pull pair) outcome = outcome ≡ Pulled (length (filter (λ order. order.bank == bank) (orders_in pair S.orders)))
IsOutcome h S bank (Line other asked) (LineSet limit fills) =
    (limit ≡ limit_set h S bank other asked) × Raised h (limited bank other limit S) fills
IsOutcome h S bank (Total asked) (TotalSet most fills) =
    (most ≡ total_set h S bank asked) × Raised h (totalled bank most S) fills
IsOutcome h S bank (Settle a b asked) (Settled given fills) =
    (given ≡ given_back h S a b asked) × Raised h (settled a b given S) fills
IsOutcome h S bank (Show other) outcome = outcome ≡ Shown (S.limits bank other) (used h S bank other) (line h S bank other)
IsOutcome h S bank (Book pair) (Depth bids asks) = IsDepth h S bank pair bids asks
IsOutcome h S bank (Bad reason) outcome = outcome ≡ Rejected reason
IsOutcome _ _ _ _ _ = ⊥

-- what is left of a taker rests at the end of the book, where anything is
abbrev pub rested : Taker → ℕ → State → State
rested t rests S = if nat_lt 0 rests then record S { orders = S.orders ++ at_rest t rests ∷ [] } else S

-- the orders without the one of this bank and number
abbrev pub without_order : ℕ → ℕ → List ActiveOrder → List ActiveOrder
without_order bank number orders = filter (λ active. not (is_order bank number active.order)) orders

-- the orders, of which the one of this bank and number has so many lots left; it keeps its place
abbrev pub reduced : ℕ → ℕ → ℕ → List ActiveOrder → List ActiveOrder
reduced bank number left orders = map (λ active. if is_order bank number active.order then with_left active left else active) orders

-- the orders without a bank's orders of a pair
abbrev pub without_orders : ℕ → ℕ → List ActiveOrder → List ActiveOrder
without_orders pair bank orders = filter (λ active. not (active.pair == pair && active.order.bank == bank)) orders

-- the state with the limit or the total set, or the units given back, that a credit change's outcome tells; by all else as it was
abbrev pub credit_changed : State → ℕ → Command → Outcome → State
credit_changed S bank (Line other asked) (LineSet limit fills) = limited bank other limit S
credit_changed S bank (Total asked) (TotalSet most fills) = totalled bank most S
credit_changed S bank (Settle a b asked) (Settled given fills) = settled a b given S
credit_changed S _ _ _ = S

-- the state after a command's outcome, but for the sender's count
abbrev pub changed : State → ℕ → Command → Outcome → State
changed S bank (Order side pair price lots life) (Ordered done rests fills) =
    rested (taker_of S bank side pair price lots) rests (filled_all S fills)
changed S bank (Cancel pair number) (Cancelled left) = record S { orders = without_order bank number S.orders }
changed S bank (Reduce pair number lots) (Reduced left) = record S { orders = reduced bank number left S.orders }
changed S bank (Pull pair) (Pulled count) = record S { orders = without_orders pair bank S.orders }
changed S bank (Line other asked) (LineSet limit fills) = filled_all (limited bank other limit S) fills
changed S bank (Total asked) (TotalSet most fills) = filled_all (totalled bank most S) fills
changed S bank (Settle a b asked) (Settled given fills) = filled_all (settled a b given S) fills
changed S _ _ _ = S

-- one more command of a sender
abbrev pub counted : ℕ → State → State
counted bank S = record S { counts = slice_set S.counts bank (count_of S bank + 1) }

-- the state after a command and its outcome
abbrev pub after : State → ℕ → Command → Outcome → State
after S bank command outcome = counted bank (changed S bank command outcome)

-- the fills of an outcome
abbrev pub fills_of : Outcome → List Fill
fills_of (Ordered done rests fills) = fills
fills_of (LineSet limit fills) = fills
fills_of (TotalSet most fills) = fills
fills_of (Settled given fills) = fills
fills_of _ = []

-- how many fills and levels an outcome tells
abbrev pub item_count : Outcome → ℕ
item_count (Ordered done rests fills) = length fills
item_count (LineSet limit fills) = length fills
item_count (TotalSet most fills) = length fills
item_count (Settled given fills) = length fills
item_count (Depth bids asks) = length bids + length asks
item_count _ = 0

-- a command may change what rests in a pair: an order, a cancel, a reduction or a pull in that pair, and a credit change,
-- which goes through all pairs
abbrev pub may_change : ℕ → Command → Bool
may_change pair (Order side its_pair price lots life) = its_pair == pair
may_change pair (Cancel its_pair number) = its_pair == pair
may_change pair (Reduce its_pair number lots) = its_pair == pair
may_change pair (Pull its_pair) = its_pair == pair
may_change pair (Line other asked) = true
may_change pair (Total asked) = true
may_change pair (Settle a b asked) = true
may_change pair (Show other) = false
may_change pair (Book its_pair) = false
may_change pair (Bad reason) = false
