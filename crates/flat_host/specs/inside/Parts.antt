-- What private functions and proofs alone say of it, beside `specs/Parts.antt`.
use Rattle.std.specs.Prelude.{ℕ, Bool, ◌≡◌, ◌≤◌, ◌<◌, ◌+◌, ◌-◌, List, [], ◌∷◌, slice_index, slice_index_or, slice_set, length, true, false, nat_lt, if◌then◌else◌, ◌++◌, Some}
use Rattle.fx_amounts.specs.declared.side.Side.{Side}
use Rattle.fx_rules.specs.declared.command.Life.{Life}
use Rattle.fx_rules.specs.declared.command.Life.TheVariants.{Day, Ioc, Fok}
use Rattle.fx_rules.specs.declared.outcome.Outcome.{Outcome}
use Rattle.fx_rules.specs.declared.outcome.Outcome.TheVariants.{Ordered, Killed, Shown}
use Rattle.fx_rules.specs.declared.orders.ActiveOrder.{ActiveOrder}
use Rattle.fx_rules.specs.declared.orders.Fill.{Fill}
use Rattle.fx_rules.specs.Lists.{total}
use Rattle.fx_rules.specs.State.{orders_in}
use Rattle.fx_rules.specs.Sweep.{Taker, is_order, at_rest}
use Rattle.fx_rules.specs.Step.{without_order, reduced}
use Rattle.flat_host.specs.FlatState.{FlatCredit, FlatState, limit_place, use_place, limit_in, use_in, line_in}
use Rattle.flat_host.specs.Parts.{both_lowered, credit_after, PlannedBy}

-- the credit with a bank's limit on another set
abbrev pub limited_in : FlatCredit → ℕ → ℕ → ℕ → FlatCredit
limited_in credit bank other limit = record credit { limits = slice_set credit.limits (limit_place bank other) limit }

-- with a bank's total set
abbrev pub totalled_in : FlatCredit → ℕ → ℕ → FlatCredit
totalled_in credit bank most = record credit { totals = slice_set credit.totals bank (Some most) }

-- with so many units of what two banks have used given back
abbrev pub settled_in : FlatCredit → ℕ → ℕ → ℕ → FlatCredit
settled_in credit a b units = record credit { uses = slice_set credit.uses (use_place a b) (use_in credit.uses a b - units) }

-- the first order of a command stands at a place
pub record StandsAt (bank number : ℕ) (orders : List ActiveOrder) (i : ℕ) (a : ActiveOrder) : Type 0 where
  pub within : i < length orders
  pub is : is_order bank number (slice_index_or orders i a).order ≡ true
  pub first : (k : ℕ) → k < i → is_order bank number (slice_index_or orders k a).order ≡ false

-- a command's order as it is swept: its number is the sender's next, and it arrives after all commands so far
abbrev pub taker_from : FlatState → ℕ → Side → ℕ → ℕ → ℕ → Taker
taker_from l bank side pair price lots = record {
  bank = bank;
  number = slice_index l.counts bank + 1;
  pair = pair;
  side = side;
  price = price;
  left = lots;
  arrival = total (λ count. count) l.counts;
}

-- a sweep planned over a flat state
abbrev pub PlannedIn : FlatState → Taker → List Fill → ℕ → Type 0
PlannedIn l t fills left = PlannedBy (slice_index l.weights t.pair) l.credit (orders_in t.pair l.orders) t fills left

-- an order's outcome by its life, of the sweep that was planned in the flat state
abbrev pub OrderedIn : FlatState → Taker → Life → Outcome → Type 0
OrderedIn l t Day (Ordered done rests fills) = PlannedIn l t fills rests × (done ≡ t.left - rests) × (rests ≤ t.left)
OrderedIn l t Ioc (Ordered done rests fills) = PlannedIn l t fills (t.left - done) × (done ≤ t.left) × (rests ≡ 0)
OrderedIn l t Fok (Ordered done rests fills) = PlannedIn l t fills 0 × (done ≡ t.left) × (rests ≡ 0)
OrderedIn l t Fok Killed = (fills : List Fill) × (left : ℕ) × PlannedIn l t fills left × (1 ≤ left)
OrderedIn _ _ _ _ = ⊥

-- the orders with what is left of a taker at their end, where anything is
abbrev pub with_rest : Taker → ℕ → List ActiveOrder → List ActiveOrder
with_rest t rests orders = if nat_lt 0 rests then orders ++ at_rest t rests ∷ [] else orders

-- the flat state with these fills made: their orders are lowered, and their cost is used
abbrev pub filled_in : FlatState → List Fill → FlatState
filled_in l fills = record l {
  orders = both_lowered l.orders fills;
  credit = credit_after l.weights l.credit fills;
}

-- the flat state after an order: its fills are made, and its rest stands
abbrev pub order_carried : FlatState → Taker → ℕ → List Fill → FlatState
order_carried l t rests fills = record (filled_in l fills) { orders = with_rest t rests (both_lowered l.orders fills) }

-- the flat state with one more command of a sender
abbrev pub counted_in : FlatState → ℕ → FlatState
counted_in l bank = record l { counts = slice_set l.counts bank (slice_index l.counts bank + 1) }

-- the flat state without an order, where its cancel was done
abbrev pub cancelled_in : FlatState → ℕ → ℕ → Bool → FlatState
cancelled_in l bank number done = record l { orders = if done then without_order bank number l.orders else l.orders }

-- the flat state with an order lowered to so many lots, where that was done
abbrev pub reduced_in : FlatState → ℕ → ℕ → ℕ → Bool → FlatState
reduced_in l bank number left done = record l { orders = if done then reduced bank number left l.orders else l.orders }

-- the line of a bank with another
abbrev pub shown_in : FlatState → ℕ → ℕ → Outcome
shown_in l bank other = Shown (limit_in l.credit.limits bank other) (use_in l.credit.uses bank other) (line_in l.credit bank other)
