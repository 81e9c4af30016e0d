-- What the host's parts do to its orders and tables.
use Rattle.std.specs.Prelude.{ℕ, Bool, ◌≡◌, ◌<◌, ◌+◌, ◌*◌, ◌/◌, List, [], ◌∷◌, slice_index, slice_set, true, false, nat_le, if◌then◌else◌, Option, None, option_map}
use Rattle.fx_rules.specs.declared.outcome.Outcome.{Outcome}
use Rattle.fx_rules.specs.declared.outcome.Outcome.TheVariants.{Ordered, Cancelled, Reduced}
use Rattle.fx_rules.specs.declared.orders.ActiveOrder.{ActiveOrder}
use Rattle.fx_rules.specs.declared.orders.Resting.{Resting}
use Rattle.fx_rules.specs.declared.orders.Fill.{Fill}
use Rattle.fx_rules.specs.State.{at_most}
use Rattle.fx_rules.specs.Sweep.{Taker, lowered}
use Rattle.fx_rules.specs.Plan.{Planned}
use Rattle.flat_host.specs.FlatState.{FlatCredit, use_place, use_in, room_in, line_in}

-- both orders of each of these fills are lowered, in order, where they rest
abbrev pub both_lowered : List ActiveOrder → List Fill → List ActiveOrder
both_lowered orders [] = orders
both_lowered orders (fill ∷ fills) =
    both_lowered (lowered fill.taker fill.taker_number fill.lots (lowered fill.maker fill.maker_number fill.lots orders)) fills

-- units are added to what two banks have used, where their line pays for them
abbrev pub use_raised : FlatCredit → ℕ → ℕ → ℕ → FlatCredit
use_raised credit i j units =
    if nat_le units (line_in credit i j) then record credit { uses = slice_set credit.uses (use_place i j) (use_in credit.uses i j + units) } else credit

-- the credit after these fills: the cost of each is added to what its two banks have used
abbrev pub credit_after : List ℕ → FlatCredit → List Fill → FlatCredit
credit_after weights credit [] = credit
credit_after weights credit (fill ∷ fills) =
    credit_after weights (use_raised credit fill.taker fill.maker (fill.lots * slice_index weights fill.pair)) fills

-- a taker that wants no more lots than what its bank's total leaves pays for
abbrev pub affordable : Option ℕ → ℕ → Taker → Taker
affordable room weight t = record t { left = at_most (option_map (λ units. units / weight) room) t.left }

-- A sweep planned over a book, with the lines that the tables of credit tell. What it leaves is what it leaves of the lots that the
-- total of the taker's bank pays for, and all others.
pub record PlannedBy (weight : ℕ) (credit : FlatCredit) (book : List Resting) (t : Taker) (fills : List Fill) (left : ℕ) : Type 0 where
  pub lines : ℕ → ℕ
  pub lines_are : (bank : ℕ) → bank < 65 → lines bank ≡ line_in credit t.bank bank
  pub rest : ℕ
  pub sum : left + (affordable (room_in credit t.bank) weight t).left ≡ t.left + rest
  pub planned : Planned weight lines book (affordable (room_in credit t.bank) weight t) None fills rest

-- the lots of an order that rest by its outcome
abbrev pub rests_of : Outcome → ℕ
rests_of (Ordered done rests fills) = rests
rests_of _ = 0

-- a cancel or a reduction was done
abbrev pub is_done : Outcome → Bool
is_done (Cancelled left) = true
is_done (Reduced left) = true
is_done _ = false
