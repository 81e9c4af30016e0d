-- The best prices of two banks, and the orders that cross the other bank's.
use Rattle.std.specs.Prelude.{ℕ, ◌≡◌, ◌+◌, ◌/◌, ◌^◌, ◌==◌, nat_le, nat_lt, slice_index, ◌&&◌, ◌||◌, ◌++◌, if◌then◌else◌, Bool, true, false, List, filter, Option, Some, None}
use Rattle.std.specs.List.Sorted.{IsPermutation}
use Rattle.fx_amounts.specs.Price.{crosses}
use Rattle.fx_amounts.specs.Side.{opposite}
use Rattle.fx_amounts.specs.declared.side.Side.{Side}
use Rattle.fx_amounts.specs.declared.side.Side.TheVariants.{Buy, Sell}
use Rattle.fx_rules.specs.declared.orders.Resting.{Resting}
use Rattle.fx_rules.specs.Lists.{Among}
use Rattle.fx_rules.specs.Sweep.{is_better}
use Rattle.global_book.specs.Book.{is_across, is_of}
use Rattle.credit_raise.specs.declared.prices.Tops.{Tops}
use Rattle.credit_raise.specs.inside.Two.{turns}

-- an order of a bank and a side
pub record IsOf (bank : ℕ) (side : Side) (orders : List Resting) (order : Resting) : Type 0 where
  pub rests : Among order orders
  pub owner : order.bank ≡ bank
  pub side_is : order.side ≡ side

-- no order of a bank and a side has a better price than this one, or there is none
abbrev pub IsTop : ℕ → Side → List Resting → Option ℕ → Type 0
IsTop bank side orders None = (order : Resting) → IsOf bank side orders order → ⊥
IsTop bank side orders (Some top) = (order : Resting) → IsOf bank side orders order → is_better (opposite side) order.price top ≡ false

-- the best prices of a bank's orders
pub record AreTops (bank : ℕ) (orders : List Resting) (tops : Tops) : Type 0 where
  pub buy : IsTop bank Buy orders tops.buy
  pub sell : IsTop bank Sell orders tops.sell

-- the first price of a side is no better than the second: it rests behind it, or at it
abbrev pub IsWithin : Side → Option ℕ → Option ℕ → Type 0
IsWithin side None top = Unit {0}
IsWithin side (Some price) None = ⊥
IsWithin side (Some price) (Some top) = crosses side top price ≡ true

-- no order is of a better price than the best one of its side
pub record AreTopsOfAll (orders : List Resting) (tops : Tops) : Type 0 where
  pub buy : (order : Resting) → Among order orders → order.side ≡ Buy → IsWithin Buy (Some order.price) tops.buy
  pub sell : (order : Resting) → Among order orders → order.side ≡ Sell → IsWithin Sell (Some order.price) tops.sell

-- the best price of a side
abbrev pub top_of : Tops → Side → Option ℕ
top_of tops Buy = tops.buy
top_of tops Sell = tops.sell

-- an order of this side and price crosses a best price, where there is one
abbrev pub crosses_top : Side → ℕ → Option ℕ → Bool
crosses_top side price None = false
crosses_top side price (Some top) = crosses side price top

-- an order crosses the best price of a bank's other side
abbrev pub crosses_tops : Tops → Resting → Bool
crosses_tops tops order = crosses_top order.side order.price (top_of tops (opposite order.side))

-- a best buy crosses a best sell, where there are both
abbrev pub is_crossed : Option ℕ → Option ℕ → Bool
is_crossed None sell = false
is_crossed (Some buy) sell = crosses_top Buy buy sell

-- the best prices of two banks cross
abbrev pub tops_meet : Tops → Tops → Bool
tops_meet tops others = is_crossed tops.buy others.sell || is_crossed others.buy tops.sell

-- the prices that a buy's word and a sell's word tell cross: the ranks in them, in the bits from the 34th on, are as little together
abbrev pub ranks_meet : ℕ → ℕ → Bool
ranks_meet buy sell = nat_le (buy / 2 ^ 34 + sell / 2 ^ 34) (10 ^ 9)

-- the best prices of two banks cross, as the words of the banks' best buys and sells tell
abbrev pub words_meet : List ℕ → List ℕ → ℕ → ℕ → Bool
words_meet buys sells i j =
    nat_lt i 64 && nat_lt j 64 && (ranks_meet (slice_index buys i) (slice_index sells j) || ranks_meet (slice_index buys j) (slice_index sells i))

-- an order of one of two banks crosses the best price of the other's
abbrev pub is_live : ℕ → Tops → Tops → Resting → Bool
is_live i tops_i tops_j order = crosses_tops (if order.bank == i then tops_j else tops_i) order

-- the turns of those orders
abbrev pub live_turns : ℕ → ℕ → Tops → Tops → List Resting → List Resting
live_turns i j tops_i tops_j orders = filter (is_live i tops_i tops_j) (turns i j orders)

-- an order of a bank and a side that crosses a best price, where there is one
abbrev pub is_live_on : ℕ → Side → Option ℕ → Resting → Bool
is_live_on bank side top order = is_across (opposite side) bank order && crosses_top side order.price top

-- an order of a bank that crosses another bank's best prices
abbrev pub is_live_of : ℕ → Tops → Resting → Bool
is_live_of bank tops order = is_of bank order && crosses_tops tops order

-- behind what was there come, in any order, those of some orders that pass a test
pub record Gathers (test : Resting → Bool) (orders old new : List Resting) : Type 0 where
  pub gathered : List Resting
  pub behind : new ≡ old ++ gathered
  pub all : IsPermutation (filter test orders) gathered
