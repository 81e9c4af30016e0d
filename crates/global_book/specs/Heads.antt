-- A walk along the orders of a side in a book, from the best one on, as it comes to each bank's orders in turn.
use Rattle.std.specs.Prelude.{ℕ, ◌≡◌, ◌<◌, ◌^◌, Bool, true, false, not, ◌&&◌, List, [], filter, length, Option, Some, None, IfSome, slice_index_or, slice_set}
use Rattle.fx_amounts.specs.Price.{crosses}
use Rattle.fx_amounts.specs.Side.{opposite}
use Rattle.fx_amounts.specs.declared.side.Side.{Side}
use Rattle.fx_rules.specs.declared.orders.Resting.{Resting}
use Rattle.fx_rules.specs.Sweep.{IsBest, is_opposite, is_preferred}
use Rattle.global_book.specs.Behind.{owned_behind}
use Rattle.global_book.specs.Book.{Book}

-- the orders of a book that a walk along a side goes through, the limit that it goes up to, and of each bank the order that it comes to next,
-- where there is one
pub record Heads : Type 0 where
  pub side : Side
  pub limit : ℕ
  pub orders : List Resting
  pub next : List (Option Resting)

-- a bank's head: its order that comes next
abbrev pub head_in : Heads → ℕ → Option Resting
head_in heads bank = slice_index_or heads.next bank None

-- the best order of a bank and a side, behind one of theirs where that is given; or there is none
abbrev pub IsNext : Side → ℕ → Option Resting → List Resting → Option Resting → Type 0
IsNext side bank past orders None = owned_behind side bank (2 ^ 64) past orders ≡ []
IsNext side bank past orders (Some order) = IsBest (opposite side) (owned_behind side bank (2 ^ 64) past orders) order

-- a walk along a side of a book up to a limit, with a head for each of so many banks, has passed no order
pub record IsBegun (book : Book) (side : Side) (limit banks : ℕ) (heads : Heads) : Type 0 where
  pub side_is : heads.side ≡ side
  pub limit_is : heads.limit ≡ limit
  pub orders_are : heads.orders ≡ book.orders
  pub count : length heads.next ≡ banks
  pub best : (bank : ℕ) → IsNext side bank None book.orders (head_in heads bank)

-- a bank's head is within the limit, and a taker prefers no other head to it
pub record IsLeast (heads : Heads) (bank : ℕ) : Type 0 where
  pub within : bank < length heads.next
  pub head : Resting
  pub is : head_in heads bank ≡ Some head
  pub allowed : crosses (opposite heads.side) heads.limit head.price ≡ true
  pub first : (other : ℕ) (one : Resting) → head_in heads other ≡ Some one → is_preferred (opposite heads.side) one head ≡ false

-- the walk with another head of a bank, or with none
abbrev pub with_head : Heads → ℕ → Option Resting → Heads
with_head heads bank head = record heads { next = slice_set heads.next bank head }

-- a bank's head is passed, and the next one is the bank's best order behind it
pub record PassesHead (old new : Heads) (bank : ℕ) : Type 0 where
  pub head : Option Resting
  pub is : new ≡ with_head old bank head
  pub next : IfSome (head_in old bank) (λ passed. IsNext old.side bank (Some passed) old.orders head)

-- an order is at a head or behind it
abbrev pub is_from_head : Side → Option Resting → Resting → Bool
is_from_head taker None order = false
is_from_head taker (Some head) order = not (is_preferred taker order head)

-- an order of the walk's side that the walk has not passed
abbrev pub is_to_come : Heads → Resting → Bool
is_to_come heads order = is_opposite (opposite heads.side) order.side && is_from_head (opposite heads.side) (head_in heads order.bank) order

-- how many these are
abbrev pub count_to_come : Heads → ℕ
count_to_come heads = length (filter (is_to_come heads) heads.orders)
