-- The words of a walk along a side against the list of the orders.
use Rattle.std.specs.Prelude.{ℕ, ◌≡◌, ◌-◌, ◌/◌, ◌^◌, ◌≤◌, true, List, length, Option, Some, None, IfSome, slice_index_or}
use Rattle.fx_amounts.specs.declared.side.Side.{Side}
use Rattle.fx_rules.specs.declared.orders.Resting.{Resting}
use Rattle.access_index.specs.declared.words.Head.{Head}
use Rattle.access_index.specs.Heads.{IsHead, word_beyond}
use Rattle.global_book.specs.Room.{rank_of}
use Rattle.global_book.specs.inside.Linked.{AreKept, IsPriced, Linked}
use Rattle.global_book.specs.inside.Owning.{is_own}

-- the order that is told, where one is
abbrev pub order_told : List (Option Resting) → Option Head → Option Resting
order_told slots None = None
order_told slots (Some head) = slice_index_or slots head.place None

-- a bank's order of a side is at a place, and at a price of a rank
pub record TellsOrder (slots : List (Option Resting)) (side : Side) (bank : ℕ) (head : Head) : Type 0 where
  pub order : Resting
  pub is : slice_index_or slots head.place None ≡ Some order
  pub own : is_own bank side order ≡ true
  pub rank : head.rank ≡ rank_of side order.price
  pub fits : IsHead head

-- of each of so many banks, where it has one, an order of a side in the list of a book is told
pub record TellHeads (count : ℕ) (linked : Linked) (side : Side) (words : List (Option Head)) : Type 0 where
  pub banks : ℕ
  pub kept : AreKept banks linked
  pub priced : (place : ℕ) (order : Resting) → slice_index_or linked.orders.slots place None ≡ Some order → IsPriced order
  pub long : length words ≡ count
  pub tells : (bank : ℕ) → IfSome (slice_index_or words bank None) (TellsOrder linked.orders.slots side bank)

-- the price of a side such that a word is the least one that is above those of all orders up to its rank
abbrev pub limit_told : Side → ℕ → ℕ
limit_told side beyond = rank_of side (beyond / 2 ^ 34 - 1)

-- a word tells a limit so
pub record TellsLimit (side : Side) (beyond : ℕ) : Type 0 where
  pub most : limit_told side beyond ≤ 10 ^ 9
  pub is : beyond ≡ word_beyond (rank_of side (limit_told side beyond))
