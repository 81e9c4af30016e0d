-- The best order of each owner of one side, and the best of these.
use Rattle.std.specs.Prelude.{ℕ, ◌≡◌, ◌+◌, ◌-◌, ◌*◌, ◌≤◌, ◌<◌, ◌^◌, ◌⊎◌, List, length, Option, Some, None, slice_index_or}
use Rattle.access_index.specs.declared.words.Head.{Head}

-- a rank that a price can have, and a place that a word has bits for
pub record IsHead (head : Head) : Type 0 where
  pub rank : head.rank ≤ 10 ^ 9
  pub place : head.place < 2 ^ 28

-- a rank, a place and a bank in one number: the lower it is, the better the order
abbrev pub word_of : Head → ℕ → ℕ
word_of head bank = (head.rank * 2 ^ 28 + head.place) * 64 + bank

-- the word of a bank's best order; all bits are set where it has none
abbrev pub head_word : ℕ → Option Head → ℕ
head_word bank None = 2 ^ 64 - 1
head_word bank (Some head) = word_of head bank

-- the least number that is above the words of all orders at up to a rank
abbrev pub word_beyond : ℕ → ℕ
word_beyond most = (most + 1) * 2 ^ 34

-- one is as good as another at least: its rank is lower, or the same and its place is not behind the other's
abbrev pub IsUpTo : Head → Head → Type 0
IsUpTo head other = (head.rank < other.rank) ⊎ ((head.rank ≡ other.rank) × (head.place ≤ other.place))

-- a bank's best order has a rank that is at most so high, and no other bank's is better
pub record IsBestWithin (heads : List (Option Head)) (most bank : ℕ) : Type 0 where
  pub within : bank < length heads
  pub head : Head
  pub there : slice_index_or heads bank None ≡ Some head
  pub low : head.rank ≤ most
  pub first : (other : ℕ) (found : Head) → slice_index_or heads other None ≡ Some found → IsUpTo head found
