-- Two banks whose line was raised: their orders, and what a pair's book has to be like for a plan from their orders alone.
use Rattle.std.specs.Prelude.{ℕ, ◌≡◌, ◌≤◌, ◌<◌, Bool, true, false, ◌&&◌, ◌||◌, ◌==◌, List}
use Rattle.fx_amounts.specs.declared.side.Side.TheVariants.{Buy, Sell}
use Rattle.fx_rules.specs.declared.orders.Resting.{Resting}
use Rattle.fx_rules.specs.declared.orders.Fill.{Fill}
use Rattle.fx_rules.specs.Lists.{Among, total}
use Rattle.fx_rules.specs.Session.{Header, weight_of}
use Rattle.fx_rules.specs.State.{State, orders_in, line, reach, is_between}
use Rattle.fx_rules.specs.Sound.{IsSound}
use Rattle.global_book.specs.Book.{Book}

-- an order of one of two banks
abbrev pub is_of_two : ℕ → ℕ → Resting → Bool
is_of_two i j order = (order.bank == i) || (order.bank == j)

-- two banks are these two
abbrev pub are_the_two : ℕ → ℕ → ℕ → ℕ → Bool
are_the_two i j bank other = ((bank == i) && (other == j)) || ((bank == j) && (other == i))

-- No orders of a pair rest crossed that can reach each other, but for those between these two banks.
abbrev pub NoCrossBut : Header → State → ℕ → ℕ → ℕ → Type 0
NoCrossBut h S pair i j =
    (buy sell : Resting) → Among buy (orders_in pair S.orders) → Among sell (orders_in pair S.orders) →
    buy.side ≡ Buy → sell.side ≡ Sell → (buy.bank ≡ sell.bank → ⊥) → are_the_two i j buy.bank sell.bank ≡ false →
    1 ≤ reach h S buy.bank sell.bank pair → buy.price < sell.price

-- A state in which the line between two banks was raised, as a pair's turn comes: the book has the pair's orders, the weight
-- and the line are the state's, and nothing rests crossed in the pair but between the two.
pub record IsRaised (h : Header) (S : State) (book : Book) (weight i j eff : ℕ) : Type 0 where
  pub sound : IsSound h S
  pub orders : orders_in book.pair S.orders ≡ book.orders
  pub weight_is : weight_of h book.pair ≡ weight
  pub line_is : line h S i j ≡ eff
  pub apart : NoCrossBut h S book.pair i j

-- a fill of a pair between two banks
pub record IsFillOf (pair i j : ℕ) (fill : Fill) : Type 0 where
  pub pair_is : fill.pair ≡ pair
  pub between : is_between i j fill ≡ true

-- the lots of some fills
abbrev pub lots_of : List Fill → ℕ
lots_of fills = total (λ fill. fill.lots) fills
