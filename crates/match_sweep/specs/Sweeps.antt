-- The sweep of an order over one pair's book and the lines of its bank, and the states of the market that they are of.
use Rattle.std.specs.Prelude.{ℕ, ◌≡◌, ◌≤◌, ◌+◌, ◌*◌, ◌^◌, List, take}
use Rattle.fx_rules.specs.declared.orders.Fill.{Fill}
use Rattle.fx_rules.specs.declared.orders.Level.{Level}
use Rattle.fx_rules.specs.Lists.{total}
use Rattle.fx_rules.specs.Session.{Header, weight_of}
use Rattle.fx_rules.specs.State.{State, orders_in}
use Rattle.fx_rules.specs.Sweep.{Taker, Swept}
use Rattle.fx_rules.specs.Sound.{IsSound}
use Rattle.fx_rules.specs.Depth.{levels_of}
use Rattle.global_book.specs.Book.{Book}
use Rattle.credit_lines.specs.Credit.{Credit}
use Rattle.credit_lines.specs.Market.{StandsFor}
use Rattle.match_sweep.specs.declared.sweeping.SweepPlan.{SweepPlan}

-- The book and the credit are those of a state: the book has the orders of its pair, the credit its limits and uses, and
-- a lot of the pair costs this weight.
pub record Fits (h : Header) (S : State) (book : Book) (credit : Credit) (weight : ℕ) : Type 0 where
  pub orders : book.orders ≡ orders_in book.pair S.orders
  pub lines : StandsFor h S credit
  pub weighs : weight ≡ weight_of h book.pair

-- the fills are the sweep of an order in every sound state that the book and the credit are of
abbrev pub IsSweep : Book → Credit → ℕ → Taker → List Fill → ℕ → Type 0
IsSweep book credit weight order fills left =
    (h : Header) (S : State) → IsSound h S → Fits h S book credit weight → Swept h S order fills left

-- what a sweep fills and what it leaves are all lots that its order wants
abbrev pub AddsUp : Taker → SweepPlan → Type 0
AddsUp order sweep = total (λ fill. fill.lots) sweep.fills + sweep.left ≡ order.left

-- it fills no more lots than 65 lines can allow
abbrev pub IsWithinLines : SweepPlan → Type 0
IsWithinLines sweep = total (λ fill. fill.lots) sweep.fills ≤ 65 * 10 ^ 15

-- Levels are the first ten of the sweep of an order. Its fills have at most as many lots as 65 lines can allow.
pub record IsLevelled (book : Book) (credit : Credit) (weight : ℕ) (order : Taker) (levels : List Level) : Type 0 where
  pub fills : List Fill
  pub left : ℕ
  pub sweep : IsSweep book credit weight order fills left
  pub lots : total (λ fill. fill.lots) fills ≤ 65 * 10 ^ 15
  pub first : levels ≡ take 10 (levels_of fills)
