-- A sweep that is planned over a book which stays as it is: the lines that its own fills use up are kept beside, and
-- each next order is sought behind the last. It is how two crates find a sweep, and no promise to anybody: it holds as long as
-- a fill leaves the lines of the taker's bank with all others as they are, and no public contract cites it.
use Rattle.std.specs.Prelude.{ℕ, ◌≡◌, ◌≤◌, ◌-◌, ◌*◌, ◌/◌, Bool, true, ◌&&◌, ◌==◌, if◌then◌else◌, List, [], ◌∷◌, filter, ◌⊎◌, Option, Some, None}
use Rattle.fx_amounts.specs.declared.side.Side.{Side}
use Rattle.fx_rules.specs.declared.orders.Resting.{Resting}
use Rattle.fx_rules.specs.declared.orders.Fill.{Fill}
use Rattle.fx_rules.specs.Sweep.{Taker, is_open, is_preferred, IsBest, amount, fill_with, less}

-- an order comes behind the last one taken, where there is one
abbrev pub is_behind : Side → Option Resting → Resting → Bool
is_behind side None order = true
is_behind side (Some last) order = is_preferred side last order

-- the orders of a book that are open to a taker and come behind the last one taken
abbrev pub open_behind : (ℕ → ℕ) → Taker → Option Resting → List Resting → List Resting
open_behind reaches t last book =
    filter (λ order. is_open t (reaches order.bank) order && is_behind t.side last order) book

-- the lines with each bank once some units of one are used
abbrev pub spend : (ℕ → ℕ) → ℕ → ℕ → ℕ → ℕ
spend lines bank units other = if other == bank then lines other - units else lines other

-- the planned sweep: `lines` tells the credit that is left with each bank, `weight` what a lot costs
abbrev pub Planned : ℕ → (ℕ → ℕ) → List Resting → Taker → Option Resting → List Fill → ℕ → Type 0
Planned weight lines book t last [] left =
    (left ≡ t.left) × ((t.left ≡ 0) ⊎ (open_behind (λ bank. lines bank / weight) t last book ≡ []))
Planned weight lines book t last (fill ∷ fills) left =
    (best : Resting) × (1 ≤ t.left) × IsBest t.side (open_behind (λ bank. lines bank / weight) t last book) best
    × (fill ≡ fill_with t best (amount t best (lines best.bank / weight)))
    × Planned weight (spend lines best.bank (fill.lots * weight)) book (less t fill.lots) (Some best) fills left
