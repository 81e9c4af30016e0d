-- A sweep as it goes, from one best order to the next.
use Rattle.std.specs.Prelude.{ℕ, ◌≡◌, ◌≤◌, ◌+◌, List, [], ◌∷◌, Option, Some, None, slice_index, take}
use Rattle.fx_rules.specs.declared.orders.ActiveOrder.{ActiveOrder}
use Rattle.fx_rules.specs.declared.orders.Fill.{Fill}
use Rattle.fx_rules.specs.declared.orders.Level.{Level}
use Rattle.fx_rules.specs.Lists.{total}
use Rattle.fx_rules.specs.State.{orders_in}
use Rattle.fx_rules.specs.Sweep.{Taker}
use Rattle.fx_rules.specs.Plan.{Planned}
use Rattle.fx_rules.specs.Depth.{levels_of}
use Rattle.flat_host.specs.declared.sweep.Walk.{Walk}

-- the fills that a walk still makes, and what they leave its taker
abbrev pub FromHere : ℕ → List ActiveOrder → Walk → List Fill → ℕ → Type 0
FromHere weight orders walk fills left =
    Planned weight (slice_index walk.lines) (orders_in walk.taker.pair orders) walk.taker walk.last fills left

-- A fill leads a walk on: what it makes from there it makes behind the fill from here, and the fill's lots are what it wants
-- less, and are paid for by its lines.
pub record LeadsOn (weight : ℕ) (orders : List ActiveOrder) (old new : Walk) (fill : Fill) : Type 0 where
  pub goes_on : (more : List Fill) (left : ℕ) → FromHere weight orders new more left → FromHere weight orders old (fill ∷ more) left
  pub some : 1 ≤ fill.lots
  pub wants : new.taker.left + fill.lots ≡ old.taker.left
  pub paid : fill.lots + total (λ line. line) new.lines ≤ total (λ line. line) old.lines

-- a step of a walk: a fill leads it on, or it is at its end
abbrev pub StepsOn : ℕ → List ActiveOrder → Walk → Walk → Option Fill → Type 0
StepsOn weight orders old new None = (new ≡ old) × FromHere weight orders old [] old.taker.left
StepsOn weight orders old new (Some fill) = LeadsOn weight orders old new fill

-- levels are the first ten of a taker's planned sweep
abbrev pub IsLevelled : ℕ → List ℕ → List ActiveOrder → Taker → List Level → Type 0
IsLevelled weight lines orders t levels =
    (fills : List Fill) × (left : ℕ)
    × Planned weight (slice_index lines) (orders_in t.pair orders) t None fills left × (levels ≡ take 10 (levels_of fills))
