-- Fills draw on orders that rest: what each side of a fill trades is left of its order, and goes from it.
use Rattle.std.specs.Prelude.{ℕ, ◌≡◌, ◌≤◌, ◌==◌, ◌&&◌, true, false, not, List, [], ◌∷◌, ◌++◌, filter}
use Rattle.fx_rules.specs.declared.orders.ActiveOrder.{ActiveOrder}
use Rattle.fx_rules.specs.declared.orders.Fill.{Fill}
use Rattle.fx_rules.specs.declared.command.Command.{Command}
use Rattle.fx_rules.specs.declared.command.Command.TheVariants.{Order, Cancel, Reduce, Pull}
use Rattle.fx_rules.specs.declared.command.Life.TheVariants.{Day}
use Rattle.fx_rules.specs.declared.outcome.Outcome.{Outcome}
use Rattle.fx_rules.specs.declared.outcome.Outcome.TheVariants.{Cancelled, Reduced, Pulled}
use Rattle.fx_rules.specs.declared.outcome.Entry.{Entry}
use Rattle.fx_rules.specs.Session.{Header, IsSession}
use Rattle.fx_rules.specs.State.{State}
use Rattle.fx_rules.specs.Sweep.{is_order, lowered, at_rest, taker_of}
use Rattle.fx_rules.specs.Step.{fills_of, reduced, without_orders}
use Rattle.fx_rules.specs.History.{IsStep, after_entry}
use Rattle.fx_rules.specs.Sound.{IsSound}

-- the first order of this bank and number is one of the pair, with so many lots left at least
abbrev pub Offers : List ActiveOrder → ℕ → ℕ → ℕ → ℕ → Type 0
Offers [] pair bank number lots = ⊥
Offers (active ∷ orders) pair bank number lots =
    (is_order bank number active.order ≡ true → (active.pair ≡ pair) × (lots ≤ active.order.left))
    × (is_order bank number active.order ≡ false → Offers orders pair bank number lots)

-- the orders once both sides of a fill have so many lots less
abbrev pub drawn : List ActiveOrder → Fill → List ActiveOrder
drawn orders fill = lowered fill.taker fill.taker_number fill.lots (lowered fill.maker fill.maker_number fill.lots orders)

abbrev pub drawn_all : List ActiveOrder → List Fill → List ActiveOrder
drawn_all orders [] = orders
drawn_all orders (fill ∷ fills) = drawn_all (drawn orders fill) fills

-- a fill draws on two orders
pub record IsDrawn (orders : List ActiveOrder) (fill : Fill) : Type 0 where
  pub maker : Offers orders fill.pair fill.maker fill.maker_number fill.lots
  pub taker : Offers (lowered fill.maker fill.maker_number fill.lots orders) fill.pair fill.taker fill.taker_number fill.lots

-- so does each of some fills, on what those before it leave
abbrev pub AreDrawn : List ActiveOrder → List Fill → Type 0
AreDrawn orders [] = Unit {0}
AreDrawn orders (fill ∷ fills) = IsDrawn orders fill × AreDrawn (drawn orders fill) fills

-- the orders that an entry's fills draw on: those that rest, and behind them the order that comes in, with all its lots
abbrev pub coming_in : State → ℕ → Command → List ActiveOrder
coming_in S bank (Order side pair price lots life) = at_rest (taker_of S bank side pair price lots) lots ∷ []
coming_in S bank _ = []

abbrev pub entered : State → Entry → List ActiveOrder
entered S e = S.orders ++ coming_in S e.bank e.command

-- Each fill of a step draws on its two orders.
abbrev pub FillsAreDrawn : Type 0
FillsAreDrawn = (h : Header) (S : State) (e : Entry) → IsSession h → IsSound h S → IsStep h S e → AreDrawn (entered S e) (fills_of e.outcome)

-- the orders of a pair, bank and number taken out
abbrev pub taken_out : ℕ → ℕ → ℕ → List ActiveOrder → List ActiveOrder
taken_out pair bank number orders = filter (λ active. not (active.pair == pair && is_order bank number active.order)) orders

-- What an entry's outcome does to the orders once its fills are made: the rest of an order that is not to stand, and an order
-- that is cancelled, go; one that is reduced has less left; and a pull takes all of a bank's orders in the pair.
abbrev pub settled : ℕ → ℕ → Command → Outcome → List ActiveOrder → List ActiveOrder
settled bank number (Order side pair price lots Day) outcome orders = orders
settled bank number (Order side pair price lots life) outcome orders = taken_out pair bank number orders
settled bank number (Cancel pair other) (Cancelled left) orders = taken_out pair bank other orders
settled bank number (Reduce pair other lots) (Reduced left) orders = reduced bank other left orders
settled bank number (Pull pair) (Pulled count) orders = without_orders pair bank orders
settled bank number _ _ orders = orders

-- After a step those orders rest.
abbrev pub StepsSettle : Type 0
StepsSettle =
    (h : Header) (S : State) (e : Entry) → IsSession h → IsSound h S → IsStep h S e →
    (after_entry S e).orders ≡ settled e.bank e.number e.command e.outcome (drawn_all (entered S e) (fills_of e.outcome))
