-- What the fills of a sweep, and of the turns of a credit change, do to a pair's book.
use Rattle.std.specs.Prelude.{ℕ, ◌≡◌, ◌<◌, false, List}
use Rattle.fx_rules.specs.declared.orders.Resting.{Resting}
use Rattle.fx_rules.specs.declared.orders.Fill.{Fill}
use Rattle.fx_rules.specs.Lists.{Each}
use Rattle.fx_rules.specs.Session.{Header, bank_count, weight_of}
use Rattle.fx_rules.specs.State.{State, orders_in}
use Rattle.fx_rules.specs.Sweep.{Taker, Swept, is_order, filled_all}
use Rattle.fx_rules.specs.Raise.{Turned}
use Rattle.fx_rules.specs.Sound.{IsSound}
use Rattle.match_sweep.specs.Carries.{carried, AreOfBook}

-- The fills of a sweep are those of its pair's book, where no order of the taker's bank and number rests in it; and
-- carried out there they leave the book of the swept state.
abbrev pub SweepsAreCarried : Type 0
SweepsAreCarried =
    (h : Header) (S : State) (t : Taker) (fills : List Fill) (left : ℕ) →
    IsSound h S → t.bank < bank_count h → 0 < weight_of h t.pair →
    Each (λ (order : Resting). is_order t.bank t.number order ≡ false) (orders_in t.pair S.orders) → Swept h S t fills left →
    AreOfBook (orders_in t.pair S.orders) fills × (carried (orders_in t.pair S.orders) fills ≡ orders_in t.pair (filled_all S fills).orders)

-- So are the fills that a credit change makes in a pair, whose takers rest.
abbrev pub TurnsAreCarried : Type 0
TurnsAreCarried =
    (h : Header) (pair : ℕ) (S : State) (orders : List Resting) (fills : List Fill) →
    IsSound h S → 0 < weight_of h pair → Turned h pair S orders fills →
    AreOfBook (orders_in pair S.orders) fills × (carried (orders_in pair S.orders) fills ≡ orders_in pair (filled_all S fills).orders)
