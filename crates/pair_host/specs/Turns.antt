-- What a credit change over all pairs does to the book of one.
use Rattle.std.specs.Prelude.{ℕ, ◌≡◌, ◌==◌, List, filter}
use Rattle.fx_rules.specs.declared.orders.Fill.{Fill}
use Rattle.fx_rules.specs.Session.{Header, IsSession}
use Rattle.fx_rules.specs.State.{State, orders_in}
use Rattle.fx_rules.specs.Sweep.{filled_all}
use Rattle.fx_rules.specs.Raise.{Raised}
use Rattle.fx_rules.specs.Sound.{IsSound}
use Rattle.global_book.specs.Book.{Book}
use Rattle.credit_raise.specs.UnderWay.{Change, IsUnderWay, reached}

-- Each state of which the credit change is under way and whose book it was: it is the pair's book with the change and the fills so
-- far made.
abbrev pub ReachesEach : Change → Book → Book → Type 0
ReachesEach change old new =
    (h : Header) (S : State) → IsUnderWay h S change → old.orders ≡ orders_in old.pair S.orders →
    new.orders ≡ orders_in new.pair (reached change S).orders

-- those of some fills that are of a pair
abbrev pub fills_in : ℕ → List Fill → List Fill
fills_in pair fills = filter (λ fill. fill.pair == pair) fills

-- Each sound state with a credit change made, in which it makes these fills, and whose book it was: it is the pair's book with the
-- fills made.
abbrev pub FollowsRaise : Book → Book → List Fill → Type 0
FollowsRaise old new fills =
    (h : Header) (S : State) → IsSession h → IsSound h S → Raised h S fills → old.orders ≡ orders_in old.pair S.orders →
    new.orders ≡ orders_in new.pair (filled_all S fills).orders
