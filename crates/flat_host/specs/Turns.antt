-- The turns of a credit change over the host's orders and tables. Each pair is gone through in a book of its own.
use Rattle.std.specs.Prelude.{ℕ, zero, suc, ◌≡◌, ◌+◌, List, [], ◌∷◌, ◌++◌, ◌==◌, filter, find, slice_index, MatchOption}
use Rattle.fx_rules.specs.declared.orders.ActiveOrder.{ActiveOrder}
use Rattle.fx_rules.specs.declared.orders.Resting.{Resting}
use Rattle.fx_rules.specs.declared.orders.Fill.{Fill}
use Rattle.fx_rules.specs.State.{orders_in}
use Rattle.fx_rules.specs.Sweep.{is_order}
use Rattle.fx_rules.specs.Raise.{taker_of_resting}
use Rattle.flat_host.specs.FlatState.{FlatCredit}
use Rattle.flat_host.specs.Parts.{PlannedBy, both_lowered, credit_after}

-- some orders of a pair have their turns, each that still rests in the pair's book when its turn comes
abbrev pub TurnedIn : List ℕ → ℕ → List ActiveOrder → FlatCredit → List Resting → List Fill → Type 0
TurnedIn weights pair book credit [] fills = fills ≡ []
TurnedIn weights pair book credit (order ∷ orders) fills =
    MatchOption (find (λ o. is_order order.bank order.number o) (orders_in pair book))
    (TurnedIn weights pair book credit orders fills)
    (λ now. (own more : List Fill) × (left : ℕ)
    × PlannedBy (slice_index weights pair) credit (orders_in pair book) (taker_of_resting pair now) own left
    × (fills ≡ own ++ more)
    × TurnedIn weights pair (both_lowered book own) (credit_after weights credit own) orders more)

-- so many pairs are gone through, from one on, each over its orders as they rest in the list
abbrev pub RaisedIn : List ℕ → List ActiveOrder → ℕ → ℕ → FlatCredit → List Fill → Type 0
RaisedIn weights orders zero pair credit fills = fills ≡ []
RaisedIn weights orders (suc pairs) pair credit fills =
    (own more : List Fill) × TurnedIn weights pair (filter (λ active. active.pair == pair) orders) credit (orders_in pair orders) own
    × (fills ≡ own ++ more) × RaisedIn weights orders pairs (pair + 1) (credit_after weights credit own) more
