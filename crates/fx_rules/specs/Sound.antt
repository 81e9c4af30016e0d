-- What holds in every state of a legal history, beside its meaning.
use Rattle.std.specs.Prelude.{ℕ, ◌≡◌, ◌≢◌, ◌≤◌, ◌<◌, ◌*◌, ◌^◌, Some, None, List, [], length, slice_index}
use Rattle.fx_amounts.specs.Price.{IsPrice}
use Rattle.fx_amounts.specs.Quantity.{IsLots, IsUnits}
use Rattle.fx_rules.specs.declared.orders.ActiveOrder.{ActiveOrder}
use Rattle.fx_rules.specs.declared.orders.Resting.{Resting}
use Rattle.fx_rules.specs.Lists.{Each, EachPair, total}
use Rattle.fx_rules.specs.Session.{Header, bank_count, pair_count, sender_places, newest}
use Rattle.fx_rules.specs.State.{State, Within, cost_between, settled_between}

-- an order of the state's banks and pairs, of a command that was sent
pub record IsKept (h : Header) (counts : List ℕ) (active : ActiveOrder) : Type 0 where
  pub pair : active.pair < pair_count h
  pub bank : active.order.bank < bank_count h
  pub number_least : 1 ≤ active.order.number
  pub number_most : active.order.number ≤ slice_index counts active.order.bank
  pub price : IsPrice active.order.price
  pub left : IsLots active.order.left
  pub arrival : active.order.arrival < total (λ count. count) counts

-- two orders in arrival order, of two commands
pub record ArrivesBefore (first second : Resting) : Type 0 where
  pub arrival : first.arrival < second.arrival
  pub number : first.bank ≡ second.bank → first.number ≢ second.number

-- the same of two active orders
abbrev pub Rises : ActiveOrder → ActiveOrder → Type 0
Rises first second = ArrivesBefore first.order second.order

-- no more was given back between two banks than their fills cost
abbrev pub IsCovered : Header → State → Type 0
IsCovered h S = (i j : ℕ) → settled_between i j S.settlements ≤ cost_between h i j S.fills

-- no bank has a total, and nothing was given back: so it is in version 1
pub record IsPlain (S : State) : Type 0 where
  pub totals : (i : ℕ) → S.totals i ≡ None
  pub settlements : S.settlements ≡ []

pub record IsSound (h : Header) (S : State) : Type 0 where
  pub counts : length S.counts ≡ sender_places h
  pub kept : Each (IsKept h S.counts) S.orders
  pub rising : EachPair Rises S.orders
  pub within : Within h S
  pub limits : (i j : ℕ) → i < bank_count h → j < bank_count h → i ≢ j → IsUnits (S.limits i j)
  pub totals : (i most : ℕ) → i < bank_count h → S.totals i ≡ Some most → most ≤ 64 * 10 ^ 15
  pub covered : IsCovered h S
  pub version_least : 1 ≤ h.version
  pub version_most : h.version ≤ newest
  pub plain : h.version ≡ 1 → IsPlain S
