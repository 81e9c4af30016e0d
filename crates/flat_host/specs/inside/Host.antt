-- What contracts see of the plain host.
use Rattle.std.specs.Prelude.{◌≡◌}
use Rattle.fx_rules.specs.Lists.{total}
use Rattle.flat_host.specs.FlatState.{FlatState}
use Rattle.flat_host.specs.inside.FlatState.{IsFlatState}
use Rattle.flat_host.specs.declared.host.FlatHost.TheInside.{Inside}

abbrev pub flat_state_of : Inside → FlatState
flat_state_of a = record {
  orders = a.orders.items;
  credit = a.credit;
  counts = a.counts.items;
  weights = a.weights.items;
}

-- the flat state is one, and the arrivals are the commands counted
pub record IsHost (a : Inside) : Type 0 where
  pub state : IsFlatState (flat_state_of a)
  pub arrivals : a.arrivals ≡ total (λ count. count) a.counts.items
