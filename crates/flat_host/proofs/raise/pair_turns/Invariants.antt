use Rattle.std.proofs.Common.{◌≡◌, List, ◌++◌, drop}
use Rattle.fx_rules.specs.declared.orders.Fill.{Fill}
use Rattle.fx_rules.specs.State.{orders_in}
use Rattle.flat_host.specs.Parts.{credit_after}
use Rattle.fx_rules.specs.inside.Orders.{in_pair}
use Rattle.flat_host.specs.Turns.{TurnedIn}
use Rattle.flat_host.proofs.raise.pair_turns.Given as goal

-- whatever fills the turns from here make, make, behind those so far, the fills of all turns
abbrev pub invariant-loop-active : goal.invariant-loop-active
invariant-loop-active l = record {
  goes_on : (more : List Fill) →
      TurnedIn l.weights l.pair l.book.items l.credit (orders_in l.pair (drop l.active-index l.orders)) more →
      TurnedIn l.weights l.pair (in_pair l.pair l.orders) l.initial.credit (orders_in l.pair l.orders) (l.fills.items ++ more);
  credit : l.credit ≡ credit_after l.weights l.initial.credit l.fills.items;
}
