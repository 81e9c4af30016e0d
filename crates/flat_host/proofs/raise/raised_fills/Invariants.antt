use Rattle.std.proofs.Common.{◌-◌, List, ◌++◌, length}
use Rattle.fx_rules.specs.declared.orders.Fill.{Fill}
use Rattle.flat_host.specs.Turns.{RaisedIn}
use Rattle.flat_host.proofs.raise.raised_fills.Given as goal

-- whatever fills the pairs from here make, make, behind those so far, the fills of all pairs
abbrev pub invariant-loop-place : goal.invariant-loop-place
invariant-loop-place l =
    (more : List Fill) → RaisedIn l.weights l.orders (length l.weights - l.place) l.place l.credit more →
    RaisedIn l.weights l.orders (length l.weights) 0 l.initial.credit (l.fills.items ++ more)
