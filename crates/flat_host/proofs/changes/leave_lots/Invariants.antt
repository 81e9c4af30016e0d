use Rattle.std.proofs.Common.{◌≡◌, ◌++◌, take, drop}
use Rattle.fx_rules.specs.Step.{reduced}
use Rattle.flat_host.proofs.changes.leave_lots.Given as goal

-- the orders that were passed are as they have to be, and the others as they were
abbrev pub invariant-loop-active : goal.invariant-loop-active
invariant-loop-active l =
    l.orders ≡ reduced l.bank l.number l.left (take l.active-index l.initial.orders) ++ drop l.active-index l.initial.orders
