use Rattle.std.proofs.Common.{List, ◌++◌, take}
use Rattle.fx_rules.specs.declared.orders.Fill.{Fill}
use Rattle.net_settle.specs.inside.Dues.{AreDues}
use Rattle.net_settle.proofs.dues.Dues.add_all.Given as goal

-- whatever the fills before were, those so far were added to them
abbrev pub invariant-loop-fill : goal.invariant-loop-fill
invariant-loop-fill l = (before : List Fill) → AreDues l.session before l.initial.self → AreDues l.session (before ++ take l.fill-index l.fills) l.self
