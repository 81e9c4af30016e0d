use Rattle.std.proofs.Common.{take}
use Rattle.fx_rules.specs.History.{state}
use Rattle.net_settle.specs.inside.Dues.{AreDues}
use Rattle.net_settle.proofs.dues.Dues.of.Given as goal

-- it is what the banks are due by the entries that were passed
abbrev pub invariant-loop-entry : goal.invariant-loop-entry
invariant-loop-entry l = AreDues l.session (state l.session (take l.entry-index l.entries)).fills l.dues
