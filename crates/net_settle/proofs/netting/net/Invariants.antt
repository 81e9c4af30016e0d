use Rattle.net_settle.proofs.Columns.{Parts}
use Rattle.net_settle.proofs.netting.net.Given as goal

-- a part for each currency that was passed
abbrev pub invariant-loop-column : goal.invariant-loop-column
invariant-loop-column l = Parts l.dues l.column l.payments.items
