use Rattle.std.proofs.Common.{length, ◌-◌, ◌+◌}
use Rattle.net_settle.proofs.Amounts.{sum}
use Rattle.net_settle.proofs.Walking.{SoFar}
use Rattle.net_settle.proofs.netting.walk.Given as goal

abbrev pub invariant-loop-payer : goal.invariant-loop-payer
invariant-loop-payer l = SoFar l.currency l.fn.owes l.fn.owed l.owes l.owed l.payer l.payee l.fn.payments.items l.payments.items

-- what is owed, and the places that are ahead
abbrev pub decreases-loop-payer : goal.decreases-loop-payer
decreases-loop-payer l = sum l.owes + (length l.owes - l.payer) + (length l.owed - l.payee)
