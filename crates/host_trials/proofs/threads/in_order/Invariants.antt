use Rattle.fx_rules.specs.Lists.{Each}
use Rattle.fx_rules.specs.Sending.{IsSentOf}
use Rattle.host_trials.proofs.threads.in_order.Given as goal

-- each command may be sent
abbrev pub invariant-loop-entry : goal.invariant-loop-entry
invariant-loop-entry l = Each (IsSentOf l.session) l.ordered.items
