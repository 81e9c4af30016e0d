use Rattle.fx_rules.specs.Lists.{Each}
use Rattle.fx_rules.specs.Sending.{IsSentOf}
use Rattle.trial_days.proofs.day.add_from_all.Given as goal

-- each command may be sent
abbrev pub invariant-loop-number : goal.invariant-loop-number
invariant-loop-number l = Each (IsSentOf l.session) l.sent.items
