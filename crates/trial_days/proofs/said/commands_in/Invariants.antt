use Rattle.fx_rules.specs.Lists.{Each}
use Rattle.fx_rules.specs.Sending.{IsSentOf}
use Rattle.trial_days.proofs.said.commands_in.Given as goal

-- each command may be sent
abbrev pub invariant-loop-line : goal.invariant-loop-line
invariant-loop-line l = Each (IsSentOf l.session) l.sent.items
