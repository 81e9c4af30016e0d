use Rattle.fx_rules.specs.Lists.{Each}
use Rattle.fx_rules.specs.Sending.{IsSentOf}
use Rattle.trial_days.proofs.day.add_commands.Given as goal

-- each command may be sent
abbrev pub invariant-loop-place : goal.invariant-loop-place
invariant-loop-place l = Each (IsSentOf l.session) l.sent.items
