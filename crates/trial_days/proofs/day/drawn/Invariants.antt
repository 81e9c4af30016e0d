use Rattle.fx_rules.specs.Lists.{Each}
use Rattle.fx_rules.specs.Sending.{IsSentOf}
use Rattle.trial_days.proofs.day.drawn.Given as goal

-- each command may be sent
abbrev pub invariant-loop-part : goal.invariant-loop-part
invariant-loop-part l = Each (IsSentOf l.session) l.sent.items

abbrev pub invariant-loop-before : goal.invariant-loop-before
invariant-loop-before l = Each (IsSentOf l.session) l.sent.items
