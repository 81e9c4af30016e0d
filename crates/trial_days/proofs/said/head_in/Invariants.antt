use Rattle.session_head.specs.Head.{IsStarted}
use Rattle.trial_days.proofs.said.head_in.Given as goal

-- START was not read
abbrev pub invariant-loop-line : goal.invariant-loop-line
invariant-loop-line l = ¬ (IsStarted l.reader)
