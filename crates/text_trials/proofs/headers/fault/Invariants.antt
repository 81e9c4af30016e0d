use Rattle.session_head.specs.Head.{IsStarted}
use Rattle.text_trials.proofs.headers.fault.Given as goal

-- START was not read
abbrev pub invariant-loop-line : goal.invariant-loop-line
invariant-loop-line l = ¬ (IsStarted l.reader)
