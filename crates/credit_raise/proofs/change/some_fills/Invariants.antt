use Rattle.std.proofs.Common.{◌≡◌, ◌++◌, drop}
use Rattle.credit_raise.specs.UnderWay.{fills_of_all}
use Rattle.credit_raise.proofs.change.some_fills.Given as goal

-- the fills so far, and those of the plans to come
abbrev pub invariant-loop-plan : goal.invariant-loop-plan
invariant-loop-plan l = l.fills.items ++ fills_of_all (drop l.plan-index l.plans) ≡ fills_of_all l.plans
