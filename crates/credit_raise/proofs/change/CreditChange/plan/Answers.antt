use Rattle.credit_raise.specs.UnderWay.{reached}
use Rattle.credit_raise.proofs.Pairs.{plan_makes}
use Rattle.credit_raise.proofs.change.CreditChange.plan.Goals as goal

pub returns-clause-makes : goal.returns-clause-makes
returns-clause-makes c h S under =
    plan_makes S (reached c.args.self.now S) c.args.self.now.plans c.args.pair c.plan_at.result.now c.plan_at.ensures.value under.makes
