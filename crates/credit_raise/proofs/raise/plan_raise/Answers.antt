-- The plan is the play's fills.
use Rattle.std.proofs.Common.{[], List, length, ap, arith, sym, subst, ◌*◌, ◌≤◌}
use Rattle.fx_rules.specs.declared.orders.Fill.{Fill}
use Rattle.fx_rules.specs.Lists.{Each}
use Rattle.fx_rules.specs.Raise.{Turned}
use Rattle.credit_raise.specs.Two.{IsFillOf, lots_of}
use Rattle.credit_raise.specs.inside.Two.{turns}
use Rattle.credit_raise.proofs.Paying.{played-cost, played-parties}
use Rattle.credit_raise.proofs.Raised.{raised-turned, turns-owners}
use Rattle.credit_raise.proofs.raise.plan_raise.Goals as goal

pub returns-clause-fills : goal.returns-clause-fills
returns-clause-fills g c h S raised =
    subst (Turned h c.args.book.now.pair S c.args.book.now.orders) (sym c.from_vec.ensures.items)
    (raised-turned h S c.args.book.now c.args.weight c.args.i c.args.j c.args.eff c.in_ok-fills.fills.items c.requires.differ c.requires.weight.0 raised c.in_ok-fills.ensures.played)

pub returns-clause-parties : goal.returns-clause-parties
returns-clause-parties g c =
    subst (Each (IsFillOf c.args.book.now.pair c.args.i c.args.j)) (sym c.from_vec.ensures.items)
    (played-parties c.args.book.now.pair c.args.weight c.args.i c.args.j c.args.eff [] (turns c.args.i c.args.j c.args.book.now.orders) c.in_ok-fills.fills.items
    c.requires.differ (turns-owners c.args.i c.args.j c.args.book.now.orders) c.in_ok-fills.ensures.played)

pub returns-clause-cost : goal.returns-clause-cost
returns-clause-cost g c =
    subst (λ (fs : List Fill). lots_of fs * c.args.weight ≤ c.args.eff) (sym c.from_vec.ensures.items)
    (played-cost c.args.book.now.pair c.args.weight c.args.i c.args.j c.args.eff [] (turns c.args.i c.args.j c.args.book.now.orders) c.in_ok-fills.fills.items
    c.requires.weight.0 c.in_ok-fills.ensures.played)

pub returns-clause-steps : goal.returns-clause-steps
returns-clause-steps g c = omega (arith, c.in_ok-fills.ensures.steps, ap length c.from_vec.ensures.items)
