-- The plan leaves the pair as all plans so far do.
use Rattle.std.proofs.Common.{ap, sym, subst, ◌∙◌}
use Rattle.fx_rules.specs.State.{State, orders_in}
use Rattle.credit_raise.specs.UnderWay.{Makes, reached}
use Rattle.pair_host.proofs.turning.carry_turn.Goals as goal

pub returns-clause-reaches : goal.returns-clause-reaches
returns-clause-reaches c h S under is =
    let T : State = reached c.args.change.now S in
    let makes : Makes S T c.args.book.now.pair c.plan-plan.result.now.fills =
    subst (λ p. Makes S T p c.plan-plan.result.now.fills) c.pair.ensures.value (c.plan-plan.ensures.makes h S under) in
    c.carry.ensures.state makes.turn makes.rising (is ∙ sym makes.orders) ∙ makes.leaves ∙ ap (λ p. orders_in p T.orders) (sym c.carry.ensures.pair)
