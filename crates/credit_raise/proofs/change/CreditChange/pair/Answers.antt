-- A pair in which nothing is made has its turn: one more of these comes behind the plans.
use Rattle.std.proofs.Common.{List, ◌≡◌, length, subst, sym}
use Rattle.fx_rules.specs.declared.orders.Plan.{Plan}
use Rattle.credit_raise.specs.UnderWay.{Change, IsUnderWay}
use Rattle.credit_raise.specs.inside.UnderWay.{with_idle}
use Rattle.credit_raise.proofs.Idle.{none-goes-on}
use Rattle.credit_raise.proofs.Idling.{idle-push}
use Rattle.credit_raise.proofs.change.CreditChange.pair.Goals as goal

pub returns-then-is_idle-clause-goes_on : goal.returns-then-is_idle-clause-goes_on
returns-then-is_idle-clause-goes_on c h S under of =
    let made : List Plan → Change = λ plans. record { sender = c.self.inside.sender; command = c.self.inside.command; course = c.self.inside.course; plans = plans } in
    let change : Change = made (with_idle c.self.inside.plans.items c.self.inside.idle) in
    subst (λ (plans : List Plan). IsUnderWay h S (made plans)) (sym (idle-push c.self.inside.plans.items c.self.inside.idle))
    (none-goes-on h S change c.args.book.now c.args.weight (c.is_idle.ensures.none c.if-is_idle.true) c.self.invariant.0 c.requires.weight.0
    (subst (λ (was : Change). c.args.book.now.pair ≡ length was.plans) (sym c.self.view_is) c.requires.next)
    (subst (IsUnderWay h S) (sym c.self.view_is) under) of)
