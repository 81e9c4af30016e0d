-- A credit change with its first course is the one that is opened, and under way.
use Rattle.std.proofs.Common.{List, ◌≡◌, ap, subst, sym, ◌∙◌}
use Rattle.fx_rules.specs.declared.orders.Plan.{Plan}
use Rattle.fx_rules.specs.History.{state}
use Rattle.credit_raise.specs.declared.course.Course.{Course}
use Rattle.credit_raise.specs.UnderWay.{Change, IsUnderWay, course_of, opened}
use Rattle.credit_raise.specs.inside.UnderWay.{with_idle}
use Rattle.credit_raise.proofs.Pairs.{begins}
use Rattle.credit_raise.proofs.change.CreditChange.open.Goals as goal

pub returns-clause-begins : goal.returns-clause-begins
returns-clause-begins c h entries legal stands may =
    let made : Course → List Plan → Change = λ course plans. record { sender = c.args.sender; command = c.args.command.now; course = course; plans = with_idle plans 0 } in
    let is : made c.in_ok-open.field-0 c.new.result.items ≡ opened c.args.lines.now c.args.sender c.args.command.now =
    ap (λ (course : Course). made course c.new.result.items) c.in_ok-open.ensures.value
    ∙ ap (made (course_of c.args.lines.now c.args.sender c.args.command.now)) c.new.ensures.items in
    subst (IsUnderWay h (state h entries)) (sym is)
    (begins h entries c.args.lines.now c.args.sender c.args.command.now legal c.in_ok-open.ensures.lines stands c.requires.change may)
