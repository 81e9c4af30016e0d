-- The line is what the limits leave once the new one is set, and no more than the totals do.
use Rattle.std.proofs.Common.{rules, ◌≡◌, ◌-◌, min, ap, ◌∙◌}
use Rattle.fx_rules.specs.State.{at_most}
use Rattle.credit_lines.specs.Credit.{Credit, room_in}
use Rattle.credit_raise.proofs.Opening.{raised-is}
use Rattle.credit_raise.proofs.course.raised.Goals as goal

pub returns-clause-value : goal.returns-clause-value
returns-clause-value c =
    let credit : Credit = c.args.lines.now in
    let least : c.min.result ≡ min c.greater-limit.result c.limit-back.result = search rules in
    raised-is credit c.args.sender c.args.other c.args.asked c.used-used.result c.greater-limit.result c.limit-back.result c.left_of-left.result c.at_most-2.result
    c.used-used.ensures.valid c.requires.sender c.requires.other c.requires.differ c.used-used.ensures.value c.greater-limit.ensures.value c.limit-back.ensures.value
    (c.left_of-left.ensures.value ∙ ap (λ n. n - c.used-used.result) least)
    (c.at_most-2.ensures.value ∙ ap (λ room. at_most room c.at_most.result) c.room.ensures.value
    ∙ ap (at_most (room_in credit c.args.sender)) (c.at_most.ensures.value ∙ ap (λ room. at_most room c.left_of-left.result) c.room-2.ensures.value))
