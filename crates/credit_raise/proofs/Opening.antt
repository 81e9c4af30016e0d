-- The course of a limit before the first turn, by the numbers that it is found from.
use Rattle.std.proofs.Common.{ℕ, ◌≡◌, ◌≢◌, ◌-◌, ◌<◌, max, min, ap, sym, ◌∙◌}
use Rattle.fx_rules.specs.declared.command.Command.TheVariants.{Line}
use Rattle.fx_rules.specs.State.{at_most}
use Rattle.credit_lines.specs.Credit.{Credit, IsCredit, left_in, limit_in, limited, line_in, room_in, used_in}
use Rattle.credit_lines.proofs.CreditLemmas.{left_in-limited_same}
use Rattle.credit_raise.specs.declared.course.Course.TheVariants.{Raised}
use Rattle.credit_raise.specs.UnderWay.{course_of}

pub raised-is : (credit : Credit) (sender other asked used limit back left line : ℕ) → IsCredit credit → sender < credit.banks → other < credit.banks → sender ≢ other
    → used ≡ used_in credit sender other → limit ≡ max asked used → back ≡ limit_in credit other sender → left ≡ min limit back - used
    → line ≡ at_most (room_in credit sender) (at_most (room_in credit other) left)
    → Raised other limit line ≡ course_of credit sender (Line other asked)
raised-is credit sender other asked used limit back left line valid sender_in other_in differ used_is limit_is back_is left_is line_is =
    let set : limit ≡ max asked (used_in credit sender other) = limit_is ∙ ap (max asked) used_is in
    let left_now : left ≡ left_in (limited credit sender other limit) sender other =
    left_is ∙ ap (λ n. min limit n - used) back_is ∙ ap (λ n. min limit (limit_in credit other sender) - n) used_is
    ∙ sym (left_in-limited_same credit sender other limit valid sender_in other_in differ) in
    let line_now : line ≡ line_in (limited credit sender other limit) sender other =
    line_is ∙ ap (λ n. at_most (room_in credit sender) (at_most (room_in credit other) n)) left_now in
    ap (λ n. Raised other limit n) line_now ∙ ap (λ n. Raised other n (line_in (limited credit sender other n) sender other)) set
