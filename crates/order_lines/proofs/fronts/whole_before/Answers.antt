use Rattle.std.proofs.Common.{◌≡◌, get_or, true}
use Rattle.std.specs.Char.{is_ascii_digit}
use Rattle.order_lines.proofs.FrontNumbers.{around_digit}
use Rattle.order_lines.proofs.fronts.whole_before.Goals as goal

pub returns-in-46-clause-spelled : goal.returns-in-46-clause-spelled
returns-in-46-clause-spelled c =
    let digit : is_ascii_digit (get_or c.args.text.now 0 0) ≡ true = cc in
    let point : get_or c.args.text.now 1 0 ≡ 46 = cc in
    around_digit c.args.text.now c.from.result c.in-46.len_at_least digit c.from.ensures point
