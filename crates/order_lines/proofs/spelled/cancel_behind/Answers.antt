use Rattle.std.proofs.Common.{rules}
use Rattle.order_lines.proofs.SpelledLines.{EndsWith-cancel}
use Rattle.order_lines.proofs.spelled.cancel_behind.Goals as goal

pub returns : goal.returns
returns c = EndsWith-cancel c.args.session.now c.args.sender _ c.in_ok-number.number c.args.text.now _ c.in_ok-number.behind.now (search rules) c.in_ok-number.ensures
