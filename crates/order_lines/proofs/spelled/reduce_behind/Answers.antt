use Rattle.std.proofs.Common.{rules}
use Rattle.fx_amounts.specs.Quantity.{IsLots}
use Rattle.order_lines.proofs.SpelledFields.{front_count}
use Rattle.order_lines.proofs.SpelledLines.{EndsWith-reduce}
use Rattle.order_lines.proofs.spelled.reduce_behind.Goals as goal

pub returns : goal.returns
returns c =
    EndsWith-reduce c.args.session.now c.args.sender _ c.in_ok-number.number c.in_ok-lots.lots c.args.text.now _ c.in_ok-number.fields.now c.in_ok-count.behind.now
    (search rules)
    c.in_ok-number.ensures
    (front_count c.in_ok-number.fields.now c.in_ok-count.behind.now 10 IsLots c.in_ok-lots.lots c.in_ok-count.count c.in_ok-lots.ensures c.in_ok-count.ensures.spelled)
