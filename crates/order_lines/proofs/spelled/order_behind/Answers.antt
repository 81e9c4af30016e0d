use Rattle.std.proofs.Common.{◌∙◌, rules}
use Rattle.fx_amounts.specs.Quantity.{IsLots}
use Rattle.order_lines.proofs.SpelledFields.{front_count, front_price}
use Rattle.order_lines.proofs.SpelledLines.{EndsWith-order}
use Rattle.order_lines.proofs.spelled.order_behind.Goals as goal

pub returns : goal.returns
returns c =
    EndsWith-order c.args.session.now c.args.sender c.args.side _ c.in_ok-price.price c.in_ok-lots.lots c.in_ok-life.life
    c.args.text.now _ c.in_ok-ticks.fields.now c.in_ok-count.fields.now c.in_ok-life.behind.now
    (search rules)
    (front_price _ c.in_ok-ticks.fields.now 32 c.args.session.now _ c.in_ok-price.price c.from-places.result c.in_ok-ticks.ticks c.in_ok-price.ensures (c.from-places.ensures ∙ c.decimals.ensures.value) c.in_ok-ticks.ensures)
    (front_count c.in_ok-ticks.fields.now c.in_ok-count.fields.now 32 IsLots c.in_ok-lots.lots c.in_ok-count.count c.in_ok-lots.ensures c.in_ok-count.ensures.spelled)
    c.in_ok-life.ensures
