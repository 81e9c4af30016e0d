use Rattle.std.proofs.Common.{◌-◌, arith}
use Rattle.fx_amounts.proofs.DigitLemmas.{below-room}
use Rattle.order_lines.proofs.FrontNumbers.{around_price, around_whole}
use Rattle.order_lines.proofs.fronts.ticks_before.Goals as goal

pub returns-then-places-eq0 : goal.returns-then-places-eq0
returns-then-places-eq0 c = around_whole c.args.text.now c.in_ok-ticks.behind.now c.args.places c.in_ok-ticks.ticks c.args.end (omega arith) c.in_ok-ticks.ensures.spelled

pub places_from-requires-clause-fits : goal.places_from-requires-clause-fits
places_from-requires-clause-fits c = below-room c.in_ok-whole.whole 10 (19 - c.args.places) c.in_ok-whole.ensures.below (omega arith)

pub returns : goal.returns
returns c =
    around_price c.args.text.now c.in_ok-whole.fraction.now c.in_ok-behind.behind.now c.args.places c.in_ok-whole.whole c.in_ok-ticks-2.ticks c.args.end (omega arith)
    c.in_ok-whole.ensures.spelled c.in_ok-behind.ensures c.in_ok-ticks-2.ensures.within c.in_ok-ticks-2.ensures.digits c.in_ok-ticks-2.ensures.value
