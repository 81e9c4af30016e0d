use Rattle.std.proofs.Common.{List, length, ap, arith}
use Rattle.fx_rules.specs.declared.orders.Fill.{Fill}
use Rattle.day_report.specs.Trades.{lots_in}
use Rattle.made_session.proofs.TotalsLemmas.{one_more}
use Rattle.made_session.proofs.sums.add_up.Goals as goal

pub overflow_add-sums : goal.overflow_add-sums
overflow_add-sums c =
    let more = one_more c.requires.legal.0 c.args.entries.now c.loop-entry.entry-index c.entry-item.result c.requires.legal.1 c.loop-entry-test.true c.entry-item.is in
    omega (arith, c.loop-entry.invariant.0, more.fills, more.fits.fills, ap (λ (fs : List Fill). length fs) c.fills-fills.ensures.fills)

pub lots_of-requires : goal.lots_of-requires
lots_of-requires c =
    let more = one_more c.requires.legal.0 c.args.entries.now c.loop-entry.entry-index c.entry-item.result c.requires.legal.1 c.loop-entry-test.true c.entry-item.is in
    record { fit = omega (arith, more.lots, more.fits.lots, ap lots_in c.fills-fills.ensures.fills) }

pub overflow_add-sums-in-loop-entry : goal.overflow_add-sums-in-loop-entry
overflow_add-sums-in-loop-entry c =
    let more = one_more c.requires.legal.0 c.args.entries.now c.loop-entry.entry-index c.entry-item.result c.requires.legal.1 c.loop-entry-test.true c.entry-item.is in
    omega (arith, c.loop-entry.invariant.1, more.lots, more.fits.lots, ap lots_in c.fills-fills.ensures.fills, c.lots_of.ensures.value)

pub loop-entry-preserved : goal.loop-entry-preserved
loop-entry-preserved c =
    let more = one_more c.requires.legal.0 c.args.entries.now c.loop-entry.entry-index c.entry-item.result c.requires.legal.1 c.loop-entry-test.true c.entry-item.is in (
      omega (arith, c.loop-entry.invariant.0, more.fills, ap (λ (fs : List Fill). length fs) c.fills-fills.ensures.fills),
      omega (arith, c.loop-entry.invariant.1, more.lots, ap lots_in c.fills-fills.ensures.fills, c.lots_of.ensures.value),
    )
