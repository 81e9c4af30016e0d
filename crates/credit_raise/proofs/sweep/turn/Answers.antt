-- A turn's fills are none, or those of the sweep that is found.
use Rattle.std.proofs.Common.{ap, ◌∙◌, arith}
use Rattle.fx_rules.specs.Sweep.{Taker}
use Rattle.credit_raise.proofs.Turning.{found-within, turn-gone, turn-here}
use Rattle.credit_raise.proofs.sweep.turn.Goals as goal

pub returns-in_default-clause-turned : goal.returns-in_default-clause-turned
returns-in_default-clause-turned g c =
    turn-gone c.args.book.now c.args.lines.now c.args.weight c.args.order.now c.find.result c.from_vec.result c.find.ensures.order c.in_default.is
    (c.from_vec.ensures.items ∙ c.new.ensures.items)

pub sweep-requires-clause-bank : goal.sweep-requires-clause-bank
sweep-requires-clause-bank g c =
    let within = found-within c.args.book.now c.args.order.now.bank c.args.order.now.number c.find.result c.in-Some.now c.find.ensures.valid c.find.ensures.order c.in-Some.is in
    omega (arith, within, c.requires.banks, ap (λ (t : Taker). t.bank) c.of_resting-taker.ensures.value)

pub returns-clause-turned : goal.returns-clause-turned
returns-clause-turned g c =
    turn-here c.args.book.now c.args.lines.now c.args.weight c.args.order.now c.in-Some.now c.of_resting-taker.result c.find.result c.in_ok-sweep.sweep.fills c.in_ok-sweep.sweep.left c.pair.result
    c.find.ensures.order c.in-Some.is c.pair.ensures.value c.of_resting-taker.ensures.value c.in_ok-sweep.ensures.sweep
