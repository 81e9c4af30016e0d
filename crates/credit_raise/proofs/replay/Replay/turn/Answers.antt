-- What waits after the sweep arrived before the order, and is of other commands.
use Rattle.std.proofs.Common.{◌≡◌, ◌<◌, false, sym, subst}
use Rattle.fx_rules.specs.declared.orders.Resting.{Resting}
use Rattle.fx_rules.specs.Lists.{Each}
use Rattle.fx_rules.specs.Sweep.{is_order}
use Rattle.credit_raise.proofs.Lessening.{Each-lessened_all}
use Rattle.credit_raise.proofs.replay.Replay.turn.Goals as goal

pub push-requires-clause-last : goal.push-requires-clause-last
push-requires-clause-last g c =
    let order : Resting = c.args.order.now in
    let swept = c.in_ok-left.ensures.swept in
    subst (Each (λ (o : Resting). o.arrival < order.arrival)) (sym swept.4)
    (Each-lessened_all (λ (o : Resting). o.arrival < order.arrival) (λ o left before. before) c.args.self.now.waiting.orders swept.0 c.requires.last)

pub push-requires-clause-absent : goal.push-requires-clause-absent
push-requires-clause-absent g c =
    let order : Resting = c.args.order.now in
    let swept = c.in_ok-left.ensures.swept in
    subst (Each (λ (o : Resting). is_order order.bank order.number o ≡ false)) (sym swept.4)
    (Each-lessened_all (λ (o : Resting). is_order order.bank order.number o ≡ false) (λ o left other. other) c.args.self.now.waiting.orders swept.0 c.requires.absent)
