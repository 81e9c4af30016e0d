-- The fills are those of the walk; at its end they are the whole sweep.
use Rattle.std.proofs.Common.{ℕ, List, None, slice_index, sym, ap, subst}
use Rattle.fx_rules.specs.declared.orders.Fill.{Fill}
use Rattle.fx_rules.specs.State.{orders_in}
use Rattle.fx_rules.specs.Plan.{Planned}
use Rattle.flat_host.specs.declared.sweep.Walk.{Walk}
use Rattle.flat_host.proofs.Walking.{Went, went-on, went-whole}
use Rattle.flat_host.proofs.sweep.plan_sweep.Goals as goal

pub loop-fill-preserved : goal.loop-fill-preserved
loop-fill-preserved c =
    subst (λ (fills : List Fill). Went c.args.weight c.args.orders.now c.args.lines c.args.taker.now c.next_fill.new.self fills) (sym c.in_ok-push.ensures.items)
    (went-on c.args.weight c.args.orders.now c.args.lines c.args.taker.now c.loop-fill.walk c.next_fill.new.self c.loop-fill.fills.items c.in-Some.fill
    c.loop-fill.invariant c.in-Some.ensures.steps)

pub returns-clause-planned : goal.returns-clause-planned
returns-clause-planned c =
    let planned : List Fill → ℕ → Type 0 = Planned c.args.weight (slice_index c.args.lines) (orders_in c.args.taker.now.pair c.args.orders.now) c.args.taker.now None in
    subst (λ (fills : List Fill). planned fills c.next_fill.new.self.taker.left) (sym c.from_vec.ensures.items)
    (subst (planned c.loop-fill.fills.items) (ap (λ (w : Walk). w.taker.left) (sym c.in_default.ensures.steps.0))
    (went-whole c.args.weight c.args.orders.now c.args.lines c.args.taker.now c.loop-fill.walk c.loop-fill.fills.items c.loop-fill.walk.taker.left
    c.loop-fill.invariant c.in_default.ensures.steps.1))
