-- One more order is as it has to be.
use Rattle.std.proofs.Common.{ℕ, zero, suc, ◌≡◌, ◌+◌, ◌<◌, cond, List, [], ◌∷◌, ◌++◌, arith, refl, sym, ap, ◌∙◌, take, drop, length, get_or, add-one}
use Rattle.std.proofs.Math.ListN.{set}
use Rattle.std.proofs.lemmas.Bool.{cond-true, cond-false}
use Rattle.fx_rules.specs.declared.orders.ActiveOrder.{ActiveOrder}
use Rattle.fx_rules.specs.Sweep.{is_order, with_left}
use Rattle.fx_rules.specs.Step.{reduced}
use Rattle.flat_host.proofs.changes.leave_lots.Goals as goal
use Rattle.flat_host.proofs.changes.leave_lots.Goals.{then-is_order, else-is_order}

-- the orders of which the first are reduced
abbrev part : ℕ → ℕ → ℕ → ℕ → List ActiveOrder → List ActiveOrder
part bank number left i orders = reduced bank number left (take i orders) ++ drop i orders

part_next : (bank number left : ℕ) (orders : List ActiveOrder) (i : ℕ) (x : ActiveOrder) → i < length orders → set (part bank number left i orders) i (cond (is_order bank number (get_or (part bank number left i orders) i x).order) (with_left (get_or (part bank number left i orders) i x) left) (get_or (part bank number left i orders) i x)) ≡ part bank number left (suc i) orders
part_next bank number left [] i x within = absurd (omega arith)
part_next bank number left (a ∷ orders) zero x within = refl
part_next bank number left (a ∷ orders) (suc i) x within =
    ap (λ (os : List ActiveOrder). cond (is_order bank number a.order) (with_left a left) a ∷ os) (part_next bank number left orders i x (omega arith))

part_same : (bank number left : ℕ) (orders now : List ActiveOrder) (i : ℕ) (x : ActiveOrder) → i < length orders → now ≡ part bank number left i orders → set now i (cond (is_order bank number (get_or now i x).order) (with_left (get_or now i x) left) (get_or now i x)) ≡ part bank number left (i + 1) orders
part_same bank number left orders now i x within is =
    ap (λ (os : List ActiveOrder). set os i (cond (is_order bank number (get_or os i x).order) (with_left (get_or os i x) left) (get_or os i x))) is
    ∙ part_next bank number left orders i x within
    ∙ ap (λ n. part bank number left n orders) (sym (add-one i))

pub loop-active-preserved : goal.loop-active-preserved
loop-active-preserved c =
    let i : ℕ = c.loop-active.active-index in
    let x : ActiveOrder = get_or c.loop-active.orders i c.active-item.result in
    let next : set c.loop-active.orders i (cond (is_order c.args.bank c.args.number x.order) (with_left x c.args.left) x) ≡ part c.args.bank c.args.number c.args.left (i + 1) c.args.orders.now =
    part_same c.args.bank c.args.number c.args.left c.args.orders.now c.loop-active.orders i c.active-item.result c.loop-active-test.true c.loop-active.invariant in
    elim c.if-is_order.branch [
      | then-is_order w ↦
          w.orders-is
          ∙ ap (set c.loop-active.orders i) (sym (cond-true (is_order c.args.bank c.args.number x.order) (with_left x c.args.left) x (sym c.is_order.ensures.value ∙ w.if-is_order.true)))
          ∙ next
      | else-is_order w ↦
          w.orders-is
          ∙ ap (set c.loop-active.orders i) (sym (cond-false (is_order c.args.bank c.args.number x.order) (with_left x c.args.left) x (sym c.is_order.ensures.value ∙ w.if-is_order.false)))
          ∙ next
    ]
