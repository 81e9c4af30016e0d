-- One more order's lots are added where it is against the side.
use Rattle.std.proofs.Common.{ℕ, ◌≡◌, ◌+◌, ◌<◌, Bool, true, false, ◌&&◌, eqb, List, [], ◌∷◌, ◌++◌, arith, sym, ap, ◌∙◌, take, length, get_or}
use Rattle.std.specs.List.{filter}
use Rattle.fx_amounts.specs.declared.side.Side.{Side}
use Rattle.fx_rules.specs.declared.orders.ActiveOrder.{ActiveOrder}
use Rattle.fx_rules.specs.declared.orders.Resting.{Resting}
use Rattle.fx_rules.specs.Lists.{total}
use Rattle.fx_rules.specs.State.{orders_in}
use Rattle.fx_rules.specs.Sweep.{is_opposite}
use Rattle.fx_rules.proofs.ListLemmas.{total-append}
use Rattle.flat_host.proofs.Searching.{chosen, chosen-yes, chosen-no, chosen-both}
use Rattle.flat_host.proofs.depth.lots_against.Goals as goal
use Rattle.flat_host.proofs.depth.lots_against.Goals.{then-is_against, else-is_against}

test : ℕ → Side → ActiveOrder → Bool
test pair side a = eqb a.pair pair && is_opposite side a.order.side

sum : ℕ → Side → List ActiveOrder → ℕ
sum pair side orders = total (λ (o : Resting). o.left) (filter (λ (o : Resting). is_opposite side o.side) (orders_in pair orders))

sum-chosen : (pair : ℕ) (side : Side) (orders : List ActiveOrder) → sum pair side orders ≡ total (λ (o : Resting). o.left) (chosen (test pair side) orders)
unfolding sum test
sum-chosen pair side orders = ap (total (λ (o : Resting). o.left)) (sym (chosen-both (λ (a : ActiveOrder). eqb a.pair pair) (λ (o : Resting). is_opposite side o.side) orders))

sum-yes : (pair : ℕ) (side : Side) (orders : List ActiveOrder) (i : ℕ) (a : ActiveOrder) → i < length orders → a ≡ get_or orders i a → test pair side a ≡ true → sum pair side (take (i + 1) orders) ≡ sum pair side (take i orders) + a.order.left
sum-yes pair side orders i a within is passes =
    let made : total (λ (o : Resting). o.left) (chosen (test pair side) (take i orders) ++ a.order ∷ []) ≡ total (λ (o : Resting). o.left) (chosen (test pair side) (take i orders)) + (a.order.left + 0) =
    total-append (λ (o : Resting). o.left) (chosen (test pair side) (take i orders)) (a.order ∷ []) in
    let next = ap (total (λ (o : Resting). o.left)) (chosen-yes (test pair side) orders i a within is passes) in
    omega (arith, sum-chosen pair side (take (i + 1) orders), sum-chosen pair side (take i orders), next)

sum-no : (pair : ℕ) (side : Side) (orders : List ActiveOrder) (i : ℕ) (a : ActiveOrder) → i < length orders → a ≡ get_or orders i a → test pair side a ≡ false → sum pair side (take (i + 1) orders) ≡ sum pair side (take i orders)
sum-no pair side orders i a within is fails =
    sum-chosen pair side (take (i + 1) orders)
    ∙ ap (total (λ (o : Resting). o.left)) (chosen-no (test pair side) orders i a within is fails)
    ∙ sym (sum-chosen pair side (take i orders))

pub loop-active-preserved : goal.loop-active-preserved
unfolding sum test
loop-active-preserved c =
    let a : ActiveOrder = c.active-item.result in
    let i : ℕ = c.loop-active.active-index in
    elim c.if-is_against.branch [
      | then-is_against w ↦
          let more : sum c.args.pair c.args.side (take (i + 1) c.args.orders.now) ≡ sum c.args.pair c.args.side (take i c.args.orders.now) + a.order.left =
          sum-yes c.args.pair c.args.side c.args.orders.now i a c.loop-active-test.true c.active-item.is (sym c.is_against.ensures.value ∙ w.if-is_against.true) in
          record {
            lots = w.lots-is ∙ ap (λ n. c.loop-active.lots + n) (w.from-lots.ensures ∙ w.count.ensures.value)
                ∙ ap (λ n. n + a.order.left) c.loop-active.invariant.lots ∙ sym more;
            most = omega (arith, w.lots-is, w.from-lots.ensures, w.count.ensures.most, c.loop-active.invariant.most);
          }
      | else-is_against w ↦ record {
        lots = w.lots-is ∙ c.loop-active.invariant.lots
            ∙ sym (sum-no c.args.pair c.args.side c.args.orders.now i a c.loop-active-test.true c.active-item.is (sym c.is_against.ensures.value ∙ w.if-is_against.false));
        most = omega (arith, w.lots-is, c.loop-active.invariant.most);
      }
    ]
