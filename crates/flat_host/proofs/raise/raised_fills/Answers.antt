-- Each pair goes on with the pairs behind it.
use Rattle.std.proofs.Common.{ℕ, zero, suc, ◌≡◌, ◌+◌, ◌-◌, ◌≤◌, List, [], ◌++◌, arith, refl, sym, ap, subst, ◌∙◌, length, append_assoc, append-nil}
use Rattle.fx_rules.specs.declared.orders.ActiveOrder.{ActiveOrder}
use Rattle.fx_rules.specs.declared.orders.Fill.{Fill}
use Rattle.fx_rules.specs.State.{orders_in}
use Rattle.flat_host.specs.FlatState.{FlatCredit}
use Rattle.flat_host.specs.Parts.{credit_after}
use Rattle.fx_rules.specs.inside.Orders.{in_pair}
use Rattle.flat_host.specs.Turns.{TurnedIn, RaisedIn}
use Rattle.flat_host.proofs.raise.raised_fills.Goals as goal

-- a pair's turns, and the pairs behind it
raised_more : (weights : List ℕ) (orders : List ActiveOrder) (pairs place pair : ℕ) (credit : FlatCredit) (own more : List Fill) → pair ≡ place → 1 ≤ pairs → TurnedIn weights pair (in_pair pair orders) credit (orders_in pair orders) own → RaisedIn weights orders (pairs - 1) (place + 1) (credit_after weights credit own) more → RaisedIn weights orders pairs place credit (own ++ more)
raised_more weights orders zero place pair credit own more is some turned rest = absurd (omega arith)
raised_more weights orders (suc pairs) place pair credit own more is some turned rest = (
  own,
  more,
  subst (λ p. TurnedIn weights p (in_pair p orders) credit (orders_in p orders) own) is turned,
  refl,
  subst (λ n. RaisedIn weights orders n (place + 1) (credit_after weights credit own) more) (let one : suc pairs - 1 ≡ pairs = omega arith in one) rest,
)

pub loop-place-preserved : goal.loop-place-preserved
loop-place-preserved c =
    let weights : List ℕ = c.args.weights.now in
    let orders : List ActiveOrder = c.args.orders.now in
    let place : ℕ = c.loop-place.place in
    let own : List Fill = c.in_ok-own.own.items in
    let fills : c.extend_from_slice.new.self.items ≡ c.loop-place.fills.items ++ own = c.in_ok-extend_from_slice.ensures.items ∙ ap (λ (fs : List Fill). c.loop-place.fills.items ++ fs) c.deref.ensures.value in
    let credit : c.pair_turns.new.credit ≡ credit_after weights c.loop-place.credit own = c.in_ok-own.ensures.credit in
    λ more rest.
    subst (RaisedIn weights orders (length weights) 0 c.args.credit.now)
    (sym (ap (λ (fs : List Fill). fs ++ more) fills ∙ append_assoc c.loop-place.fills.items own more))
    (c.loop-place.invariant (own ++ more)
    (raised_more weights orders (length weights - place) place c.at.result c.loop-place.credit own more c.at.ensures.value
    (omega (arith, c.loop-place-test.true)) c.in_ok-own.ensures.turned
    (subst (λ (after : FlatCredit). RaisedIn weights orders (length weights - place - 1) (place + 1) after more) credit
    (subst (λ n. RaisedIn weights orders n (place + 1) c.pair_turns.new.credit more) (let less' : length weights - (place + 1) ≡ length weights - place - 1 = omega arith in less') rest))))

-- no pair is left
raised_end : (weights : List ℕ) (orders : List ActiveOrder) (pairs place : ℕ) (credit : FlatCredit) → pairs ≡ 0 → RaisedIn weights orders pairs place credit []
raised_end weights orders pairs place credit none = subst (λ n. RaisedIn weights orders n place credit []) (sym none) refl

pub returns : goal.returns
returns c = record {
  raised = subst (RaisedIn c.args.weights.now c.args.orders.now (length c.args.weights.now) 0 c.args.credit.now)
      (append-nil c.loop-place.fills.items ∙ sym c.from_vec.ensures.items)
      (c.loop-place.invariant []
      (raised_end c.args.weights.now c.args.orders.now (length c.args.weights.now - c.loop-place.place) c.loop-place.place c.loop-place.credit
      (omega (arith, c.loop-place-test.false))));
}
