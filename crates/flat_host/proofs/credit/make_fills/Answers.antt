-- After each fill, what is left to carry out leads where it led before.
use Rattle.std.proofs.Common.{ℕ, suc, ◌≡◌, ◌<◌, ◌+◌, ◌*◌, List, ◌∷◌, arith, sym, ap, ◌∙◌, drop, get_or, length, add-one}
use Rattle.std.proofs.Math.Seq.{drop-cons}
use Rattle.fx_rules.specs.declared.orders.Fill.{Fill}
use Rattle.fx_rules.specs.declared.orders.ActiveOrder.{ActiveOrder}
use Rattle.fx_rules.specs.Sweep.{lowered}
use Rattle.flat_host.specs.FlatState.{FlatCredit}
use Rattle.flat_host.specs.Parts.{both_lowered, use_raised, credit_after}
use Rattle.flat_host.proofs.credit.make_fills.Goals as goal

pub dropped : (fills : List Fill) (i : ℕ) (fill : Fill) → i < length fills → fill ≡ get_or fills i fill → drop i fills ≡ fill ∷ drop (i + 1) fills
dropped fills i fill within is =
    drop-cons fills i fill within ∙ ap (λ (f : Fill). f ∷ drop (suc i) fills) (sym is) ∙ ap (λ n. fill ∷ drop n fills) (sym (add-one i))

pub loop-fill-preserved : goal.loop-fill-preserved
loop-fill-preserved c =
    let i : ℕ = c.loop-fill.fill-index in
    let fill : Fill = c.fill-item.result in
    let rest : List Fill = drop (i + 1) c.args.fills.now in
    let weights : List ℕ = c.args.weights.now in
    let credit : FlatCredit = c.loop-fill.credit in
    let here : drop i c.args.fills.now ≡ fill ∷ rest = dropped c.args.fills.now i fill c.loop-fill-test.true c.fill-item.is in
    let units : c.from.result * c.from-in-loop-fill.result ≡ fill.lots * get_or weights fill.pair 0 =
    ap (λ n. n * c.from-in-loop-fill.result) (c.from.ensures ∙ c.count.ensures.value)
    ∙ ap (λ n. fill.lots * n) (c.from-in-loop-fill.ensures ∙ c.weight_of-weight.ensures.value) in
    let new : c.raise_use.new.self ≡ use_raised credit fill.taker fill.maker (fill.lots * get_or weights fill.pair 0) =
    c.raise_use.ensures.raised ∙ ap (use_raised credit fill.taker fill.maker) units in
    record {
      orders =
          ap (λ (os : List ActiveOrder). both_lowered os rest)
          (c.lower-in-loop-fill.ensures.orders ∙ ap (lowered fill.taker fill.taker_number fill.lots) c.lower.ensures.orders)
          ∙ ap (both_lowered c.loop-fill.orders.items) (sym here) ∙ c.loop-fill.invariant.orders;
      len = omega (arith, c.lower.ensures.len, c.lower-in-loop-fill.ensures.len, c.loop-fill.invariant.len);
      room = c.lower-in-loop-fill.ensures.room ∙ c.lower.ensures.room ∙ c.loop-fill.invariant.room;
      credit =
          ap (λ (after : FlatCredit). credit_after weights after rest) new
          ∙ ap (credit_after weights credit) (sym here) ∙ c.loop-fill.invariant.credit;
    }
