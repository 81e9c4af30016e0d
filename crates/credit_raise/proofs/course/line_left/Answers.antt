-- Each fill takes its cost.
use Rattle.std.proofs.Common.{ℕ, ◌≡◌, ◌+◌, ◌*◌, ◌<◌, List, ◌∷◌, ap, sym, ◌∙◌, arith, length, get_or, drop}
use Rattle.std.proofs.Math.Nat.{add-mul}
use Rattle.std.proofs.lemmas.List.{drop_more}
use Rattle.fx_rules.specs.declared.orders.Fill.{Fill}
use Rattle.credit_raise.specs.Two.{lots_of}
use Rattle.credit_raise.proofs.course.line_left.Goals as goal

cost_next : (fills : List Fill) (i : ℕ) (f : Fill) (weight : ℕ) → i < length fills → f ≡ get_or fills i f → lots_of (drop i fills) * weight ≡ f.lots * weight + lots_of (drop (i + 1) fills) * weight
cost_next fills i f weight within is =
    ap (λ (fs : List Fill). lots_of fs * weight) (drop_more fills i f within ∙ ap (λ (g : Fill). g ∷ drop (i + 1) fills) (sym is))
    ∙ add-mul f.lots (lots_of (drop (i + 1) fills)) weight

pub loop-fill-preserved : goal.loop-fill-preserved
loop-fill-preserved c =
    let next = cost_next c.args.fills.now c.loop-fill.fill-index c.fill-item.result c.args.weight c.loop-fill-test.true c.fill-item.is in
    omega (arith, next, c.left_of-left.ensures.value, c.cost.ensures, c.loop-fill.invariant)
