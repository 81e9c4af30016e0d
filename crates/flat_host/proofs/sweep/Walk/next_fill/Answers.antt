-- The best order that is open and behind the last is the next that the sweep takes.
use Rattle.std.proofs.Common.{ℕ, length, ◌≡◌, ◌+◌, ◌≤◌, ◌<◌, ◌-◌, ◌*◌, ◌/◌, ◌∷◌, [], List, Some, None, Option, refl, sym, ap, subst, ◌∙◌, arith, get_or, slice_index, min}
use Rattle.std.proofs.Math.ListN.{set}
use Rattle.std.proofs.Math.Nat.{mul-le-mul_left}
use Rattle.fx_rules.specs.declared.orders.ActiveOrder.{ActiveOrder}
use Rattle.fx_rules.specs.declared.orders.Fill.{Fill}
use Rattle.fx_rules.specs.declared.orders.Resting.{Resting}
use Rattle.fx_rules.specs.Lists.{total}
use Rattle.fx_rules.specs.State.{orders_in}
use Rattle.fx_rules.specs.Sweep.{Taker, less}
use Rattle.fx_rules.specs.Plan.{Planned}
use Rattle.fx_rules.proofs.ListLemmas.{total-set}
use Rattle.flat_host.specs.declared.sweep.Walk.{Walk}
use Rattle.flat_host.specs.Walks.{FromHere, StepsOn}
use Rattle.flat_host.proofs.PlanSteps.{best_reach, plan-step, plan-end}
use Rattle.flat_host.proofs.sweep.Walk.next_fill.Goals as goal

reach_same : (lines : List ℕ) (bank place weight divisor : ℕ) → place ≡ bank → divisor ≡ weight → get_or lines bank 0 / weight ≡ get_or lines place 0 / divisor
reach_same lines bank place weight divisor p d = ap (λ b. get_or lines b 0 / weight) (sym p) ∙ ap (λ w. get_or lines place 0 / w) (sym d)

lines_same : (lines : List ℕ) (bank to from lots count weight times : ℕ) → to ≡ bank → from ≡ bank → count ≡ lots → times ≡ weight → set lines to (get_or lines from 0 - count * times) ≡ set lines bank (get_or lines bank 0 - lots * weight)
lines_same lines bank to from lots count weight times t f c w = cc

least_le : (a b r : ℕ) → min a (min b r) ≤ r
least_le a b r = omega arith

amount_fits : (a b line weight : ℕ) → 1 ≤ weight → min a (min b (line / weight)) * weight ≤ line
amount_fits a b line weight some = omega (arith, mul-le-mul_left weight (least_le a b (line / weight)))

-- a fill's lots are paid for by what its line falls
paid_step : (lines lines' : List ℕ) (bank lots weight : ℕ) → lines' ≡ set lines bank (get_or lines bank 0 - lots * weight) → bank < length lines → lots * weight ≤ get_or lines bank 0 → 1 ≤ weight → lots + total (λ (n : ℕ). n) lines' ≤ total (λ (n : ℕ). n) lines
paid_step lines lines' bank lots weight is within fits some =
    let fell : total (λ (n : ℕ). n) lines' ≡ total (λ (n : ℕ). n) (set lines bank (get_or lines bank 0 - lots * weight)) = ap (total (λ (n : ℕ). n)) is in
    omega (arith, total-set (λ n. n) lines bank (get_or lines bank 0 - lots * weight) 0 within, mul-le-mul_left lots some)

at_end : (weight : ℕ) (orders : List ActiveOrder) (walk : Walk) (step : Option Fill) → step ≡ None → FromHere weight orders walk [] walk.taker.left → StepsOn weight orders walk walk step
at_end weight orders walk step is from = subst (StepsOn weight orders walk walk) (sym is) (refl, from)

pub amount-lots-requires-clause-reach : goal.amount-lots-requires-clause-reach
amount-lots-requires-clause-reach c =
    subst (λ n. 1 ≤ n)
    (reach_same c.args.self.now.lines c.in_ok-maker.maker.bank c.index.result c.args.weight c.from.result c.index.ensures.value c.from.ensures)
    (best_reach c.args.weight c.args.self.now.lines c.args.self.now.taker c.args.self.now.last c.args.orders.now c.in_ok-maker.maker c.in_ok-maker.ensures.best)

pub returns-in_err-maker : goal.returns-in_err-maker
returns-in_err-maker c = record {
  steps = at_end c.args.weight c.args.orders.now c.args.self.now c.from_residual.result c.from_residual.ensures
      (plan-end c.args.weight c.args.self.now.lines c.args.orders.now c.args.self.now.taker c.args.self.now.last c.in_err-maker.ensures.best);
}

pub returns : goal.returns
returns c =
    let walk : Walk = c.args.self.now in
    let t : Taker = walk.taker in
    let maker : Resting = c.in_ok-maker.maker in
    let lots : ℕ = c.amount-lots.result in
    let weight : ℕ = c.args.weight in
    let some_left : 1 ≤ t.left = omega (arith, c.if-self-eq0.false) in
    let within : maker.bank < length walk.lines = omega (arith, c.index.ensures.most, c.index.ensures.value) in
    let lots_are : lots ≡ min t.left (min maker.left (get_or walk.lines maker.bank 0 / weight)) =
    c.amount-lots.ensures.value
    ∙ ap (λ n. min t.left (min maker.left n)) (sym (reach_same walk.lines maker.bank c.index.result weight c.from.result c.index.ensures.value c.from.ensures)) in
    let same_lines : set walk.lines c.index-2.result (get_or walk.lines c.index.result 0 - c.from-2.result * c.from-3.result) ≡ set walk.lines maker.bank (get_or walk.lines maker.bank 0 - lots * weight) =
    lines_same walk.lines maker.bank c.index-2.result c.index.result lots c.from-2.result weight c.from-3.result
    c.index-2.ensures.value c.index.ensures.value (c.from-2.ensures ∙ c.count.ensures.value) c.from-3.ensures in
    let fill_lots : c.fill_with-fill.result.lots ≡ lots = ap (λ (f : Fill). f.lots) c.fill_with-fill.ensures.value in
    let count : c.from-4.result ≡ lots = c.from-4.ensures ∙ c.count-2.ensures.value in
    record {
      steps = record {
        goes_on = λ more left planned.
            let next : List ℕ → ℕ → Type 0 = λ (l : List ℕ) n.
            Planned weight (slice_index l) (orders_in t.pair c.args.orders.now) (less t n) (Some maker) more left in
            let here : next (set walk.lines maker.bank (get_or walk.lines maker.bank 0 - lots * weight)) lots =
            subst (next (set walk.lines maker.bank (get_or walk.lines maker.bank 0 - lots * weight))) count
            (subst (λ l. next l c.from-4.result) same_lines planned) in
            subst (λ (f : Fill). FromHere weight c.args.orders.now walk (f ∷ more) left) (sym c.fill_with-fill.ensures.value)
            (plan-step weight walk.lines c.args.orders.now t walk.last maker lots more left some_left c.in_ok-maker.ensures.best lots_are within here);
        some = omega (arith, fill_lots, c.count-2.ensures.least, c.count-2.ensures.value);
        wants = omega (arith, fill_lots, count, lots_are);
        paid = subst (λ n. n + total (λ (line : ℕ). line) (set walk.lines c.index-2.result (get_or walk.lines c.index.result 0 - c.from-2.result * c.from-3.result)) ≤ total (λ (line : ℕ). line) walk.lines) (sym fill_lots)
            (paid_step walk.lines _ maker.bank lots weight same_lines within
            (subst (λ n. n * weight ≤ get_or walk.lines maker.bank 0) (sym lots_are) (amount_fits t.left maker.left (get_or walk.lines maker.bank 0) weight c.requires.weight))
            c.requires.weight);
      };
    }
