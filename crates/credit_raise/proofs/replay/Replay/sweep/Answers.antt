-- Each turn of the loop is one fill; at the end nothing is left, or nothing more is open.
use Rattle.std.proofs.Common.{ℕ, ◌≡◌, ◌<◌, ◌-◌, ◌*◌, ◌/◌, ◌++◌, ◌∷◌, [], List, length, length-append, refl, sym, ap, subst, ◌∙◌, arith, inl, inr, min, append_assoc, append-nil}
use Rattle.std.proofs.Math.Nat.{le-div_iff_mul-le}
use Rattle.fx_rules.specs.declared.orders.Fill.{Fill}
use Rattle.fx_rules.specs.declared.orders.Resting.{Resting}
use Rattle.fx_rules.specs.Lists.{Each}
use Rattle.fx_rules.specs.Sweep.{Taker, fill_with}
use Rattle.fx_rules.specs.Raise.{taker_of_resting}
use Rattle.credit_raise.specs.inside.Playing.{SweptAmong, lessened}
use Rattle.credit_raise.proofs.Lessening.{Each-lessened_all}
use Rattle.credit_raise.proofs.Playing.{paid-append, lessened_all-append, maker-of, sweep-step, one_more}
use Rattle.credit_raise.proofs.replay.Replay.sweep.Goals as goal

pub loop-left-init : goal.loop-left-init
loop-left-init g c = record {
  most = c.count-left.ensures.most;
  own = [];
  fills = sym (append-nil c.args.self.now.fills.items);
  line = refl;
  orders = refl;
  weight = refl;
  banks = refl;
  listed = refl;
  unlooked = λ listed. refl;
  pair = refl;
  steps = omega arith;
  goes_on = λ more left swept.
      subst (λ n. SweptAmong c.args.self.now.weight c.args.other c.args.self.now.line c.args.self.now.waiting.orders (taker_of_resting c.args.self.now.pair (record c.args.order.now { left = n })) more left)
      c.count-left.ensures.value swept;
}

pub best_open-requires-clause-last : goal.best_open-requires-clause-last
best_open-requires-clause-last g c =
    let order : Resting = c.args.order.now in
    subst (Each (λ (o : Resting). o.arrival < order.arrival)) (sym c.loop-left.invariant.orders)
    (Each-lessened_all (λ (o : Resting). o.arrival < order.arrival) (λ o left before. before) c.args.self.now.waiting.orders c.loop-left.invariant.own c.requires.last)

pub amount_by_line-lots-requires-clause-line : goal.amount_by_line-lots-requires-clause-line
amount_by_line-lots-requires-clause-line g c =
    let line : ℕ = c.loop-left.self.line in
    let weight : ℕ = c.loop-left.self.weight in
    let maker = maker-of (line / weight) c.args.other (taker_of_resting c.loop-left.self.pair c.args.order.now) c.loop-left.self.waiting.orders c.in-Some.maker c.in-Some.ensures.best.there in
    omega (arith, (le-div_iff_mul-le {k = weight} {x = 1} {y = line} (omega (arith, c.requires.weight.0, c.loop-left.invariant.weight))).0 maker.reached)

pub amount_by_line-lots-requires-clause-left : goal.amount_by_line-lots-requires-clause-left
amount_by_line-lots-requires-clause-left g c = omega (arith, c.loop-left-test.true, ap (λ (t : Taker). t.left) c.swept-taker.ensures.value)

pub loop-left-preserved : goal.loop-left-preserved
loop-left-preserved g c =
    let was = c.loop-left.invariant in
    let order : Resting = c.args.order.now in
    let maker : Resting = c.in-Some.maker in
    let lots : ℕ = c.amount_by_line-lots.result in
    let weight : ℕ = c.loop-left.self.weight in
    let line : ℕ = c.loop-left.self.line in
    let pair : ℕ = c.loop-left.self.pair in
    let t : Taker = taker_of_resting pair (record order { left = c.loop-left.left }) in
    let f : Fill = fill_with t maker lots in
    let own : List Fill = was.own ++ f ∷ [] in
    let lots_is : lots ≡ min c.loop-left.left (min maker.left (line / weight)) =
    c.amount_by_line-lots.ensures.value ∙ ap (λ (k : Taker). min k.left (min maker.left (line / weight))) c.swept-taker.ensures.value in
    record {
      most = omega (arith, was.most);
      own = own;
      fills = c.in_ok-trade.ensures.fills ∙ ap (λ (k : Taker). c.loop-left.self.fills.items ++ fill_with k maker lots ∷ []) c.swept-taker.ensures.value
          ∙ ap (λ (fs : List Fill). fs ++ f ∷ []) was.fills ∙ append_assoc c.args.self.now.fills.items was.own (f ∷ []);
      line = c.in_ok-trade.ensures.line
          ∙ ap (λ n. line - lots * n) was.weight
          ∙ ap (λ n. n - lots * c.args.self.now.weight) was.line
          ∙ sym (paid-append c.args.self.now.weight c.args.self.now.line was.own (f ∷ []));
      orders = c.in_ok-trade.ensures.orders
          ∙ ap (lessened maker.bank maker.number lots) was.orders
          ∙ sym (lessened_all-append c.args.self.now.waiting.orders was.own (f ∷ []));
      weight = c.trade.ensures.weight ∙ was.weight;
      banks = c.trade.ensures.banks ∙ was.banks;
      listed = c.trade.ensures.listed ∙ was.listed;
      unlooked = λ listed. c.best_open.ensures.unlooked (was.listed ∙ listed) ∙ was.unlooked listed;
      pair = c.trade.ensures.pair ∙ was.pair;
      steps = omega (
        arith,
        was.steps,
        c.best_open.ensures.steps,
        ap length c.in_ok-trade.ensures.fills,
        length-append c.loop-left.self.fills.items (fill_with c.swept-taker.result maker lots ∷ []),
      );
      goes_on = λ more left swept.
          subst (λ (fs : List Fill). SweptAmong c.args.self.now.weight c.args.other c.args.self.now.line c.args.self.now.waiting.orders (taker_of_resting c.args.self.now.pair order) fs left)
          (sym (one_more was.own more f))
          (was.goes_on (f ∷ more) left
          (sweep-step weight c.args.other line c.loop-left.self.waiting.orders t maker lots more left c.trade.new.self.line c.trade.new.self.waiting.orders
          (omega (arith, c.loop-left-test.true)) c.in-Some.ensures.best lots_is c.in_ok-trade.ensures.line c.in_ok-trade.ensures.orders
          (subst (λ n. SweptAmong weight c.args.other c.trade.new.self.line c.trade.new.self.waiting.orders (taker_of_resting pair (record order { left = c.loop-left.left - n })) more left) c.count-left-in-loop-left.ensures.value
          (subst (λ n. SweptAmong weight c.args.other c.trade.new.self.line c.trade.new.self.waiting.orders (taker_of_resting n (record order { left = c.loop-left.left - c.count-left-in-loop-left.result })) more left) c.trade.ensures.pair
          (subst (λ n. SweptAmong n c.args.other c.trade.new.self.line c.trade.new.self.waiting.orders (taker_of_resting c.trade.new.self.pair (record order { left = c.loop-left.left - c.count-left-in-loop-left.result })) more left) c.trade.ensures.weight swept)))));
    }

pub returns-after-loop-left-clause-swept : goal.returns-after-loop-left-clause-swept
returns-after-loop-left-clause-swept g c =
    let was = c.loop-left.invariant in (
      was.own,
      subst (λ (fs : List Fill). SweptAmong c.args.self.now.weight c.args.other c.args.self.now.line c.args.self.now.waiting.orders (taker_of_resting c.args.self.now.pair c.args.order.now) fs c.loop-left.left) (append-nil was.own)
          (was.goes_on [] c.loop-left.left (refl, inl (omega (arith, c.loop-left-test.false)))),
      was.fills,
      was.line,
      was.orders,
    )

pub returns-in_default-clause-swept : goal.returns-in_default-clause-swept
returns-in_default-clause-swept g c =
    let was = c.loop-left.invariant in (
      was.own,
      subst (λ (fs : List Fill). SweptAmong c.args.self.now.weight c.args.other c.args.self.now.line c.args.self.now.waiting.orders (taker_of_resting c.args.self.now.pair c.args.order.now) fs c.loop-left.left) (append-nil was.own)
          (was.goes_on [] c.loop-left.left (refl, inr c.in_default.ensures.best)),
      was.fills,
      was.line,
      was.orders,
    )
