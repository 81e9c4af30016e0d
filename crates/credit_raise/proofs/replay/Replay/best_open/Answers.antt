-- The best of the other bank's is open where the line pays for a lot and the prices cross; else nothing is.
use Rattle.std.proofs.Common.{ℕ, ◌≡◌, ◌<◌, ◌/◌, List, [], None, arith, refl, sym, subst, ◌∙◌}
use Rattle.fx_amounts.specs.Side.{opposite}
use Rattle.fx_amounts.specs.declared.side.Side.{Side}
use Rattle.fx_rules.specs.declared.orders.Resting.{Resting}
use Rattle.fx_rules.specs.Lists.{Each}
use Rattle.fx_rules.specs.Sweep.{Taker, IsBest, open_in}
use Rattle.fx_rules.specs.Raise.{taker_of_resting}
use Rattle.fx_rules.proofs.ListLemmas.{Each-weaker}
use Rattle.fx_rules.proofs.Planning.{div_none}
use Rattle.global_book.specs.Behind.{owned_behind}
use Rattle.global_book.specs.Book.{AreInTime}
use Rattle.credit_raise.specs.inside.Playing.{IsBestOf, only}
use Rattle.credit_raise.proofs.Looking.{open-none, open-apart, open-best}
use Rattle.credit_raise.proofs.Paying.{pays-one}
use Rattle.credit_raise.proofs.Quiet.{unpaid-closed}
use Rattle.credit_raise.proofs.replay.Replay.best_open.Goals as goal

-- orders that arrived before did so of each side
in_time : (side : Side) (before : ℕ) (orders : List Resting) → Each (λ o. o.arrival < before) orders → AreInTime side before orders
in_time side before orders all = Each-weaker (λ o. o.arrival < before) (λ o. o.side ≡ side → o.arrival < before) (λ o earlier _. earlier) orders all

pub returns-then-self-from : goal.returns-then-self-from
returns-then-self-from g c = record {
  best = unpaid-closed c.args.self.now.pair c.args.other (c.args.self.now.line / c.args.self.now.weight) c.args.order.now c.args.self.now.waiting.orders
      (div_none c.args.self.now.line c.args.self.now.weight (omega (arith, c.if-self-from.true, c.from.ensures)));
  steps = omega arith;
  unlooked = λ listed. refl;
}

pub returns-in_err-maker : goal.returns-in_err-maker
returns-in_err-maker g c =
    let t : Taker = taker_of_resting c.args.self.now.pair c.args.order.now in
    let lots : ℕ = c.args.self.now.line / c.args.self.now.weight in
    let orders : List Resting = c.args.self.now.waiting.orders in
    record {
      best = subst (IsBestOf t.side (open_in (only c.args.other lots) t orders)) (sym c.from_residual.ensures)
          (open-none c.args.other lots t orders
          (subst (λ (s : Side). owned_behind s c.args.other t.arrival None orders ≡ []) c.opposite-side.ensures c.in_err-maker.ensures.best));
      steps = c.best_of.ensures.steps (in_time c.opposite-side.result c.args.order.now.arrival c.args.self.now.waiting.orders c.requires.last);
      unlooked = c.best_of.ensures.unlooked;
    }

pub returns-then-not-crosses : goal.returns-then-not-crosses
returns-then-not-crosses g c =
    let t : Taker = taker_of_resting c.args.self.now.pair c.args.order.now in
    let orders : List Resting = c.args.self.now.waiting.orders in
    let maker : Resting = c.in_ok-maker.maker in
    record {
      best = open-apart c.args.other (c.args.self.now.line / c.args.self.now.weight) t orders maker
          (subst (λ (s : Side). IsBest (opposite s) (owned_behind s c.args.other t.arrival None orders) maker) c.opposite-side.ensures c.in_ok-maker.ensures.best)
          (sym c.crosses.ensures ∙ c.if-not-crosses.true);
      steps = c.best_of.ensures.steps (in_time c.opposite-side.result c.args.order.now.arrival c.args.self.now.waiting.orders c.requires.last);
      unlooked = c.best_of.ensures.unlooked;
    }

pub returns : goal.returns
returns g c =
    let t : Taker = taker_of_resting c.args.self.now.pair c.args.order.now in
    let line : ℕ = c.args.self.now.line in
    let weight : ℕ = c.args.self.now.weight in
    let orders : List Resting = c.args.self.now.waiting.orders in
    let maker : Resting = c.in_ok-maker.maker in
    record {
      best = open-best c.args.other (line / weight) t orders maker
          (pays-one line weight c.requires.weight.0 (omega (arith, c.if-self-from.false, c.from.ensures)))
          c.requires.differ
          (subst (λ (s : Side). IsBest (opposite s) (owned_behind s c.args.other t.arrival None orders) maker) c.opposite-side.ensures c.in_ok-maker.ensures.best)
          (sym c.crosses.ensures ∙ c.if-not-crosses.false);
      steps = c.best_of.ensures.steps (in_time c.opposite-side.result c.args.order.now.arrival c.args.self.now.waiting.orders c.requires.last);
      unlooked = c.best_of.ensures.unlooked;
    }
