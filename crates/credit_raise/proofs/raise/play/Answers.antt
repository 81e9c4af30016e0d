-- Each turn goes on with the turns behind it, until none is left or the line pays for nothing more.
use Rattle.std.proofs.Common.{ℕ, ◌≡◌, ◌≢◌, ◌+◌, ◌++◌, [], List, refl, sym, ap, subst, ◌∙◌, arith, inl, inr, drop, length, append_assoc, append-nil}
use Rattle.std.proofs.lemmas.List.{drop_all}
use Rattle.fx_rules.specs.declared.orders.Fill.{Fill}
use Rattle.fx_rules.specs.declared.orders.Resting.{Resting}
use Rattle.fx_rules.specs.Lists.{Each}
use Rattle.fx_rules.specs.Sound.{ArrivesBefore}
use Rattle.fx_rules.proofs.Planning.{div_none}
use Rattle.credit_raise.specs.inside.Playing.{Played, joined, lessened_all}
use Rattle.credit_raise.proofs.Playing.{IsNext, played-turn, turn-next, turns-behind, before-earlier, before-absent, before-joined}
use Rattle.credit_raise.proofs.Walking.{other_differs}
use Rattle.credit_raise.proofs.Quiet.{unpaid-plays}
use Rattle.credit_raise.proofs.raise.play.Goals as goal

pub turn-requires-clause-bank : goal.turn-requires-clause-bank
turn-requires-clause-bank g c =
    let next : IsNext c.args.i c.args.j c.loop-order.order-index c.args.turns.now c.order-item.result c.loop-order.replay.waiting.orders =
    turn-next c.args.i c.args.j c.loop-order.order-index c.args.turns.now c.order-item.result c.loop-order.replay.waiting.orders
    c.loop-order-test.true c.order-item.is c.loop-order.invariant.are_turns c.loop-order.invariant.before in
    elim next.are.owners.0 [
      | inl is ↦ omega (arith, is, c.loop-order.invariant.banks, c.requires.banks.0)
      | inr is ↦ omega (arith, is, c.loop-order.invariant.banks, c.requires.banks.1)
    ]

pub turn-requires-clause-differ : goal.turn-requires-clause-differ
turn-requires-clause-differ g c =
    let next : IsNext c.args.i c.args.j c.loop-order.order-index c.args.turns.now c.order-item.result c.loop-order.replay.waiting.orders =
    turn-next c.args.i c.args.j c.loop-order.order-index c.args.turns.now c.order-item.result c.loop-order.replay.waiting.orders
    c.loop-order-test.true c.order-item.is c.loop-order.invariant.are_turns c.loop-order.invariant.before in
    subst (λ n. c.order-item.result.bank ≢ n) (sym c.other_of.ensures) (other_differs c.args.i c.args.j c.order-item.result.bank c.requires.differ next.are.owners.0)

pub turn-requires-clause-last : goal.turn-requires-clause-last
turn-requires-clause-last g c =
    let next : IsNext c.args.i c.args.j c.loop-order.order-index c.args.turns.now c.order-item.result c.loop-order.replay.waiting.orders =
    turn-next c.args.i c.args.j c.loop-order.order-index c.args.turns.now c.order-item.result c.loop-order.replay.waiting.orders
    c.loop-order-test.true c.order-item.is c.loop-order.invariant.are_turns c.loop-order.invariant.before in
    before-earlier c.loop-order.replay.waiting.orders c.order-item.result (drop (c.loop-order.order-index + 1) c.args.turns.now) next.before

pub turn-requires-clause-number : goal.turn-requires-clause-number
turn-requires-clause-number g c =
    let next : IsNext c.args.i c.args.j c.loop-order.order-index c.args.turns.now c.order-item.result c.loop-order.replay.waiting.orders =
    turn-next c.args.i c.args.j c.loop-order.order-index c.args.turns.now c.order-item.result c.loop-order.replay.waiting.orders
    c.loop-order-test.true c.order-item.is c.loop-order.invariant.are_turns c.loop-order.invariant.before in
    next.are.numbers.0

pub turn-requires-clause-absent : goal.turn-requires-clause-absent
turn-requires-clause-absent g c =
    let next : IsNext c.args.i c.args.j c.loop-order.order-index c.args.turns.now c.order-item.result c.loop-order.replay.waiting.orders =
    turn-next c.args.i c.args.j c.loop-order.order-index c.args.turns.now c.order-item.result c.loop-order.replay.waiting.orders
    c.loop-order-test.true c.order-item.is c.loop-order.invariant.are_turns c.loop-order.invariant.before in
    before-absent c.loop-order.replay.waiting.orders c.order-item.result (drop (c.loop-order.order-index + 1) c.args.turns.now) next.before

pub loop-order-preserved : goal.loop-order-preserved
loop-order-preserved g c =
    let i : ℕ = c.args.i in
    let j : ℕ = c.args.j in
    let weight : ℕ = c.args.weight in
    let pair : ℕ = c.args.pair in
    let order : Resting = c.order-item.result in
    let turns : List Resting = c.args.turns.now in
    let waiting : List Resting = c.loop-order.replay.waiting.orders in
    let rest : List Resting = drop (c.loop-order.order-index + 1) c.args.turns.now in
    let was = c.loop-order.invariant in
    let next : IsNext c.args.i c.args.j c.loop-order.order-index c.args.turns.now c.order-item.result c.loop-order.replay.waiting.orders =
    turn-next c.args.i c.args.j c.loop-order.order-index c.args.turns.now c.order-item.result c.loop-order.replay.waiting.orders
    c.loop-order-test.true c.order-item.is c.loop-order.invariant.are_turns c.loop-order.invariant.before in
    let own : List Fill = c.in_ok-turn.ensures.turn.0 in
    let left : ℕ = c.in_ok-turn.ensures.turn.1 in
    let waits : c.turn.new.self.waiting.orders ≡ joined order left (lessened_all waiting own) = c.in_ok-turn.ensures.turn.5 in
    record {
      goes_on = λ more played.
          subst (Played pair weight i j c.args.eff c.args.waiting.orders turns)
          (sym (ap (λ (fs : List Fill). fs ++ more) c.in_ok-turn.ensures.turn.3 ∙ append_assoc c.loop-order.replay.fills.items own more))
          (was.goes_on (own ++ more)
          (subst (λ (ts : List Resting). Played pair weight i j c.loop-order.replay.line waiting ts (own ++ more)) (sym next.here)
          (played-turn pair weight i j c.loop-order.replay.line waiting order rest own more left
          c.other_of.result c.loop-order.replay.weight c.loop-order.replay.pair c.turn.new.self.line c.turn.new.self.waiting.orders
          was.weight was.pair c.other_of.ensures c.in_ok-turn.ensures.turn.2 c.in_ok-turn.ensures.turn.4 waits played)));
      weight = c.turn.ensures.weight ∙ was.weight;
      banks = c.turn.ensures.banks ∙ was.banks;
      listed = c.turn.ensures.listed ∙ was.listed;
      unlooked = λ listed. c.turn.ensures.unlooked (was.listed ∙ listed) ∙ was.unlooked listed;
      pair = c.turn.ensures.pair ∙ was.pair;
      are_turns = turns-behind i j order rest next.are;
      steps = omega (arith, was.steps, c.in_ok-turn.ensures.steps, ap length next.here);
      before = subst (Each (λ w. Each (ArrivesBefore w) rest)) (sym waits)
          (before-joined waiting order rest left own next.are.rising.0 next.before);
    }

pub returns-then-replay-from : goal.returns-then-replay-from
returns-then-replay-from g c =
    let was = c.loop-order.invariant in
    let line : ℕ = c.loop-order.replay.line in
    record {
      played = subst (Played c.args.pair c.args.weight c.args.i c.args.j c.args.eff c.args.waiting.orders c.args.turns.now) (append-nil c.loop-order.replay.fills.items)
          (was.goes_on [] (unpaid-plays c.args.pair c.args.weight c.args.i c.args.j line c.loop-order.replay.waiting.orders (drop c.loop-order.order-index c.args.turns.now)
          (div_none line c.args.weight (omega (arith, c.if-replay-from.true, c.from.ensures)))));
      steps = omega (arith, was.steps);
      unlooked = was.unlooked;
    }

pub returns : goal.returns
returns g c =
    let was = c.loop-order.invariant in
    record {
      played = subst (Played c.args.pair c.args.weight c.args.i c.args.j c.args.eff c.args.waiting.orders c.args.turns.now) (append-nil c.loop-order.replay.fills.items)
          (was.goes_on []
          (subst (λ (os : List Resting). Played c.args.pair c.args.weight c.args.i c.args.j c.loop-order.replay.line c.loop-order.replay.waiting.orders os [])
          (sym (drop_all c.loop-order.order-index c.args.turns.now c.loop-order-test.false)) refl));
      steps = omega (arith, was.steps);
      unlooked = was.unlooked;
    }
