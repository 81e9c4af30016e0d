-- The live turns' fills are those of all turns.
use Rattle.std.proofs.Common.{ℕ, [], List, ◌≤◌, ◌+◌, ◌*◌, length, ◌∙◌, arith, sym, subst}
use Rattle.std.proofs.lemmas.List.Sorted.{length_permutation}
use Rattle.std.proofs.lemmas.Result.{IfOk-weaker}
use Rattle.fx_rules.specs.declared.orders.Resting.{Resting}
use Rattle.fx_rules.proofs.Planning.{div_none}
use Rattle.credit_raise.specs.inside.Two.{turns}
use Rattle.credit_raise.specs.inside.Playing.{Played}
use Rattle.credit_raise.specs.inside.Prices.{live_turns}
use Rattle.credit_raise.proofs.Facing.{live-few, live-turns, live-played}
use Rattle.credit_raise.proofs.Idle.{apart-played}
use Rattle.credit_raise.proofs.Quiet.{unpaid-plays}
use Rattle.credit_raise.proofs.raise.fills_of_two.Goals as goal

pub returns-then-get-from : goal.returns-then-get-from
returns-then-get-from g c =
    record {
      played = subst (Played c.args.book.now.pair c.args.weight c.args.i c.args.j c.args.eff [] (turns c.args.i c.args.j c.args.book.now.orders)) (sym c.new.ensures.items)
          (unpaid-plays c.args.book.now.pair c.args.weight c.args.i c.args.j c.args.eff [] (turns c.args.i c.args.j c.args.book.now.orders)
          (div_none c.args.eff c.args.weight (omega (arith, c.if-get-from.true, c.get.ensures.value, c.from.ensures))));
      steps = omega arith;
    }

pub play_orders-requires-clause-turns : goal.play_orders-requires-clause-turns
play_orders-requires-clause-turns g c = (
  live_turns c.args.i c.args.j c.of_two-tops_i.result.0 c.of_two-tops_i.result.1 c.args.book.now.orders,
  record { same = c.in_ok-orders.ensures.orders; turns = live-turns c.args.book.now c.args.i c.args.j c.of_two-tops_i.result.0 c.of_two-tops_i.result.1 c.pair-pair.ensures.valid },
)

pub returns : goal.returns
returns g c =
    let i : ℕ = c.args.i in
    let j : ℕ = c.args.j in
    let orders : List Resting = c.args.book.now.orders in
    let live : List Resting = live_turns i j c.of_two-tops_i.result.0 c.of_two-tops_i.result.1 orders in
    record {
      played = IfOk-weaker c.play_orders.result (λ fills. Played c.pair-pair.result c.args.weight i j c.args.eff [] live fills.items)
          (λ fills. Played c.args.book.now.pair c.args.weight i j c.args.eff [] (turns i j orders) fills.items)
          (λ fills played.
          live-played c.args.book.now.pair c.args.weight i j c.args.eff orders c.of_two-tops_i.result.0 c.of_two-tops_i.result.1 fills.items
          c.requires.differ c.pair-pair.ensures.valid.rising c.of_two-tops_i.ensures.tops_i c.of_two-tops_i.ensures.tops_j
          (subst (λ n. Played n c.args.weight i j c.args.eff [] live fills.items) c.pair-pair.ensures.value played))
          (c.play_orders.ensures.played live
          (record { same = c.in_ok-orders.ensures.orders; turns = live-turns c.args.book.now i j c.of_two-tops_i.result.0 c.of_two-tops_i.result.1 c.pair-pair.ensures.valid }));
      steps = IfOk-weaker c.play_orders.result (λ fills. c.play_orders.new.steps ≤ c.live_orders.new.steps + length c.in_ok-orders.orders.items + length fills.items)
          (λ fills. c.play_orders.new.steps ≤ c.args.steps.now + 6 + 2 * length (turns i j orders) + length fills.items)
          (λ fills played.
          omega (
            arith,
            played,
            c.of_two-tops_i.ensures.steps,
            c.in_ok-orders.ensures.steps,
            length_permutation live c.in_ok-orders.orders.items c.in_ok-orders.ensures.orders,
            live-few i j c.of_two-tops_i.result.0 c.of_two-tops_i.result.1 orders,
          ))
          c.play_orders.ensures.steps;
    }

pub returns-then-not-meet : goal.returns-then-not-meet
returns-then-not-meet g c =
    let i : ℕ = c.args.i in
    let j : ℕ = c.args.j in
    let pair : ℕ = c.args.book.now.pair in
    let orders : List Resting = c.args.book.now.orders in
    record {
      played = subst (Played pair c.args.weight i j c.args.eff [] (turns i j orders)) (sym c.new-then-not-meet.ensures.items)
          (apart-played pair c.args.weight i j c.args.eff orders c.of_two-tops_i.result.0 c.of_two-tops_i.result.1
          c.requires.differ c.pair-pair.ensures.valid.rising c.of_two-tops_i.ensures.tops_i c.of_two-tops_i.ensures.tops_j
          (sym c.meet.ensures ∙ c.if-not-meet.true));
      steps = omega (arith, c.of_two-tops_i.ensures.steps);
    }
