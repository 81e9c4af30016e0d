-- The early orders wait; where the list of them does not do, all orders have their turns.
use Rattle.std.proofs.Common.{[], List, rules, sym, subst, ◌∙◌}
use Rattle.std.proofs.lemmas.List.Sorted.{IsNonDecreasingBy-from_sort_by_key}
use Rattle.std.proofs.lemmas.Result.{IfOk-weaker}
use Rattle.fx_rules.specs.declared.orders.Resting.{Resting}
use Rattle.fx_rules.specs.Lists.{Each}
use Rattle.fx_rules.specs.Sound.{ArrivesBefore}
use Rattle.credit_raise.specs.inside.Playing.{AreTurns, Played}
use Rattle.credit_raise.proofs.Parting.{early-waited, gathered-sorted, late-turned, parts-played}
use Rattle.credit_raise.proofs.raise.play_orders.Goals as goal

pub play-requires-clause-turns : goal.play-requires-clause-turns
play-requires-clause-turns g c =
    subst (AreTurns c.args.i c.args.j) (sym c.deref-then-len-le-FEW.ensures.value)
    (late-turned c.args.i c.args.j c.first_of.result c.first_of-2.result c.max-from.result c.args.orders.items c.deref.result.now c.deref-2.result.now c.deref-3.result.now c.requires.turns.0 c.in_ok-early.early.items c.in_ok-early.late.items c.sort_unstable_by_key.new.self.items
    c.requires.turns.1 c.max-from.ensures c.deref.ensures.value c.first_of.ensures c.deref-2.ensures.value c.first_of-2.ensures c.deref-3.ensures.value c.in_ok-early.ensures.early c.in_ok-early.ensures.late
    c.sort_unstable_by_key.ensures.permutation
    (IsNonDecreasingBy-from_sort_by_key (λ order. order.arrival) c.sort_unstable_by_key.new.self.items c.sort_unstable_by_key.ensures.sorted (λ a r q k. search rules)))

pub play-requires-clause-before : goal.play-requires-clause-before
play-requires-clause-before g c =
    subst (Each (λ (w : Resting). Each (ArrivesBefore w) c.deref-then-len-le-FEW.result.now)) (sym c.in_list-waiting.ensures.orders)
    (subst (λ (os : List Resting). Each (λ (w : Resting). Each (ArrivesBefore w) os) c.in_ok-early.early.items) (sym c.deref-then-len-le-FEW.ensures.value)
    (early-waited c.args.i c.args.j c.first_of.result c.first_of-2.result c.max-from.result c.args.orders.items c.deref.result.now c.deref-2.result.now c.deref-3.result.now c.requires.turns.0 c.in_ok-early.early.items c.in_ok-early.late.items c.sort_unstable_by_key.new.self.items
    c.requires.turns.1 c.max-from.ensures c.deref.ensures.value c.first_of.ensures c.deref-2.ensures.value c.first_of-2.ensures c.deref-3.ensures.value c.in_ok-early.ensures.early c.in_ok-early.ensures.late
    c.sort_unstable_by_key.ensures.permutation
    (IsNonDecreasingBy-from_sort_by_key (λ order. order.arrival) c.sort_unstable_by_key.new.self.items c.sort_unstable_by_key.ensures.sorted (λ a r q k. search rules))))

pub returns-in-Ok-clause-played : goal.returns-in-Ok-clause-played
returns-in-Ok-clause-played g c live gathered =
    parts-played c.args.i c.args.j c.first_of.result c.first_of-2.result c.max-from.result c.args.orders.items c.deref.result.now c.deref-2.result.now c.deref-3.result.now live c.in_ok-early.early.items c.in_ok-early.late.items c.sort_unstable_by_key.new.self.items
    gathered c.max-from.ensures c.deref.ensures.value c.first_of.ensures c.deref-2.ensures.value c.first_of-2.ensures c.deref-3.ensures.value c.in_ok-early.ensures.early c.in_ok-early.ensures.late
    c.sort_unstable_by_key.ensures.permutation
    (IsNonDecreasingBy-from_sort_by_key (λ order. order.arrival) c.sort_unstable_by_key.new.self.items c.sort_unstable_by_key.ensures.sorted (λ a r q k. search rules))
    c.args.pair c.args.weight c.args.eff c.in-Ok.fills.items c.in_ok-early.ensures.lots
    (subst (λ (os : List Resting). Played c.args.pair c.args.weight c.args.i c.args.j c.args.eff c.in_ok-early.early.items os c.in-Ok.fills.items) c.deref-then-len-le-FEW.ensures.value
    (subst (λ (os : List Resting). Played c.args.pair c.args.weight c.args.i c.args.j c.args.eff os c.deref-then-len-le-FEW.result.now c.in-Ok.fills.items) c.in_list-waiting.ensures.orders
    c.in-Ok.ensures.played))

pub play-requires-2-clause-turns : goal.play-requires-2-clause-turns
play-requires-2-clause-turns g c =
    subst (AreTurns c.args.i c.args.j)
    (sym (c.deref-4.ensures.value
    ∙ gathered-sorted c.args.i c.args.j c.args.orders.items c.requires.turns.0 c.sort_unstable_by_key-2.new.self.items c.requires.turns.1 c.sort_unstable_by_key-2.ensures.permutation
    (IsNonDecreasingBy-from_sort_by_key (λ order. order.arrival) c.sort_unstable_by_key-2.new.self.items c.sort_unstable_by_key-2.ensures.sorted (λ a r q k. search rules))))
    c.requires.turns.1.turns

pub returns-clause-played : goal.returns-clause-played
returns-clause-played g c live gathered =
    IfOk-weaker c.play-2.result (λ fills. Played c.args.pair c.args.weight c.args.i c.args.j c.args.eff c.in_ok-waiting.waiting.orders c.deref-4.result.now fills.items)
    (λ fills. Played c.args.pair c.args.weight c.args.i c.args.j c.args.eff [] live fills.items)
    (λ fills played.
    subst (λ (os : List Resting). Played c.args.pair c.args.weight c.args.i c.args.j c.args.eff [] os fills.items)
    (c.deref-4.ensures.value
    ∙ gathered-sorted c.args.i c.args.j c.args.orders.items live c.sort_unstable_by_key-2.new.self.items gathered c.sort_unstable_by_key-2.ensures.permutation
    (IsNonDecreasingBy-from_sort_by_key (λ order. order.arrival) c.sort_unstable_by_key-2.new.self.items c.sort_unstable_by_key-2.ensures.sorted (λ a r q k. search rules)))
    (subst (λ (os : List Resting). Played c.args.pair c.args.weight c.args.i c.args.j c.args.eff os c.deref-4.result.now fills.items) c.in_ok-waiting.ensures.empty played))
    c.play-2.ensures.played
