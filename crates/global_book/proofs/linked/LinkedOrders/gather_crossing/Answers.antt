use Rattle.std.proofs.Common.{ℕ, ◌≡◌, ◌+◌, ◌<◌, ◌++◌, ◌∷◌, [], All, Global, IsSome, List, Ok, Err, OnErr, Result, Vec, drop, length, ap, subst, sym, ◌∙◌, arith}
use Rattle.std.proofs.Math.ListN.{drop_of_length-le}
use Rattle.std.proofs.lemmas.List.{append-nil, append_assoc, length-append}
use Rattle.std.specs.List.Sorted.{IsPermutation}
use Rattle.fx_amounts.specs.declared.memory.Memory.{Memory}
use Rattle.fx_rules.specs.declared.orders.Resting.{Resting}
use Rattle.order_store.specs.Linked.{IsFirstFrom, IsInLevel}
use Rattle.order_store.specs.Orders.{order_at}
use Rattle.global_book.specs.Book.{crossing}
use Rattle.global_book.specs.inside.Crossing.{TakesLevels, levels_from}
use Rattle.global_book.specs.inside.Ends.{orders_of}
use Rattle.global_book.proofs.Booking.{if-some}
use Rattle.global_book.proofs.Crossing.{queue-live, queue-smaller, queue-takes, queued}
use Rattle.global_book.proofs.linked.LinkedOrders.gather_crossing.Goals as goal
use Rattle.global_book.proofs.linked.LinkedOrders.gather_crossing.Goals.{in-Some+in_ok-push-2, in_default}

on-err : {P : Type 0} (r : Result (Unit {0}) Memory) → P → OnErr r P
on-err (Ok value) holds = tt
on-err (Err stop) holds = holds

-- one more is put behind the orders that there were
put : (old now new taken : List Resting) (order : Resting) → now ≡ old ++ taken → new ≡ now ++ order ∷ [] → new ≡ old ++ (taken ++ order ∷ [])
put old now new taken order was is = is ∙ ap (λ (os : List Resting). os ++ order ∷ []) was ∙ append_assoc old taken (order ∷ [])

pub loop-at-init : goal.loop-at-init
loop-at-init g c = record {
  takes = ([], sym (append-nil c.args.orders.now.items), c.in_ok-places.ensures.levels);
  live = c.in_ok-places.ensures.live;
  steps = omega (arith, c.tick.ensures);
}

pub order-requires : goal.order-requires
order-requires g c = record {
  live = subst (λ (place : ℕ). IsSome (order_at c.args.self.now.orders place)) (sym c.index-place.ensures)
      (c.loop-at.invariant.live c.loop-at.at c.index-place.result.now (omega (arith, c.loop-at-test.true, c.len.ensures, c.loop-at.places.ok.0)));
}

pub returns-in_err-push-clause-memory : goal.returns-in_err-push-clause-memory
returns-in_err-push-clause-memory g c =
    let it = c.loop-at.invariant.takes in
    on-err c.from_residual-in_err-push.result (it.0, subst (λ (os : List Resting). os ≡ c.args.orders.now.items ++ it.0) (sym c.in_err-push.ensures.items) it.1)

pub returns-in_err-push-2-clause-memory : goal.returns-in_err-push-2-clause-memory
returns-in_err-push-2-clause-memory g c =
    let it = c.loop-at.invariant.takes in
    on-err c.from_residual-in_err-push-2.result
    (it.0 ++ c.order.result ∷ [], put c.args.orders.now.items c.loop-at.orders.items c.push.new.self.items it.0 c.order.result it.1 c.in_ok-push.ensures.items)

-- the queue has the place that comes behind in the level, where there is one
queue : (g : _) (c : goal.After-tick-in-loop-at g) → c.match-behind_in_level.places.items ≡ queued c.loop-at.places.items c.behind_in_level.result
queue g c = elim c.match-behind_in_level.branch [
  | in-Some+in_ok-push-2 w ↦ ap (λ (v : Vec ℕ Global). v.items) w.places-is ∙ w.in_ok-push-2.ensures.items ∙ ap (queued c.loop-at.places.items) (sym w.in-Some.is)
  | in_default w ↦ ap (λ (v : Vec ℕ Global). v.items) w.places-is ∙ ap (queued c.loop-at.places.items) (sym w.in_default.is)
]

behind : (g : _) (c : goal.After-tick-in-loop-at g) → IsFirstFrom (IsInLevel (order_at c.args.self.now.orders) c.order.result) (c.index-place.result.now + 1) c.behind_in_level.result
behind g c =
    if-some (order_at c.args.self.now.orders c.index-place.result.now) c.order.result
    (λ order. IsFirstFrom (IsInLevel (order_at c.args.self.now.orders) order) (c.index-place.result.now + 1) c.behind_in_level.result) c.order.ensures.value c.behind_in_level.ensures.behind

within : (g : _) (c : goal.After-tick-in-loop-at g) → c.loop-at.at < length c.loop-at.places.items
within g c = omega (arith, c.loop-at-test.true, c.len.ensures, c.loop-at.places.ok.0)

pub loop-at-smaller : goal.loop-at-smaller
loop-at-smaller g c =
    subst (λ (ps : List ℕ). length (levels_from c.args.self.now.orders.slots (drop (c.loop-at.at + 1) ps)) < length (levels_from c.args.self.now.orders.slots (drop c.loop-at.at c.loop-at.places.items))) (sym (queue g c))
    (queue-smaller c.args.self.now.orders.slots c.order.ensures.valid.rising c.order.ensures.valid.valid.unique c.index-place.result.now c.order.result c.order.ensures.value
    c.loop-at.places.items c.loop-at.at (within g c) c.index-place.ensures c.behind_in_level.result (behind g c))

pub loop-at-preserved : goal.loop-at-preserved
loop-at-preserved g c =
    let it = c.loop-at.invariant.takes in
    record {
      takes = (
        it.0 ++ c.order.result ∷ [],
        put c.args.orders.now.items c.loop-at.orders.items c.push.new.self.items it.0 c.order.result it.1 c.in_ok-push.ensures.items,
        subst (λ (ps : List ℕ). TakesLevels c.args.self.now.orders.slots c.args.bank c.args.side c.args.top (it.0 ++ c.order.result ∷ []) (drop (c.loop-at.at + 1) ps)) (sym (queue g c))
            (queue-takes c.args.self.now.orders.slots c.order.ensures.valid.rising c.order.ensures.valid.valid.unique c.index-place.result.now c.order.result c.order.ensures.value
            c.loop-at.places.items c.loop-at.at (within g c) c.index-place.ensures c.behind_in_level.result (behind g c) c.args.bank c.args.side c.args.top it.0 it.2),
      );
      live = subst (All (λ (place : ℕ). IsSome (order_at c.args.self.now.orders place))) (sym (queue g c))
          (queue-live c.args.self.now.orders.slots c.order.ensures.valid.rising c.order.ensures.valid.valid.unique c.index-place.result.now c.order.result c.order.ensures.value
          c.loop-at.places.items c.loop-at.at (within g c) c.index-place.ensures c.behind_in_level.result (behind g c) c.loop-at.invariant.live);
      steps = omega (arith, c.tick-in-loop-at.ensures, c.loop-at.invariant.steps, ap (λ (os : List Resting). length os) c.in_ok-push.ensures.items, length-append c.loop-at.orders.items (c.order.result ∷ []));
    }

pub returns-clause-gathered : goal.returns-clause-gathered
returns-clause-gathered g c =
    let it = c.loop-at.invariant.takes in
    let ended : drop c.loop-at.at c.loop-at.places.items ≡ [] = drop_of_length-le c.loop-at.places.items (omega (arith, c.loop-at-test.false, c.len.ensures, c.loop-at.places.ok.0)) in
    let all : TakesLevels c.args.self.now.orders.slots c.args.bank c.args.side c.args.top it.0 [] = subst (TakesLevels c.args.self.now.orders.slots c.args.bank c.args.side c.args.top it.0) ended it.2 in
    (it.0, it.1, subst (IsPermutation (crossing c.args.bank c.args.side c.args.top (orders_of c.args.self.now.orders.slots))) (append-nil it.0) all)
