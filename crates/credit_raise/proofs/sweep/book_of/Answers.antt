-- One order more rests, until all do.
use Rattle.std.proofs.Common.{List, ◌≡◌, ◌++◌, ◌∷◌, [], ◌<◌, false, ap, arith, subst, sym, take, ◌∙◌}
use Rattle.std.proofs.lemmas.List.{take_all, take_more}
use Rattle.fx_rules.specs.declared.orders.Resting.{Resting}
use Rattle.fx_rules.specs.Lists.{Each}
use Rattle.fx_rules.specs.Sweep.{is_order}
use Rattle.credit_raise.proofs.Copying.{absent-at, earlier-at, held-at}
use Rattle.credit_raise.proofs.sweep.book_of.Goals as goal

pub reserve-requires : goal.reserve-requires
reserve-requires c =
    let held = held-at c.args.banks c.args.orders.now c.loop-order.order-index c.order-item.result c.requires.valid.held c.loop-order-test.true c.order-item.is in
    record { bank = omega (arith, held.bank, c.loop-order.invariant.banks) }

pub rest-requires : goal.rest-requires
rest-requires c =
    let order : Resting = c.order-item.result in
    let orders : List Resting = c.args.orders.now in
    let k = c.loop-order.order-index in
    let rests : c.reserve.new.self.orders ≡ take k orders = c.reserve.ensures.orders ∙ c.loop-order.invariant.orders in
    record {
      room = c.in_ok-reserve.ensures.has_room;
      last = subst (Each (λ (w : Resting). w.arrival < order.arrival)) (sym rests) (earlier-at orders k order c.requires.valid.rising c.loop-order-test.true c.order-item.is);
      number = (held-at c.args.banks orders k order c.requires.valid.held c.loop-order-test.true c.order-item.is).number_least;
      absent = subst (Each (λ (w : Resting). is_order order.bank order.number w ≡ false)) (sym rests) (absent-at orders k order c.requires.valid.rising c.loop-order-test.true c.order-item.is);
    }

pub loop-order-preserved : goal.loop-order-preserved
loop-order-preserved c =
    let order : Resting = c.order-item.result in
    let orders : List Resting = c.args.orders.now in
    let k = c.loop-order.order-index in
    record {
      orders = c.rest.ensures.orders ∙ ap (λ (os : List Resting). os ++ order ∷ []) (c.reserve.ensures.orders ∙ c.loop-order.invariant.orders)
          ∙ ap (λ (o : Resting). take k orders ++ o ∷ []) c.order-item.is ∙ sym (take_more orders k order c.loop-order-test.true);
      pair = c.rest.ensures.pair ∙ c.reserve.ensures.pair ∙ c.loop-order.invariant.pair;
      banks = c.rest.ensures.banks ∙ c.reserve.ensures.banks ∙ c.loop-order.invariant.banks;
    }

pub returns : goal.returns
returns c = record {
  pair = c.loop-order.invariant.pair;
  banks = c.loop-order.invariant.banks;
  orders = c.loop-order.invariant.orders ∙ take_all c.loop-order.order-index c.args.orders.now c.loop-order-test.false;
}
