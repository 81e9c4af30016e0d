-- One order more has its turn, until all had theirs.
use Rattle.std.proofs.Common.{List, ◌≡◌, ◌+◌, ◌++◌, ◌∷◌, [], ap, refl, subst, sym, take, ◌∙◌}
use Rattle.std.proofs.lemmas.List.{take_all, take_more}
use Rattle.fx_rules.specs.declared.orders.Fill.{Fill}
use Rattle.fx_rules.specs.declared.orders.Resting.{Resting}
use Rattle.credit_lines.specs.Credit.{Credit}
use Rattle.credit_raise.specs.Turns.{TurnsEach}
use Rattle.credit_raise.proofs.Turning.{Leads, leads-more, leads-none, paid_all-banks}
use Rattle.credit_raise.proofs.sweep.turn_all.Goals as goal

pub loop-order-init : goal.loop-order-init
loop-order-init g c = record {
  leads = leads-none c.args.book.now c.args.lines.now c.args.weight c.new-fills.result.items c.new-fills.ensures.items;
  pair = refl;
  banks = c.requires.banks;
  valid = c.requires.valid;
}

pub loop-order-preserved : goal.loop-order-preserved
loop-order-preserved g c =
    let was = c.loop-order.invariant in
    let k = c.loop-order.order-index in
    let order : Resting = c.order-item.result in
    let orders : List Resting = c.args.orders.now in
    let own : List Fill = c.in_ok-own.own in
    let next : take (k + 1) orders ≡ take k orders ++ order ∷ [] =
    take_more orders k order c.loop-order-test.true ∙ ap (λ (o : Resting). take k orders ++ o ∷ []) (sym c.order-item.is) in
    record {
      leads = subst (λ (os : List Resting). Leads c.args.book.now c.args.lines.now c.args.weight os c.extend_from_slice.new.self.items c.turn.new.book c.turn.new.lines) (sym next)
          (leads-more c.args.book.now c.loop-order.book c.turn.new.book c.args.lines.now c.loop-order.lines c.turn.new.lines c.args.weight (take k orders) order
          c.loop-order.fills.items own c.extend_from_slice.new.self.items
          c.requires.weight.0 was.leads was.pair was.valid c.in_ok-own.ensures.turned c.turn.ensures.pair c.in_ok-own.ensures.orders c.in_ok-own.ensures.paid
          (c.in_ok-extend_from_slice.ensures.items ∙ ap (λ (fs : List Fill). c.loop-order.fills.items ++ fs) c.as_slice.ensures.items));
      pair = c.turn.ensures.pair ∙ was.pair;
      banks = c.turn.ensures.banks ∙ was.banks ∙ sym (ap (λ (l : Credit). l.banks) c.in_ok-own.ensures.paid ∙ paid_all-banks c.args.weight c.loop-order.lines own);
      valid = c.turn.ensures.valid;
    }

pub returns : goal.returns
returns g c = record {
  turned = subst (λ (os : List Resting). TurnsEach c.args.book.now c.args.lines.now c.args.weight os c.loop-order.fills.items)
      (take_all c.loop-order.order-index c.args.orders.now c.loop-order-test.false) c.loop-order.invariant.leads.turned;
}
