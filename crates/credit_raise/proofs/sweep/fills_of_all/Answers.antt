-- What the copies make is what the market makes; where nothing crosses, that is nothing.
use Rattle.std.proofs.Common.{sym, ◌∙◌}
use Rattle.std.proofs.lemmas.Result.{IfOk-weaker}
use Rattle.credit_raise.specs.Turns.{TurnsEach}
use Rattle.credit_raise.specs.inside.Prices.{crosses_tops}
use Rattle.credit_raise.proofs.Uncrossed.{kept-book, uncrossed-turns, widest-turns}
use Rattle.credit_raise.proofs.sweep.fills_of_all.Goals as goal

pub returns-then-not-cross : goal.returns-then-not-cross
returns-then-not-cross g c = record {
  turned = uncrossed-turns c.args.book.now c.args.lines.now c.args.weight c.of_book.result c.new.result.items c.of_book.ensures.tops
      (sym c.cross.ensures ∙ c.if-not-cross.true) c.new.ensures.items;
}

pub book_of-requires : goal.book_of-requires
book_of-requires g c = record {
  valid = kept-book c.args.book.now (crosses_tops c.widest.result) c.pair.result c.banks.result c.deref.result.now c.pair.ensures.valid c.banks.ensures.value
      (c.deref.ensures.value ∙ c.in_ok-orders.ensures.orders);
}

pub returns : goal.returns
returns g c = record {
  turned = IfOk-weaker c.turn_all.result
      (λ fills. TurnsEach c.in_ok-own_book.own_book c.in_ok-own_lines.own_lines c.args.weight c.deref-2.result.now fills.items)
      (λ fills. TurnsEach c.args.book.now c.args.lines.now c.args.weight c.args.book.now.orders fills.items)
      (λ fills turns.
      widest-turns c.args.book.now c.in_ok-own_book.own_book c.args.lines.now c.in_ok-own_lines.own_lines c.args.weight c.widest.result c.deref-2.result.now fills.items
      c.widest.ensures.all (c.deref-2.ensures.value ∙ c.in_ok-orders.ensures.orders) (c.in_ok-own_book.ensures.pair ∙ c.pair.ensures.value)
      (c.in_ok-own_book.ensures.orders ∙ c.deref.ensures.value ∙ sym c.deref-2.ensures.value) c.in_ok-own_lines.ensures.equal turns)
      c.turn_all.ensures.turned;
}
