use Rattle.std.proofs.Common.{◌≡◌, List, ◌++◌, [], ◌∷◌, ◌+◌, take, ap, sym, subst, ◌∙◌}
use Rattle.std.proofs.lemmas.List.{take_all}
use Rattle.std.proofs.lemmas.Grind.{take_at_read}
use Rattle.fx_rules.specs.declared.orders.ActiveOrder.{ActiveOrder}
use Rattle.fx_rules.specs.declared.orders.Fill.{Fill}
use Rattle.client_desk.specs.Draws.{drawn, drawn_all}
use Rattle.client_desk.specs.inside.UnderWay.{IsUnderWay}
use Rattle.client_desk.proofs.Draws.{drawn-at, drawn_all-push}
use Rattle.client_desk.proofs.book.ClientBook.fill_all.Goals as goal

pub fill-requires : goal.fill-requires
fill-requires c = record {
  drawn = (
    c.requires.drawn.0,
    c.requires.drawn.1,
    c.requires.drawn.2,
    drawn_all c.requires.drawn.3 (take c.loop-fill.fill-index c.args.fills.now),
    take c.loop-fill.fill-index c.args.fills.now,
    c.loop-fill.invariant.way c.requires.drawn.0 c.requires.drawn.1 c.requires.drawn.2 c.requires.drawn.3 c.requires.drawn.4 c.requires.drawn.5,
    drawn-at c.requires.drawn.3 c.args.fills.now c.loop-fill.fill-index c.fill-item.result c.requires.drawn.5 c.loop-fill-test.true c.fill-item.is,
  );
}

pub loop-fill-preserved : goal.loop-fill-preserved
loop-fill-preserved c = record {
  clients = c.fill.ensures.clients ∙ c.loop-fill.invariant.clients;
  way = λ h tagged t orders way are.
      let more : take (c.loop-fill.fill-index + 1) c.args.fills.now ≡ take c.loop-fill.fill-index c.args.fills.now ++ c.fill-item.result ∷ [] =
      (take_at_read c.args.fills.now c.loop-fill.fill-index c.fill-item.result c.loop-fill-test.true).1
      ∙ ap (λ (f : Fill). take c.loop-fill.fill-index c.args.fills.now ++ f ∷ []) (sym c.fill-item.is) in
      let drawn' : drawn_all orders (take (c.loop-fill.fill-index + 1) c.args.fills.now) ≡ drawn (drawn_all orders (take c.loop-fill.fill-index c.args.fills.now)) c.fill-item.result =
      ap (drawn_all orders) more ∙ drawn_all-push orders (take c.loop-fill.fill-index c.args.fills.now) c.fill-item.result in
      subst (λ (os : List ActiveOrder). IsUnderWay h tagged t os (take (c.loop-fill.fill-index + 1) c.args.fills.now) c.fill.new.self) (sym drawn')
      (subst (λ (fs : List Fill). IsUnderWay h tagged t (drawn (drawn_all orders (take c.loop-fill.fill-index c.args.fills.now)) c.fill-item.result) fs c.fill.new.self) (sym more)
      (c.fill.ensures.filled h tagged t (drawn_all orders (take c.loop-fill.fill-index c.args.fills.now)) (take c.loop-fill.fill-index c.args.fills.now)
      (c.loop-fill.invariant.way h tagged t orders way are) (drawn-at orders c.args.fills.now c.loop-fill.fill-index c.fill-item.result are c.loop-fill-test.true c.fill-item.is)));
}

pub returns : goal.returns
returns c = record {
  clients = c.loop-fill.invariant.clients;
  filled = λ h tagged t orders way are.
      subst (λ (fs : List Fill). IsUnderWay h tagged t (drawn_all orders fs) fs c.loop-fill.self) (take_all c.loop-fill.fill-index c.args.fills.now c.loop-fill-test.false) (c.loop-fill.invariant.way h tagged t orders way are);
}
