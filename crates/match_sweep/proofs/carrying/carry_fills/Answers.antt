-- One more fill is made; what is carried in the book is what the market makes of it.
use Rattle.std.proofs.Common.{◌≡◌, ◌+◌, ◌++◌, ◌∷◌, [], List, refl, sym, ap, ◌∙◌, arith, take}
use Rattle.std.proofs.lemmas.List.{take_all, take_more}
use Rattle.fx_rules.specs.declared.orders.Fill.{Fill}
use Rattle.fx_rules.specs.declared.orders.Resting.{Resting}
use Rattle.global_book.specs.Lowered.{lowered_in}
use Rattle.match_sweep.specs.Carries.{filled_in, carried}
use Rattle.match_sweep.proofs.Lowering.{carried-market}
use Rattle.match_sweep.proofs.carrying.carry_fills.Goals as goal

carried_push : (orders : List Resting) (fills : List Fill) (f : Fill) → carried orders (fills ++ f ∷ []) ≡ filled_in (carried orders fills) f
carried_push orders [] f = refl
carried_push orders (x ∷ fills) f = carried_push (filled_in orders x) fills f

pub loop-fill-preserved : goal.loop-fill-preserved
loop-fill-preserved c =
    let was = c.loop-fill.invariant in
    let f : Fill = c.fill-item.result in
    let next : take (c.loop-fill.fill-index + 1) c.args.fills.now ≡ take c.loop-fill.fill-index c.args.fills.now ++ f ∷ [] =
    take_more c.args.fills.now c.loop-fill.fill-index f c.loop-fill-test.true ∙ ap (λ (x : Fill). take c.loop-fill.fill-index c.args.fills.now ++ x ∷ []) (sym c.fill-item.is) in
    record {
      orders = c.take_lots-in-loop-fill.ensures.orders
          ∙ ap (lowered_in f.taker f.taker_number f.lots) (c.take_lots.ensures.orders ∙ ap (lowered_in f.maker f.maker_number f.lots) was.orders)
          ∙ sym (ap (carried c.args.book.now.orders) next ∙ carried_push c.args.book.now.orders (take c.loop-fill.fill-index c.args.fills.now) f);
      pair = c.take_lots-in-loop-fill.ensures.pair ∙ c.take_lots.ensures.pair ∙ was.pair;
      banks = c.take_lots-in-loop-fill.ensures.banks ∙ c.take_lots.ensures.banks ∙ was.banks;
      room = record {
        places = λ bank. omega (arith, was.room.places bank, c.take_lots.ensures.room.places bank, c.take_lots-in-loop-fill.ensures.room.places bank);
        ready = λ bank side price is. c.take_lots-in-loop-fill.ensures.room.ready bank side price (c.take_lots.ensures.room.ready bank side price (was.room.ready bank side price is));
      };
    }

pub returns-clause-state : goal.returns-clause-state
returns-clause-state c S rising is =
    c.loop-fill.invariant.orders
    ∙ ap (carried c.args.book.now.orders) (take_all c.loop-fill.fill-index c.args.fills.now c.loop-fill-test.false)
    ∙ ap (λ (os : List Resting). carried os c.args.fills.now) is
    ∙ carried-market c.args.book.now.pair S c.args.fills.now rising
