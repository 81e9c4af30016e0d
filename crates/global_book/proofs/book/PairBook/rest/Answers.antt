use Rattle.std.proofs.Common.{◌≡◌, ◌<◌, ◌++◌, ◌∷◌, [], false, List, Option, Some, None, ap, get_or, arith, length, refl, subst, sym, ◌∙◌}
use Rattle.fx_rules.specs.declared.orders.Resting.{Resting}
use Rattle.fx_rules.specs.Lists.{Each}
use Rattle.fx_rules.specs.Sweep.{is_order}
use Rattle.order_store.specs.Orders.{order_at}
use Rattle.global_book.specs.Book.{Book}
use Rattle.global_book.specs.Room.{HasRoom, TakesRoom, rank_of}
use Rattle.global_book.specs.inside.Ends.{orders_of}
use Rattle.global_book.specs.inside.Linked.{AreKept, room_in}
use Rattle.global_book.proofs.Booking.{kept-book, kept-pushed, lacks-from, later-from, place-within}
use Rattle.global_book.proofs.Ending.{end-new}
use Rattle.global_book.proofs.Listing.{orders-pushed}
use Rattle.global_book.proofs.book.PairBook.rest.Goals as goal

pub rest-requires : goal.rest-requires
rest-requires c =
    let has : HasRoom (room_in c.self.inside.linked) c.args.order.bank c.args.order.side c.args.order.price =
    subst (λ (b : Book). HasRoom b.room c.args.order.bank c.args.order.side c.args.order.price) (sym c.self.view_is) c.requires.room in
    let within = place-within c.self.inside.linked.orders.room c.args.order.bank has.place in
    record {
      bank = omega (arith, within, c.self.invariant.of_banks);
      room = has.place;
      holds = has.ready;
      absent = lacks-from c.self.inside.linked.orders c.args.order.bank c.args.order.number
          (subst (λ (b : Book). Each (λ o. is_order c.args.order.bank c.args.order.number o ≡ false) b.orders) (sym c.self.view_is) c.requires.absent);
      later = later-from c.self.inside.linked.orders c.args.order.arrival (subst (λ (b : Book). Each (λ o. o.arrival < c.args.order.arrival) b.orders) (sym c.self.view_is) c.requires.last);
    }

kept : (c : goal.After-rest) → AreKept c.self.inside.banks c.rest.new.self
kept c =
    let old = c.self.inside.linked in
    let has : HasRoom (room_in c.self.inside.linked) c.args.order.bank c.args.order.side c.args.order.price =
    subst (λ (b : Book). HasRoom b.room c.args.order.bank c.args.order.side c.args.order.price) (sym c.self.view_is) c.requires.room in
    let within = place-within c.self.inside.linked.orders.room c.args.order.bank has.place in
    let at : order_at c.rest.new.self.orders (length old.orders.slots) ≡ Some c.args.order =
    ap (λ (ss : List (Option Resting)). get_or ss (length old.orders.slots) None) c.rest.ensures.slots ∙ end-new old.orders.slots (Some c.args.order) in
    kept-pushed c.self.inside.banks old c.rest.new.self c.args.order c.self.invariant
    (record {
      bank = omega (arith, within, c.self.invariant.of_banks);
      number_least = c.requires.number;
      number_most = (c.rest.ensures.valid.valid.numbered (length old.orders.slots) c.args.order at).1;
      arrival_most = omega arith;
    }) c.rest.ensures.valid c.rest.ensures.slots c.rest.ensures.room.banks

pub invariant_of-self : goal.invariant_of-self
invariant_of-self c = kept c

pub returns-clause-orders : goal.returns-clause-orders
returns-clause-orders c = ap orders_of c.rest.ensures.slots ∙ orders-pushed c.self.inside.linked.orders.slots c.args.order ∙ ap (λ (b : Book). b.orders ++ c.args.order ∷ []) c.self.view_is

pub returns-clause-room : goal.returns-clause-room
returns-clause-room c =
    subst (λ (b : Book). TakesRoom b.room (room_in c.rest.new.self)) c.self.view_is (record {
      places = c.rest.ensures.room.room;
      ready = λ bank side price is. c.rest.ensures.holds side bank (rank_of side price) ∙ is;
    })

pub returns-clause-valid : goal.returns-clause-valid
returns-clause-valid c = kept-book _ _ _ (kept c) refl refl
