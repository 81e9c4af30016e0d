use Rattle.std.proofs.Common.{◌≡◌, ◌≤◌, true, ap, arith, refl, subst, ◌∙◌}
use Rattle.access_index.specs.Ranked.{bank_holds}
use Rattle.order_store.specs.Orders.{room_for}
use Rattle.global_book.specs.Book.{Book}
use Rattle.global_book.specs.Room.{HasRoom, KeepsOtherRoom, ladders_of, rank_of}
use Rattle.global_book.specs.inside.Ends.{orders_of}
use Rattle.global_book.specs.inside.Linked.{AreKept, room_in}
use Rattle.global_book.proofs.Booking.{kept-book, kept-same, on-ok-both}
use Rattle.global_book.proofs.book.PairBook.reserve.Goals as goal

pub returns-then-index-min-clause-valid : goal.returns-then-index-min-clause-valid
returns-then-index-min-clause-valid c =
    kept-book c.self.inside.banks c.self.inside.linked c.args.self.now c.self.invariant (ap (λ (b : Book). b.orders) c.self.view_is) (ap (λ (b : Book). b.banks) c.self.view_is)

pub reserve-requires : goal.reserve-requires
reserve-requires c = record {
  bank = omega (arith, c.index.ensures.value, c.min.ensures, c.self.invariant.of_banks);
}

kept : (c : goal.After-reserve) → AreKept c.self.inside.banks c.reserve.new.self
kept c = kept-same c.self.inside.banks c.self.inside.linked c.reserve.new.self c.self.invariant c.reserve.ensures.valid c.reserve.ensures.slots c.reserve.ensures.room.banks

pub invariant_of-self : goal.invariant_of-self
invariant_of-self c = kept c

pub returns-clause-has_room : goal.returns-clause-has_room
returns-clause-has_room c =
    on-ok-both c.reserve.result (1 ≤ room_for c.reserve.new.self.orders c.args.bank) (bank_holds (ladders_of c.reserve.new.self.ladders c.args.side) c.args.bank (rank_of c.args.side c.args.price) ≡ true)
    (HasRoom (room_in c.reserve.new.self) c.args.bank c.args.side c.args.price) (λ place ready. record { place = place; ready = ready }) c.reserve.ensures.places c.reserve.ensures.holds

pub returns-clause-room : goal.returns-clause-room
returns-clause-room c =
    subst (λ (b : Book). KeepsOtherRoom b.room (room_in c.reserve.new.self) c.args.bank c.args.side) c.self.view_is (record {
      places = c.reserve.ensures.room.room;
      ready = λ other one price fine is. c.reserve.ensures.others one other (rank_of one price) fine ∙ is;
    })

pub returns-clause-orders : goal.returns-clause-orders
returns-clause-orders c = ap orders_of c.reserve.ensures.slots ∙ ap (λ (b : Book). b.orders) c.self.view_is

pub returns-clause-valid : goal.returns-clause-valid
returns-clause-valid c = kept-book _ _ _ (kept c) refl refl
