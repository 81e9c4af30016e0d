-- The ladders tell the orders beside which they are kept.
use Rattle.std.proofs.Common.{ℕ, ◌≡◌, ap, nat_eq, refl, sym, subst, ◌∙◌}
use Rattle.std.specs.Map.{lookup}
use Rattle.fx_amounts.specs.Price.{IsPrice}
use Rattle.fx_amounts.specs.declared.side.Side.{Side}
use Rattle.fx_rules.specs.declared.orders.Resting.{Resting}
use Rattle.order_store.specs.Linked.{AreListed}
use Rattle.access_index.specs.Ranked.{bank_level}
use Rattle.global_book.specs.Book.{Book}
use Rattle.global_book.specs.Ladders.{TellsLots}
use Rattle.global_book.specs.Room.{ladders_of, rank_of}
use Rattle.global_book.specs.inside.Linked.{AreLinked, Linked, orders_in, room_in}
use Rattle.global_book.proofs.Booking.{kept-book}
use Rattle.global_book.proofs.Listing.{each-at}
use Rattle.global_book.proofs.Preferring.{has-lots}
use Rattle.global_book.proofs.Stepping.{lots-are, rank-low}
use Rattle.global_book.proofs.Telling.{rank-back}
use Rattle.global_book.proofs.book.PairBook.ladder.Goals as goal

tells : (pair banks : ℕ) (linked : Linked) (side : Side) → AreListed linked.orders → AreLinked linked.orders.slots linked.ladders → TellsLots (record { pair = pair; banks = banks; orders = orders_in linked; room = room_in linked }) side
tells pair banks linked side listed are = record {
  lots = λ bank rank valid.
      ap (λ r. (bank_level (ladders_of linked.ladders side) bank r).lots) (sym (rank-back side rank (rank-low side rank valid)))
      ∙ lots-are linked listed are bank side (rank_of side rank) valid.1;
  some = each-at (λ (o : Resting). o.side ≡ side → (bank_level (ladders_of linked.ladders side) o.bank (rank_of side o.price)).lots ≡ 0 → ⊥) linked.orders.slots (λ place order is mine.
      has-lots linked.orders.slots order.bank side (bank_level (ladders_of linked.ladders side)) (are.told side) are.priced listed.rising listed.lots place order is (record { bank_is = refl; side_is = sym mine }));
  ticks = each-at (λ (o : Resting). IsPrice o.price) linked.orders.slots (λ place order is. let it = are.priced place order is in (it.least, it.price));
}

pub returns : goal.returns
returns c =
    let linked : Linked = c.self.inside.linked in
    record {
      ladder = c.ladder.ensures.ladder ∙ ap (λ (b : Book). lookup (nat_eq c.args.bank) (ladders_of b.room.ladders c.args.side)) c.self.view_is;
      tells = subst (λ (b : Book). TellsLots b c.args.side) c.self.view_is (tells c.self.inside.pair c.self.inside.banks linked c.args.side c.ladder.ensures.valid c.ladder.ensures.linked);
      valid = kept-book c.self.inside.banks linked c.args.self.now c.self.invariant (ap (λ (b : Book). b.orders) c.self.view_is) (ap (λ (b : Book). b.banks) c.self.view_is);
    }
