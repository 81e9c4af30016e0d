-- The order that is found has fewer lots left.
use Rattle.std.proofs.Common.{◌<◌, ap, ◌∙◌, map, refl, subst, sym}
use Rattle.fx_rules.specs.declared.orders.Resting.{Resting}
use Rattle.fx_rules.specs.Lists.{Among}
use Rattle.global_book.specs.Book.{Book, relotted}
use Rattle.global_book.specs.Room.{KeepsRoom}
use Rattle.global_book.specs.inside.Linked.{Becomes, room_in}
use Rattle.global_book.proofs.Booking.{finds, found-at, if-some, kept-book, lowered-becomes, some-and, the-order}
use Rattle.global_book.proofs.book.PairBook.lower.Goals as goal

pub unwrap-place-requires : goal.unwrap-place-requires
unwrap-place-requires c =
    finds c.self.inside.linked.orders c.args.bank c.args.number c.find.result c.requires.above.0
    (subst (λ (b : Book). Among c.requires.above.0 b.orders) (sym c.self.view_is) c.requires.above.1) c.requires.above.2 c.find.ensures.none

pub lower-requires : goal.lower-requires
lower-requires c =
    let it = found-at c.self.inside.linked.orders c.args.bank c.args.number c.find.result c.unwrap-place.result c.unwrap-place.ensures c.find.ensures.found in
    let same = the-order c.self.inside.linked.orders c.args.bank c.args.number c.unwrap-place.result it.0 c.requires.above.0 c.find.ensures.valid it.1
    (subst (λ (b : Book). Among c.requires.above.0 b.orders) (sym c.self.view_is) c.requires.above.1) c.requires.above.2 in
    record { less = some-and _ it.0 (λ order. c.args.left < order.left) it.1.at (subst (λ (o : Resting). c.args.left < o.left) same c.requires.above.3) }

becomes : (c : goal.After-lower) → Becomes (map (relotted c.args.bank c.args.number c.args.left)) c.self.inside.linked c.lower.new.self
becomes c =
    let it = found-at c.self.inside.linked.orders c.args.bank c.args.number c.find.result c.unwrap-place.result c.unwrap-place.ensures c.find.ensures.found in
    lowered-becomes c.self.inside.linked c.lower.new.self c.unwrap-place.result it.0 c.args.bank c.args.number it.1 c.lower.ensures.room c.lower.ensures.holds c.find.ensures.valid c.lower.ensures.valid c.args.left
    (if-some _ it.0 _ it.1.at c.lower.ensures.slots)

pub invariant_of-self : goal.invariant_of-self
invariant_of-self c = (becomes c).kept c.self.inside.banks c.self.invariant

pub returns-clause-orders : goal.returns-clause-orders
returns-clause-orders c = (becomes c).orders ∙ ap (λ (b : Book). map (relotted c.args.bank c.args.number c.args.left) b.orders) c.self.view_is

pub returns-clause-room : goal.returns-clause-room
returns-clause-room c = subst (λ (b : Book). KeepsRoom b.room (room_in c.lower.new.self)) c.self.view_is (becomes c).room

pub returns-clause-valid : goal.returns-clause-valid
returns-clause-valid c = kept-book _ _ _ (invariant_of-self c) refl refl
