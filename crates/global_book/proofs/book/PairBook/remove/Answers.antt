-- The order that is found goes.
use Rattle.std.proofs.Common.{ap, ◌∙◌, not, refl, subst, sym}
use Rattle.std.specs.List.{filter}
use Rattle.fx_rules.specs.declared.orders.Resting.{Resting}
use Rattle.fx_rules.specs.Lists.{Among}
use Rattle.fx_rules.specs.Sweep.{is_order}
use Rattle.global_book.specs.Book.{Book}
use Rattle.global_book.specs.Room.{KeepsRoom}
use Rattle.global_book.specs.inside.Linked.{Becomes, room_in}
use Rattle.global_book.proofs.Booking.{finds, found-at, is-live, kept-book, removed-becomes}
use Rattle.global_book.proofs.book.PairBook.remove.Goals as goal

pub unwrap-place-requires : goal.unwrap-place-requires
unwrap-place-requires c =
    finds c.self.inside.linked.orders c.args.bank c.args.number c.find.result c.requires.rests.0
    (subst (λ (b : Book). Among c.requires.rests.0 b.orders) (sym c.self.view_is) c.requires.rests.1) c.requires.rests.2 c.find.ensures.none

pub remove-requires : goal.remove-requires
remove-requires c =
    let it = found-at c.self.inside.linked.orders c.args.bank c.args.number c.find.result c.unwrap-place.result c.unwrap-place.ensures c.find.ensures.found in
    record { live = is-live _ it.0 it.1.at }

becomes : (c : goal.After-remove) → Becomes (filter (λ (o : Resting). not (is_order c.args.bank c.args.number o))) c.self.inside.linked c.remove.new.self
becomes c =
    let it = found-at c.self.inside.linked.orders c.args.bank c.args.number c.find.result c.unwrap-place.result c.unwrap-place.ensures c.find.ensures.found in
    removed-becomes c.self.inside.linked c.remove.new.self c.unwrap-place.result it.0 c.args.bank c.args.number it.1 c.remove.ensures.room c.remove.ensures.holds c.find.ensures.valid c.remove.ensures.valid
    c.remove.ensures.slots

pub invariant_of-self : goal.invariant_of-self
invariant_of-self c = (becomes c).kept c.self.inside.banks c.self.invariant

pub returns-clause-orders : goal.returns-clause-orders
returns-clause-orders c = (becomes c).orders ∙ ap (λ (b : Book). filter (λ (o : Resting). not (is_order c.args.bank c.args.number o)) b.orders) c.self.view_is

pub returns-clause-room : goal.returns-clause-room
returns-clause-room c = subst (λ (b : Book). KeepsRoom b.room (room_in c.remove.new.self)) c.self.view_is (becomes c).room

pub returns-clause-valid : goal.returns-clause-valid
returns-clause-valid c = kept-book _ _ _ (invariant_of-self c) refl refl
