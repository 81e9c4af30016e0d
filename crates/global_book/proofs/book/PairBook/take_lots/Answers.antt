-- The order that is found is lowered, or taken out.
use Rattle.std.proofs.Common.{ℕ, List, ap, ◌∙◌, ◌≡◌, ◌≤◌, ◌<◌, arith, false, true, inl, inr, map, not, refl, sym, subst}
use Rattle.std.proofs.lemmas.Bool.{cases_lt, false≢true}
use Rattle.std.specs.List.{filter}
use Rattle.fx_amounts.specs.Quantity.{IsLots}
use Rattle.fx_rules.specs.declared.orders.Resting.{Resting}
use Rattle.fx_rules.specs.Sweep.{is_order}
use Rattle.global_book.specs.Book.{Book, IsBook, first, relotted}
use Rattle.global_book.specs.Room.{KeepsRoom}
use Rattle.global_book.specs.inside.Linked.{Becomes, room_in}
use Rattle.global_book.proofs.Booking.{IsFoundAt, first-is, found-at, if-some, is-live, kept-book, lowered-becomes, none-is, removed-becomes, some-and, some_same}
use Rattle.global_book.proofs.Lowered.{first-some, none-lowered, relotted-lowered, removed-lowered}
use Rattle.global_book.proofs.book.PairBook.take_lots.Goals as goal

pub returns-in_default-clause-orders : goal.returns-in_default-clause-orders
returns-in_default-clause-orders c =
    sym (none-lowered c.args.bank c.args.number c.args.lots c.args.self.now.orders
    (sym (ap (λ (b : Book). filter (is_order c.args.bank c.args.number) b.orders) c.self.view_is) ∙ none-is c.self.inside.linked.orders c.args.bank c.args.number (c.find_first.ensures.none c.in_default.is)))

pub returns-in_default-clause-valid : goal.returns-in_default-clause-valid
returns-in_default-clause-valid c =
    kept-book c.self.inside.banks c.self.inside.linked c.args.self.now c.self.invariant (ap (λ (b : Book). b.orders) c.self.view_is) (ap (λ (b : Book). b.banks) c.self.view_is)

-- the order that was found has lots left

found : (c : goal.After-lower) → IsFoundAt c.self.inside.linked.orders c.args.bank c.args.number c.in-Some.place c.order-order.result
found c =
    let it = found-at c.self.inside.linked.orders c.args.bank c.args.number c.find_first.result c.in-Some.place c.in-Some.is c.find_first.ensures.found in
    subst (IsFoundAt c.self.inside.linked.orders c.args.bank c.args.number c.in-Some.place) (some_same it.0 c.order-order.result (sym it.1.at ∙ c.order-order.ensures.value)) it.1

pub lower-requires : goal.lower-requires
lower-requires c = record {
  less = some-and _ c.order-order.result (λ order. c.in-Some-new.left < order.left) c.order-order.ensures.value
      (omega (arith, c.in-Some-new.ensures.value, c.saturating_sub.ensures, c.count.ensures.value, c.count.ensures.least, c.count-2.ensures.value, c.count-2.ensures.least));
}

lowers : (c : goal.After-lower) → Becomes (map (relotted c.args.bank c.args.number c.in-Some-new.left)) c.self.inside.linked c.lower.new.self
lowers c =
    lowered-becomes c.self.inside.linked c.lower.new.self c.in-Some.place c.order-order.result c.args.bank c.args.number (found c) c.lower.ensures.room c.lower.ensures.holds c.order-order.ensures.valid c.lower.ensures.valid c.in-Some-new.left
    (if-some _ c.order-order.result _ c.order-order.ensures.value c.lower.ensures.slots)

pub invariant_of-self : goal.invariant_of-self
invariant_of-self c = (lowers c).kept c.self.inside.banks c.self.invariant

pub returns-in-Some-new-clause-orders : goal.returns-in-Some-new-clause-orders
returns-in-Some-new-clause-orders c =
    let orders : List Resting = c.args.self.now.orders in
    let seen = ap (λ (b : Book). b.orders) c.self.view_is in
    let valid : IsBook c.args.self.now = kept-book c.self.inside.banks c.self.inside.linked c.args.self.now c.self.invariant seen (ap (λ (b : Book). b.banks) c.self.view_is) in
    let rest = first-some (filter (is_order c.args.bank c.args.number) orders) c.order-order.result
    (sym (ap (λ (b : Book). first (filter (is_order c.args.bank c.args.number) b.orders)) c.self.view_is) ∙ first-is c.self.inside.linked.orders c.args.bank c.args.number c.in-Some.place c.order-order.result c.order-order.ensures.valid (found c)) in
    (lowers c).orders ∙ ap (λ (xs : List Resting). map (relotted c.args.bank c.args.number c.in-Some-new.left) xs) seen
    ∙ relotted-lowered c.args.bank c.args.number c.args.lots c.in-Some-new.left orders rest.0 c.order-order.result valid.rising rest.1
    (omega (arith, (c.in-Some-new.ensures.valid.0 refl).0, c.in-Some-new.ensures.value, c.saturating_sub.ensures, c.count.ensures.value, c.count-2.ensures.value))
    (omega (arith, c.in-Some-new.ensures.value, c.saturating_sub.ensures, c.count.ensures.value, c.count-2.ensures.value))

pub returns-in-Some-new-clause-room : goal.returns-in-Some-new-clause-room
returns-in-Some-new-clause-room c = subst (λ (b : Book). KeepsRoom b.room (room_in c.lower.new.self)) c.self.view_is (lowers c).room

pub returns-in-Some-new-clause-valid : goal.returns-in-Some-new-clause-valid
returns-in-Some-new-clause-valid c = kept-book _ _ _ (invariant_of-self c) refl refl

-- it has none

no_lots : (n : ℕ) → (IsLots n → false ≡ true) → n ≤ 1000000 → n ≡ 0
no_lots n none most =
    elim (cases_lt 0 n) [
      | inl some ↦ absurd (false≢true (none (omega arith, most)))
      | inr gone ↦ omega arith
    ]

pub remove-requires : goal.remove-requires
remove-requires c =
    let it = found-at c.self.inside.linked.orders c.args.bank c.args.number c.find_first.result c.in-Some.place c.in-Some.is c.find_first.ensures.found in
    record { live = is-live _ it.0 it.1.at }

goes : (c : goal.After-remove) → Becomes (filter (λ (o : Resting). not (is_order c.args.bank c.args.number o))) c.self.inside.linked c.remove.new.self
goes c =
    let it = found-at c.self.inside.linked.orders c.args.bank c.args.number c.find_first.result c.in-Some.place c.in-Some.is c.find_first.ensures.found in
    removed-becomes c.self.inside.linked c.remove.new.self c.in-Some.place it.0 c.args.bank c.args.number it.1 c.remove.ensures.room c.remove.ensures.holds c.order-order.ensures.valid c.remove.ensures.valid
    c.remove.ensures.slots

pub invariant_of-self-in-None : goal.invariant_of-self-in-None
invariant_of-self-in-None c = (goes c).kept c.self.inside.banks c.self.invariant

pub returns-in-None-clause-orders : goal.returns-in-None-clause-orders
returns-in-None-clause-orders c =
    let orders : List Resting = c.args.self.now.orders in
    let seen = ap (λ (b : Book). b.orders) c.self.view_is in
    let it = found-at c.self.inside.linked.orders c.args.bank c.args.number c.find_first.result c.in-Some.place c.in-Some.is c.find_first.ensures.found in
    let same = some_same it.0 c.order-order.result (sym it.1.at ∙ c.order-order.ensures.value) in
    let valid : IsBook c.args.self.now = kept-book c.self.inside.banks c.self.inside.linked c.args.self.now c.self.invariant seen (ap (λ (b : Book). b.banks) c.self.view_is) in
    let rest = first-some (filter (is_order c.args.bank c.args.number) orders) it.0
    (sym (ap (λ (b : Book). first (filter (is_order c.args.bank c.args.number) b.orders)) c.self.view_is) ∙ first-is c.self.inside.linked.orders c.args.bank c.args.number c.in-Some.place it.0 c.order-order.ensures.valid it.1) in
    let none : c.saturating_sub.result ≡ 0 = no_lots c.saturating_sub.result c.in-None.ensures.valid.1 (omega (arith, c.saturating_sub.ensures, c.count.ensures.most)) in
    (goes c).orders ∙ ap (λ (xs : List Resting). filter (λ o. not (is_order c.args.bank c.args.number o)) xs) seen
    ∙ removed-lowered c.args.bank c.args.number c.args.lots orders rest.0 it.0 valid.rising rest.1
    (omega (arith, none, c.saturating_sub.ensures, c.count.ensures.value, c.count-2.ensures.value, ap (λ (o : Resting). o.left) same))

pub returns-in-None-clause-room : goal.returns-in-None-clause-room
returns-in-None-clause-room c = subst (λ (b : Book). KeepsRoom b.room (room_in c.remove.new.self)) c.self.view_is (goes c).room

pub returns-in-None-clause-valid : goal.returns-in-None-clause-valid
returns-in-None-clause-valid c = kept-book _ _ _ ((goes c).kept c.self.inside.banks c.self.invariant) refl refl
