-- The best order of a bank and a side behind one of theirs, as callers see it.
use Rattle.std.proofs.Common.{ℕ, ◌≡◌, ◌^◌, ◌↔◌, true, false, Bool, ◌&&◌, ltb, List, [], Option, Some, None, IsSome, get_or, refl, ap, sym, subst, ◌∙◌, arith}
use Rattle.std.proofs.lemmas.Bool.{le-leb, lt-ltb}
use Rattle.std.specs.List.{filter}
use Rattle.std.specs.Option.{IfSome, IsSomeAnd}
use Rattle.fx_amounts.specs.Side.{opposite}
use Rattle.fx_amounts.specs.declared.side.Side.{Side}
use Rattle.fx_rules.specs.declared.orders.Resting.{Resting}
use Rattle.fx_rules.specs.Lists.{Among}
use Rattle.fx_rules.specs.Plan.{is_behind}
use Rattle.fx_rules.specs.Sweep.{IsBest, is_opposite, is_preferred}
use Rattle.fx_rules.proofs.ListLemmas.{filter_agree_on}
use Rattle.order_store.specs.Linked.{AreListed}
use Rattle.order_store.specs.Orders.{IsOf, Lacks, Orders, order_at}
use Rattle.global_book.specs.Behind.{IsCursor, is_owned_behind, owned_behind}
use Rattle.global_book.specs.Book.{is_of}
use Rattle.global_book.specs.Room.{rank_of}
use Rattle.global_book.specs.inside.Bests.{IsBestAt, IsBestOf, is_own_behind, is_own_from, is_past}
use Rattle.global_book.specs.inside.Ends.{orders_of}
use Rattle.global_book.specs.inside.Linked.{AreKept, Linked, orders_in}
use Rattle.global_book.proofs.Booking.{finds, found-at, if-some, of-is, the-order}
use Rattle.global_book.proofs.Listing.{at-among, best-listed, none-at}

-- another test that says the same
best-alike : (slots : List (Option Resting)) (p q : Resting → Bool) (side : Side) (found : Option ℕ) → ((order : Resting) → p order ≡ q order) → IsBestOf slots p side found → IsBestOf slots q side found
best-alike slots p q side None same none = λ place order is. sym (same order) ∙ none place order is
best-alike slots p q side (Some place) same best = record {
  order = best.order;
  is = best.is;
  passes_it = sym (same best.order) ∙ best.passes_it;
  best = λ other one is passes. best.best other one is (same one ∙ passes);
}

pub past-none : (slots : List (Option Resting)) (bank : ℕ) (side : Side) (found : Option ℕ) → IsBestOf slots (is_own_from bank side 0) side found → IsBestOf slots (is_past bank side None) side found
past-none slots bank side found =
    best-alike slots (is_own_from bank side 0) (is_past bank side None) side found
    (λ order. ap (λ (b : Bool). is_of bank order && is_opposite (opposite side) order.side && b) (le-leb 0 (rank_of side order.price) (omega arith)))

pub past-some : (slots : List (Option Resting)) (bank : ℕ) (side : Side) (last : Resting) (found : Option ℕ) → last.bank ≡ bank → last.side ≡ side → IsBestOf slots (is_own_behind last) last.side found
    → IsBestOf slots (is_past bank side (Some last)) side found
past-some slots bank side last found bank_is side_is best =
    subst (λ b. IsBestOf slots (λ (o : Resting). is_of b o && is_opposite (opposite side) o.side && is_preferred (opposite side) last o) side found) bank_is
    (subst (λ s. IsBestOf slots (λ (o : Resting). is_of last.bank o && is_opposite (opposite s) o.side && is_preferred (opposite s) last o) s found) side_is best)

-- the orders behind another one, that arrived in time
pub owned-past : (banks : ℕ) (linked : Linked) (bank : ℕ) (side : Side) (past : Option Resting) → AreKept banks linked
    → owned_behind side bank (2 ^ 64) past (orders_in linked) ≡ filter (is_past bank side past) (orders_in linked)
owned-past banks linked bank side past kept =
    filter_agree_on (is_owned_behind (opposite side) bank (2 ^ 64) past) (is_past bank side past) (orders_in linked)
    (λ order there.
    let at = at-among linked.orders.slots order there in
    swapped (is_opposite (opposite side) order.side) (is_of bank order) (ltb order.arrival (2 ^ 64)) (is_behind (opposite side) past order) (lt-ltb order.arrival (2 ^ 64) (kept.held at.0 order at.1).arrival_most))
  where
    swapped : (a b c d : Bool) → c ≡ true → (a && b && c && d) ≡ (b && a && d)
    swapped true true c d is = ap (λ (x : Bool). x && d) is
    swapped true false c d is = refl
    swapped false true c d is = refl
    swapped false false c d is = refl

-- what a search answers
pub either-best : (taker : Side) (orders : List Resting) (found : Option Resting) → (found ≡ None → orders ≡ []) → IfSome found (IsBest taker orders) → (found ≡ None) ↔ (orders ≡ [])
either-best taker orders None none best = (none, λ _. refl)
either-best taker orders (Some one) none best = (none, λ empty. absurd (subst (Among one) empty best.there))

pub best-past : (banks : ℕ) (linked : Linked) (bank : ℕ) (side : Side) (past : Option Resting) (place : ℕ) (order : Resting) → AreKept banks linked → IsBestAt linked.orders.slots (is_past bank side past) side place
    → get_or linked.orders.slots place None ≡ Some order → IsBest (opposite side) (owned_behind side bank (2 ^ 64) past (orders_in linked)) order
best-past banks linked bank side past place order kept best at =
    subst (λ os. IsBest (opposite side) os order) (sym (owned-past banks linked bank side past kept))
    (subst (IsBest (opposite side) (filter (is_past bank side past) (orders_in linked))) (some_same best.order order (sym best.is ∙ at)) (best-listed linked.orders.slots (is_past bank side past) side place best))
  where
    some_same : (a b : Resting) → Some a ≡ Some b → a ≡ b
    some_same a b is = cc

pub none-past : (banks : ℕ) (linked : Linked) (bank : ℕ) (side : Side) (past : Option Resting) → AreKept banks linked → IsBestOf linked.orders.slots (is_past bank side past) side None
    → owned_behind side bank (2 ^ 64) past (orders_in linked) ≡ []
none-past banks linked bank side past kept none = owned-past banks linked bank side past kept ∙ none-at (is_past bank side past) linked.orders.slots none

-- what a book answers, by the place that is found
pub is-best : (banks : ℕ) (linked : Linked) (orders : List Resting) (bank : ℕ) (side : Side) (past : Option Resting) (found : Option ℕ) (place : ℕ) (order : Resting) → AreKept banks linked → orders_in linked ≡ orders
    → IsBestOf linked.orders.slots (is_past bank side past) side found → found ≡ Some place → get_or linked.orders.slots place None ≡ Some order → IsBest (opposite side) (owned_behind side bank (2 ^ 64) past orders) order
is-best banks linked orders bank side past found place order kept seen best is at =
    subst (λ os. IsBest (opposite side) (owned_behind side bank (2 ^ 64) past os) order) seen
    (best-past banks linked bank side past place order kept (subst (IsBestOf linked.orders.slots (is_past bank side past) side) is best) at)

pub is-none : (banks : ℕ) (linked : Linked) (orders : List Resting) (bank : ℕ) (side : Side) (past : Option Resting) (found : Option ℕ) → AreKept banks linked → orders_in linked ≡ orders
    → IsBestOf linked.orders.slots (is_past bank side past) side found → found ≡ None → owned_behind side bank (2 ^ 64) past orders ≡ []
is-none banks linked orders bank side past found kept seen best is =
    subst (λ os. owned_behind side bank (2 ^ 64) past os ≡ []) seen (none-past banks linked bank side past kept (subst (IsBestOf linked.orders.slots (is_past bank side past) side) is best))

-- a walk goes on from the order of a cursor
pub cursor-found : (orders : Orders) (bank : ℕ) (side : Side) (last : Resting) (found : Option ℕ) → IsCursor (orders_of orders.slots) bank side last → (found ≡ None → Lacks orders last.bank last.number) → IsSome found
cursor-found orders bank side last found cursor lacks = finds orders last.bank last.number found last cursor.rests (of-is last.bank last.number last (record { bank = refl; number = refl })) lacks

pub cursor-best : (orders : Orders) (bank : ℕ) (side : Side) (last : Resting) (found : Option ℕ) (place : ℕ) (next : Option ℕ) → AreListed orders → IsCursor (orders_of orders.slots) bank side last → found ≡ Some place
    → IfSome found (λ p. IsSomeAnd (order_at orders p) (IsOf last.bank last.number)) → IfSome (order_at orders place) (λ order. IsBestOf orders.slots (is_own_behind order) order.side next)
    → IsBestOf orders.slots (is_past bank side (Some last)) side next
cursor-best orders bank side last found place next listed cursor is tells best =
    let it = found-at orders last.bank last.number found place is tells in
    let same : last ≡ it.0 = the-order orders last.bank last.number place it.0 last listed it.1 cursor.rests (of-is last.bank last.number last (record { bank = refl; number = refl })) in
    past-some orders.slots bank side last next cursor.bank_is cursor.side_is
    (subst (λ (o : Resting). IsBestOf orders.slots (is_own_behind o) o.side next) (sym same)
    (if-some (order_at orders place) it.0 (λ order. IsBestOf orders.slots (is_own_behind order) order.side next) it.1.at best))

-- an order is at the place that was found
pub best-live : (slots : List (Option Resting)) (passes : Resting → Bool) (side : Side) (found : Option ℕ) (place : ℕ) → IsBestOf slots passes side found → found ≡ Some place → IsSome (get_or slots place None)
best-live slots passes side found place best is =
    let at : IsBestAt slots passes side place = subst (IsBestOf slots passes side) is best in
    subst (λ (s : Option Resting). IsSome s) (sym at.is) refl
