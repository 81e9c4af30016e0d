-- What callers of a book see as an order comes, goes or is lowered in the list that is kept.
use Rattle.std.proofs.Common.{ℕ, zero, suc, ◌≡◌, ◌≤◌, ◌<◌, true, false, not, leb, List, [], ◌∷◌, ◌++◌, Option, Some, None, IsSome, is_some, Result, Ok, Err, length, map, min, get_or, inl, inr, refl, ap, sym, subst, ◌∙◌, arith}
use Rattle.std.proofs.Math.ListN.{set}
use Rattle.std.proofs.lemmas.Bool.{and_from, and_parts, cases_eq, eq-eqb, eqb-true, false_from_ne_true as false_from, le-leb, leb-true}
use Rattle.std.proofs.lemmas.List.{get_or-set_same, get_or-set_other}
use Rattle.std.specs.List.{filter}
use Rattle.std.specs.Option.{IfSome, IsSomeAnd}
use Rattle.std.specs.Result.{OnOk}
use Rattle.fx_amounts.specs.declared.side.Side.{Side}
use Rattle.fx_rules.specs.declared.orders.Resting.{Resting}
use Rattle.fx_rules.specs.Lists.{Among, Each, EachPair}
use Rattle.fx_rules.specs.Sound.{ArrivesBefore}
use Rattle.fx_rules.specs.Sweep.{is_order}
use Rattle.fx_rules.proofs.ListLemmas.{Each-among}
use Rattle.fx_rules.proofs.Lowering.{is_order-from, is_order-says}
use Rattle.order_store.specs.Linked.{AreListed, HasFrom, IsFirst, IsFirstFrom}
use Rattle.order_store.specs.Orders.{IsFrom, IsOf, Lacks, Orders, order_at}
use Rattle.access_index.specs.Ranked.{bank_holds}
use Rattle.global_book.specs.Book.{Book, IsBook, IsHeld, first, is_of, is_of_from, relotted}
use Rattle.global_book.specs.Room.{KeepsRoom, Room, ladders_of, rank_of}
use Rattle.global_book.specs.inside.Ends.{orders_of}
use Rattle.global_book.specs.inside.Linked.{AreKept, Becomes, Linked, orders_in, room_in}
use Rattle.global_book.proofs.Ending.{end-new, end-others, order_within}
use Rattle.global_book.proofs.Linking.{listed-none}
use Rattle.global_book.proofs.Listing.{among-at, at-among, each-at, first-at, none-at, orders-lowered, orders-removed, orders-rising}
use Rattle.global_book.proofs.Packing.{orders-packed}

pub some_same : (a b : Resting) → Some a ≡ Some b → a ≡ b
some_same a b is = cc

-- what callers see of what is kept
pub kept-book : (banks : ℕ) (linked : Linked) (book : Book) → AreKept banks linked → orders_in linked ≡ book.orders → banks ≡ book.banks → IsBook book
kept-book banks linked book kept seen banks_is = record {
  rising = subst (EachPair ArrivesBefore) seen (orders-rising linked.orders.slots kept.listed.rising kept.listed.valid.unique);
  held = subst (λ n. Each (IsHeld n) book.orders) banks_is (subst (Each (IsHeld banks)) seen (each-at (IsHeld banks) linked.orders.slots kept.held));
}

-- no orders
pub kept-none : (banks count : ℕ) (linked : Linked) → count ≡ min banks 64 → linked.orders.slots ≡ [] → length linked.orders.room ≡ min count 65 → AreKept banks linked
kept-none banks count linked count_is bare rooms = record {
  listed = listed-none linked.orders bare;
  of_banks = omega (arith, rooms, count_is);
  held = λ place order at. absurd (none order (sym (ap (λ (ss : List (Option Resting)). get_or ss place None) bare) ∙ at));
}
  where
    none : (order : Resting) → None ≡ Some order → ⊥
    none order is = cc

-- the same orders, with other room
pub kept-same : (banks : ℕ) (old new : Linked) → AreKept banks old → AreListed new.orders → new.orders.slots ≡ old.orders.slots → length new.orders.room ≡ length old.orders.room → AreKept banks new
kept-same banks old new kept listed slots_are rooms = record {
  listed = listed;
  of_banks = rooms ∙ kept.of_banks;
  held = λ place order at. kept.held place order (sym (ap (λ (ss : List (Option Resting)). get_or ss place None) slots_are) ∙ at);
}

-- An order comes.
-- the orders are moved together
pub kept-packed : (banks : ℕ) (old new : Linked) → AreKept banks old → AreListed new.orders → new.orders.slots ≡ filter is_some old.orders.slots → length new.orders.room ≡ min (length old.orders.room) 65 → AreKept banks new
kept-packed banks old new kept listed packed rooms = record {
  listed = listed;
  of_banks = let room = kept.of_banks in omega (arith, rooms, room);
  held = λ place order at.
      let there : Among order (orders_of old.orders.slots) =
      subst (Among order) (orders-packed old.orders.slots) (subst (λ ss. Among order (orders_of ss)) packed (among-at new.orders.slots place order at)) in
      let was = at-among old.orders.slots order there in
      kept.held was.0 order was.1;
}

pub kept-pushed : (banks : ℕ) (old new : Linked) (order : Resting) → AreKept banks old → IsHeld banks order → AreListed new.orders → new.orders.slots ≡ old.orders.slots ++ Some order ∷ []
    → length new.orders.room ≡ length old.orders.room → AreKept banks new
kept-pushed banks old new order kept held listed slots_are rooms = record {
  listed = listed;
  of_banks = rooms ∙ kept.of_banks;
  held = λ place one at. elim (cases_eq place (length old.orders.slots)) [
    | inl same ↦
        subst (IsHeld banks)
        (some_same order one (sym (ap (λ (ss : List (Option Resting)). get_or ss place None) slots_are ∙ ap (λ p. get_or (old.orders.slots ++ Some order ∷ []) p None) same ∙ end-new old.orders.slots (Some order)) ∙ at)) held
    | inr differ ↦
        kept.held place one (sym (end-others old.orders.slots (Some order) place differ) ∙ sym (ap (λ (ss : List (Option Resting)). get_or ss place None) slots_are) ∙ at)
  ];
}

-- An order is found by bank and number.
pub record IsFoundAt (orders : Orders) (bank number place : ℕ) (order : Resting) : Type 0 where
  pub at : order_at orders place ≡ Some order
  pub is_it : IsOf bank number order

pub found-at : (orders : Orders) (bank number : ℕ) (found : Option ℕ) (place : ℕ) → found ≡ Some place → IfSome found (λ p. IsSomeAnd (order_at orders p) (IsOf bank number))
    → (order : Resting) × IsFoundAt orders bank number place order
found-at orders bank number found place is tells =
    let here : IsSomeAnd (order_at orders place) (IsOf bank number) = subst (λ (f : Option ℕ). IfSome f (λ p. IsSomeAnd (order_at orders p) (IsOf bank number))) is tells in
    let answer : (slot : Option Resting) → order_at orders place ≡ slot → IsSomeAnd slot (IsOf bank number) → (order : Resting) × IsFoundAt orders bank number place order = λ slot.
    elim slot as (λ s. order_at orders place ≡ s → IsSomeAnd s (IsOf bank number) → (order : Resting) × IsFoundAt orders bank number place order) [
      | None ↦ λ at none. absurd none
      | Some order ↦ λ at is_it. (order, record { at = at; is_it = is_it })
    ] in
    answer (order_at orders place) refl here

pub is-of : (bank number : ℕ) (order : Resting) → is_order bank number order ≡ true → IsOf bank number order
is-of bank number order is = let says = is_order-says bank number order is in record { bank = says.0; number = says.1 }

pub of-is : (bank number : ℕ) (order : Resting) → IsOf bank number order → is_order bank number order ≡ true
of-is bank number order of = is_order-from bank number order of.bank of.number

-- one that rests is found, and it is that of the list
pub finds : (orders : Orders) (bank number : ℕ) (found : Option ℕ) (order : Resting) → Among order (orders_of orders.slots) → is_order bank number order ≡ true → (found ≡ None → Lacks orders bank number) → IsSome found
finds orders bank number found order there is lacks =
    let at = at-among orders.slots order there in
    let of = is-of bank number order is in
    elim found as (λ f. (f ≡ None → Lacks orders bank number) → IsSome f) [
      | None ↦ λ none. absurd (none refl at.0 order at.1 of.bank of.number)
      | Some place ↦ λ _. refl
    ] lacks

pub the-order : (orders : Orders) (bank number place : ℕ) (order listed : Resting) → AreListed orders → IsFoundAt orders bank number place order → Among listed (orders_of orders.slots) → is_order bank number listed ≡ true → listed ≡ order
the-order orders bank number place order listed are found there is =
    let at = at-among orders.slots listed there in
    let of = is-of bank number listed is in
    let same : at.0 ≡ place = are.valid.unique at.0 place listed order at.1 found.at (of.bank ∙ sym found.is_it.bank) (of.number ∙ sym found.is_it.number) in
    some_same listed order (sym at.1 ∙ ap (order_at orders) same ∙ found.at)

-- what a search answers
pub first-is : (orders : Orders) (bank number place : ℕ) (order : Resting) → AreListed orders → IsFoundAt orders bank number place order → first (filter (is_order bank number) (orders_of orders.slots)) ≡ Some order
first-is orders bank number place order are found =
    first-at (is_order bank number) orders.slots place order found.at (of-is bank number order found.is_it) (λ other one before at. absurd_one other one before at)
  where
    absurd_one : (other : ℕ) (one : Resting) → other < place → get_or orders.slots other None ≡ Some one → is_order bank number one ≡ false
    absurd_one other one before at = false_from (is_order bank number one) (λ is.
        let of = is-of bank number one is in
        let same : other ≡ place = are.valid.unique other place one order at found.at (of.bank ∙ sym found.is_it.bank) (of.number ∙ sym found.is_it.number) in
        omega (arith, before, same))

pub none-is : (orders : Orders) (bank number : ℕ) → Lacks orders bank number → filter (is_order bank number) (orders_of orders.slots) ≡ []
none-is orders bank number lacks =
    none-at (is_order bank number) orders.slots (λ place order at. false_from (is_order bank number order) (λ is. let of = is-of bank number order is in lacks place order at of.bank of.number))

-- no order of this bank and number is kept where none is in the list, and all arrived before one that comes after them
pub lacks-from : (orders : Orders) (bank number : ℕ) → Each (λ o. is_order bank number o ≡ false) (orders_of orders.slots) → Lacks orders bank number
lacks-from orders bank number none place order at bank_is number_is =
    let off : is_order bank number order ≡ false = Each-among (λ o. is_order bank number o ≡ false) (orders_of orders.slots) order none (among-at orders.slots place order at) in
    let on : is_order bank number order ≡ true = is_order-from bank number order bank_is number_is in
    let both : false ≡ true = sym off ∙ on in cc

pub later-from : (orders : Orders) (arrival : ℕ) → Each (λ o. o.arrival < arrival) (orders_of orders.slots) → (place : ℕ) (order : Resting) → order_at orders place ≡ Some order → order.arrival < arrival
later-from orders arrival last place order at = Each-among (λ o. o.arrival < arrival) (orders_of orders.slots) order last (among-at orders.slots place order at)

-- The order at a place goes, or is lowered.
module _ (old new : Linked) (place : ℕ) (order : Resting) (bank number : ℕ) (found : IsFoundAt old.orders bank number place order) (room : new.orders.room ≡ old.orders.room)
    (holds : (side : Side) (one rank : ℕ) → bank_holds (ladders_of new.ladders side) one rank ≡ bank_holds (ladders_of old.ladders side) one rank) (was : AreListed old.orders) (listed : AreListed new.orders) where
  keeps : KeepsRoom (room_in old) (room_in new)
  keeps = record {
    places = λ one. omega (arith, ap (λ (r : List ℕ). get_or r one 0) room);
    ready = λ one side price is. holds side one (rank_of side price) ∙ is;
  }

  held-set : (banks : ℕ) (slot : Option Resting) → new.orders.slots ≡ set old.orders.slots place slot → ((one : Resting) → slot ≡ Some one → IsHeld banks one) → AreKept banks old → AreKept banks new
  held-set banks slot slots_are own kept = record {
    listed = listed;
    of_banks = ap (λ (r : List ℕ). length r) room ∙ kept.of_banks;
    held = λ other one at.
        let now : get_or (set old.orders.slots place slot) other None ≡ Some one = sym (ap (λ (ss : List (Option Resting)). get_or ss other None) slots_are) ∙ at in
        elim (cases_eq other place) [
          | inl same ↦ own one (sym (ap (λ p. get_or (set old.orders.slots place slot) p None) same ∙ get_or-set_same old.orders.slots place slot None (order_within old.orders.slots place order found.at)) ∙ now)
          | inr differ ↦ kept.held other one (sym (get_or-set_other old.orders.slots place other slot None differ) ∙ now)
        ];
  }

  pub removed-becomes : new.orders.slots ≡ set old.orders.slots place None → Becomes (filter (λ (o : Resting). not (is_order bank number o))) old new
  removed-becomes slots_are = record {
    orders = ap orders_of slots_are ∙ orders-removed old.orders.slots place order bank number was.valid.unique found.at (of-is bank number order found.is_it);
    room = keeps;
    kept = λ banks kept. held-set banks None slots_are (λ one is. absurd (none one is)) kept;
  }
    where
      none : (one : Resting) → None ≡ Some one → ⊥
      none one is = cc

  pub lowered-becomes : (left : ℕ) → new.orders.slots ≡ set old.orders.slots place (Some (record order { left = left })) → Becomes (map (relotted bank number left)) old new
  lowered-becomes left slots_are = record {
    orders = ap orders_of slots_are ∙ orders-lowered old.orders.slots place order bank number left was.valid.unique found.at (of-is bank number order found.is_it);
    room = keeps;
    kept = λ banks kept. held-set banks (Some (record order { left = left })) slots_are (λ one is.
        let own = kept.held place order found.at in
        subst (IsHeld banks) (some_same (record order { left = left }) one is) (record { bank = own.bank; number_least = own.number_least; number_most = own.number_most; arrival_most = own.arrival_most })) kept;
  }

pub room-trans : (a b c : Room) → KeepsRoom a b → KeepsRoom b c → KeepsRoom a c
room-trans a b c first second = record {
  places = λ bank. omega (arith, first.places bank, second.places bank);
  ready = λ bank side price is. second.ready bank side price (first.ready bank side price is);
}

pub is-live : (slot : Option Resting) (order : Resting) → slot ≡ Some order → IsSome slot
is-live slot order is = subst (λ (s : Option Resting). IsSome s) (sym is) refl

pub some-and : (slot : Option Resting) (order : Resting) (P : Resting → Type 0) → slot ≡ Some order → P order → IsSomeAnd slot P
some-and slot order P is holds = subst (λ s. IsSomeAnd s P) (sym is) holds

pub if-some : (slot : Option Resting) (order : Resting) (P : Resting → Type 0) → slot ≡ Some order → IfSome slot P → P order
if-some slot order P is holds = subst (λ s. IfSome s P) is holds

-- a bank with a place is one of those that there are places for
pub place-within : (places : List ℕ) (bank : ℕ) → 1 ≤ get_or places bank 0 → bank < length places
place-within [] bank some = absurd (omega (arith, some))
place-within (one ∷ places) zero some = omega arith
place-within (one ∷ places) (suc bank) some = let rest = place-within places bank some in omega (arith, rest)

-- The first order of a bank from an arrival on.
from-passes : (bank after : ℕ) (order : Resting) → is_of_from bank after order ≡ true → IsFrom bank after order
from-passes bank after order passes =
    let parts = and_parts (is_of bank order) (leb after order.arrival) passes in
    record { bank = eqb-true order.bank bank parts.0; arrival = leb-true after order.arrival parts.1 }

pub from-none : (orders : Orders) (bank after : ℕ) (found : Option ℕ) → IsFirstFrom (HasFrom (order_at orders) bank after) 0 found → found ≡ None → filter (is_of_from bank after) (orders_of orders.slots) ≡ []
from-none orders bank after found first is =
    let none : (other : ℕ) → 0 ≤ other → HasFrom (order_at orders) bank after other → ⊥ = subst (IsFirstFrom (HasFrom (order_at orders) bank after) 0) is first in
    none-at (is_of_from bank after) orders.slots (λ place order at. false_from (is_of_from bank after order) (λ passes.
    none place (omega arith) (record { order = order; is = at; from = from-passes bank after order passes })))

pub from-first : (orders : Orders) (bank after : ℕ) (found : Option ℕ) (place : ℕ) → IsFirstFrom (HasFrom (order_at orders) bank after) 0 found → found ≡ Some place → IsFirst (HasFrom (order_at orders) bank after) 0 place
from-first orders bank after found place first is = subst (IsFirstFrom (HasFrom (order_at orders) bank after) 0) is first

pub first-from : (orders : Orders) (bank after place : ℕ) (it : IsFirst (HasFrom (order_at orders) bank after) 0 place) → first (filter (is_of_from bank after) (orders_of orders.slots)) ≡ Some it.is.order
first-from orders bank after place it =
    first-at (is_of_from bank after) orders.slots place it.is.order it.is.is
    (and_from (is_of bank it.is.order) (leb after it.is.order.arrival) (eq-eqb it.is.order.bank bank it.is.from.bank) (le-leb after it.is.order.arrival it.is.from.arrival))
    (λ other one before at. false_from (is_of_from bank after one) (λ passes.
    it.first other (omega arith) before (record { order = one; is = at; from = from-passes bank after one passes })))

pub and-some : (slot : Option Resting) (order : Resting) (P : Resting → Type 0) → slot ≡ Some order → IsSomeAnd slot P → P order
and-some slot order P is holds = subst (λ s. IsSomeAnd s P) is holds

pub some-if : (slot : Option Resting) (order : Resting) (P : Resting → Type 0) → slot ≡ Some order → P order → IfSome slot P
some-if slot order P is holds = subst (λ s. IfSome s P) (sym is) holds

pub each-some : (slot : Option Resting) (P : Resting → Type 0) → ((order : Resting) → slot ≡ Some order → P order) → IfSome slot P
each-some None P holds = tt
each-some (Some order) P holds = holds order refl

pub on-ok-both : {X E : Type 0} (r : Result X E) (P Q R : Type 0) → (P → Q → R) → OnOk r P → OnOk r Q → OnOk r R
on-ok-both (Ok x) P Q R both first second = both first second
on-ok-both (Err e) P Q R both first second = tt
