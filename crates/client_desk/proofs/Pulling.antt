-- A pull takes a sender's orders of a pair out of a book on its way, one after another.
use Rattle.std.proofs.Common.{ℕ, zero, suc, ◌≡◌, ◌≢◌, ◌+◌, ◌*◌, ◌≤◌, ◌<◌, Bool, true, false, not, ◌&&◌, eqb, leb, ltb, List, [], ◌∷◌, inl, inr, refl, ap, sym, subst, ◌∙◌, arith, get_or, length, Option, None, length-set}
use Rattle.std.proofs.Math.ListN.{set}
use Rattle.std.specs.Prelude.{is_some}
use Rattle.std.specs.List.{filter}
use Rattle.std.proofs.lemmas.Bool.{cases_Bool, cases_eq, cases_lt, and_parts, and_right, and_from, eq-eqb, ne_eqb, ltb-true, ltb-false, le-leb, leb-true, not_from_false, both_ways, false_from_ne_true}
use Rattle.std.proofs.lemmas.List.{get_or-set_same, get_or-set_other}
use Rattle.fx_rules.specs.declared.orders.ActiveOrder.{ActiveOrder}
use Rattle.fx_rules.specs.Lists.{Each}
use Rattle.fx_rules.specs.Session.{Header, sender_places, weight_of}
use Rattle.fx_rules.specs.Sweep.{is_order}
use Rattle.fx_rules.proofs.ListLemmas.{filter_filter, filter_agree_on, filter_cons_true, filter_cons_false}
use Rattle.fx_rules.proofs.Lowering.{is_order-says}
use Rattle.client_desk.specs.declared.rows.Slot.{Slot}
use Rattle.client_desk.specs.Clients.{is_client, when, left_cost, reserved_of}
use Rattle.client_desk.specs.Standing.{Row, Book, no_slot, no_row, row_of, left_in, left_of, SlotStands, RowStands, Stands}
use Rattle.client_desk.specs.Draws.{taken_out}

-- an order of a bank in a pair whose number is above one and no more than another
abbrev pub is_pulled : ℕ → ℕ → ℕ → ℕ → ActiveOrder → Bool
is_pulled pair bank first last a = (eqb a.pair pair && eqb a.order.bank bank) && (ltb first a.order.number && leb a.order.number last)

abbrev pub pulled_to : ℕ → ℕ → ℕ → ℕ → List ActiveOrder → List ActiveOrder
pulled_to pair bank first last orders = filter (λ a. not (is_pulled pair bank first last a)) orders

same_bound : (number last : ℕ) → number ≢ last + 1 → leb number last ≡ leb number (last + 1)
same_bound number last other =
    elim (cases_lt last number) [
      | inl past ↦ false_from_ne_true (leb number last) (λ le. let most : number ≤ last = leb-true number last le in omega arith)
          ∙ sym (false_from_ne_true (leb number (last + 1)) (λ le. let most : number ≤ last + 1 = leb-true number (last + 1) le in other (omega arith)))
      | inr within ↦ le-leb number last (omega arith) ∙ sym (le-leb number (last + 1) (omega arith))
    ]

pulled-number : (first last number : ℕ) → first ≤ last → (not (eqb number (last + 1)) && not (ltb first number && leb number last)) ≡ not (ltb first number && leb number (last + 1))
pulled-number first last number order =
    elim (cases_Bool (ltb first number)) [
      | inr low ↦
          let le : number ≤ first = ltb-false first number low in
          let differ : eqb number (last + 1) ≡ false = ne_eqb number (last + 1) (λ same. omega arith) in
          ap (λ t. not t && not (ltb first number && leb number last)) differ
          ∙ ap (λ t. not (t && leb number last)) low ∙ sym (ap (λ t. not (t && leb number (last + 1))) low)
      | inl high ↦ elim (cases_eq number (last + 1)) [
        | inl same ↦
            let within : leb number (last + 1) ≡ true = le-leb number (last + 1) (omega arith) in
            ap (λ t. not t && not (ltb first number && leb number last)) (eq-eqb number (last + 1) same)
            ∙ sym (ap not (and_from (ltb first number) (leb number (last + 1)) high within))
        | inr other ↦
            ap (λ t. not t && not (ltb first number && leb number last)) (ne_eqb number (last + 1) other)
            ∙ ap (λ t. not (ltb first number && t)) (same_bound number last other)
      ]
    ]

pulled-test : (x y e one other : Bool) → (not e && not one) ≡ not other → (not (x && (y && e)) && not ((x && y) && one)) ≡ not ((x && y) && other)
pulled-test true true e one other same = same
pulled-test true false e one other same = refl
pulled-test false y e one other same = refl

pub take-pulled : (pair bank first last : ℕ) (orders : List ActiveOrder) → first ≤ last → taken_out pair bank (last + 1) (pulled_to pair bank first last orders) ≡ pulled_to pair bank first (last + 1) orders
take-pulled pair bank first last orders order =
    filter_filter (λ (a : ActiveOrder). not (eqb a.pair pair && is_order bank (last + 1) a.order)) (λ (a : ActiveOrder). not (is_pulled pair bank first last a)) orders
    ∙ filter_agree_on (λ (a : ActiveOrder). not (eqb a.pair pair && is_order bank (last + 1) a.order) && not (is_pulled pair bank first last a)) (λ (a : ActiveOrder). not (is_pulled pair bank first (last + 1) a)) orders
    (λ a _. pulled-test (eqb a.pair pair) (eqb a.order.bank bank) (eqb a.order.number (last + 1)) (ltb first a.order.number && leb a.order.number last) (ltb first a.order.number && leb a.order.number (last + 1)) (pulled-number first last a.order.number order))

pub none-pulled : (pair bank first : ℕ) (orders : List ActiveOrder) → pulled_to pair bank first first orders ≡ orders
none-pulled pair bank first [] = refl
none-pulled pair bank first (a ∷ orders) =
    let low : (ltb first a.order.number && leb a.order.number first) ≡ false =
    false_from_ne_true (ltb first a.order.number && leb a.order.number first)
    (λ is.
    let both = and_parts (ltb first a.order.number) (leb a.order.number first) is in
    let lt : first < a.order.number = ltb-true first a.order.number both.0 in
    let le : a.order.number ≤ first = leb-true a.order.number first both.1 in
    omega arith) in
    filter_cons_true (λ (b : ActiveOrder). not (is_pulled pair bank first first b)) a orders
    (not_from_false (is_pulled pair bank first first a) (and_right (eqb a.pair pair && eqb a.order.bank bank) (ltb first a.order.number && leb a.order.number first) low))
    ∙ ap (λ (os : List ActiveOrder). a ∷ os) (none-pulled pair bank first orders)

-- ---- orders without an owner

module _ (h : Header) (own : ℕ → ℕ → Option ℕ) (keep : ActiveOrder → Bool) where
  reserved-kept : (c : ℕ) (orders : List ActiveOrder) → Each (λ (a : ActiveOrder). keep a ≡ false → own a.order.bank a.order.number ≡ None) orders → reserved_of h own c (filter keep orders) ≡ reserved_of h own c orders
  reserved-kept c [] none = refl
  reserved-kept c (a ∷ orders) none =
      let rest : reserved_of h own c (filter keep orders) ≡ reserved_of h own c orders = reserved-kept c orders none.1 in
      elim (cases_Bool (keep a)) [
        | inl kept ↦ ap (reserved_of h own c) (filter_cons_true keep a orders kept) ∙ ap (λ n. left_cost h own c a + n) rest
        | inr gone ↦
            let nothing : left_cost h own c a ≡ 0 = ap (λ (o : Option ℕ). when (is_client o c) (a.order.left * weight_of h a.pair)) (none.0 gone) in
            ap (reserved_of h own c) (filter_cons_false keep a orders gone) ∙ rest ∙ omega arith
      ]

  left-kept : (pair bank number : ℕ) (orders : List ActiveOrder) → (own bank number ≡ None → ⊥) → Each (λ (a : ActiveOrder). keep a ≡ false → own a.order.bank a.order.number ≡ None) orders → left_of (filter keep orders) pair bank number ≡ left_of orders pair bank number
  left-kept pair bank number [] owned none = refl
  left-kept pair bank number (a ∷ orders) owned none =
      let rest : left_of (filter keep orders) pair bank number ≡ left_of orders pair bank number = left-kept pair bank number orders owned none.1 in
      elim (cases_Bool (keep a)) [
        | inl kept ↦ ap (λ (os : List ActiveOrder). left_of os pair bank number) (filter_cons_true keep a orders kept) ∙ ap (λ n. when (eqb a.pair pair && is_order bank number a.order) a.order.left + n) rest
        | inr gone ↦
            let other : is_order bank number a.order ≡ false = false_from_ne_true (is_order bank number a.order)
            (λ is.
            let says = is_order-says bank number a.order is in
            owned (subst (λ b. own b number ≡ None) says.0 (subst (λ n. own a.order.bank n ≡ None) says.1 (none.0 gone)))) in
            let nothing : when (eqb a.pair pair && is_order bank number a.order) a.order.left ≡ 0 = ap (λ t. when t a.order.left) (and_right (eqb a.pair pair) (is_order bank number a.order) other) in
            ap (λ (os : List ActiveOrder). left_of os pair bank number) (filter_cons_false keep a orders gone) ∙ rest ∙ omega arith
      ]

  slot-kept : (orders : List ActiveOrder) (bank number : ℕ) (slot : Slot) → Each (λ (a : ActiveOrder). keep a ≡ false → own a.order.bank a.order.number ≡ None) orders → SlotStands own orders bank number slot → SlotStands own (filter keep orders) bank number slot
  slot-kept orders bank number slot none stands = record {
    owner = stands.owner;
    left = λ p.
        stands.left p
        ∙ elim (cases_Bool (is_some (own bank number))) [
          | inl some ↦ ap (when (is_some (own bank number))) (sym (left-kept p bank number orders (λ gone. both_ways (is_some (own bank number)) (ap is_some gone) some) none))
          | inr gone ↦ ap (λ t. when t (left_of orders p bank number)) gone ∙ sym (ap (λ t. when t (left_of (filter keep orders) p bank number)) gone)
        ];
  }

  -- A book knows nothing of them.
  pub drop-stands : (counts : List ℕ) (orders : List ActiveOrder) (filled_so : ℕ → ℕ) (book : Book) → Each (λ (a : ActiveOrder). keep a ≡ false → own a.order.bank a.order.number ≡ None) orders → Stands h own counts orders filled_so book → Stands h own counts (filter keep orders) filled_so book
  drop-stands counts orders filled_so book none stands = record {
    weights = stands.weights;
    senders = stands.senders;
    rows = λ bank within. record {
      count_is = (stands.rows bank within).count_is;
      each = λ place inside. slot-kept orders bank (place + 1) (get_or (row_of book bank).slots place no_slot) none ((stands.rows bank within).each place inside);
      swept_most = (stands.rows bank within).swept_most;
      swept_none = (stands.rows bank within).swept_none;
    };
    filled = stands.filled;
    reserved = λ c within. stands.reserved c within ∙ sym (reserved-kept c orders none);
  }

-- ---- a row that is swept

-- a row of which no command has lots left in a pair
abbrev pub swept_row : Row → ℕ → Row
swept_row row pair = record row { swept = set row.swept pair (length row.slots) }

set-most : (xs : List ℕ) (i n : ℕ) → get_or (set xs i n) i 0 ≤ n
set-most [] i n = omega arith
set-most (x ∷ xs) zero n = omega arith
set-most (x ∷ xs) (suc i) n = set-most xs i n

swept-stands : (own : ℕ → ℕ → Option ℕ) (orders : List ActiveOrder) (bank count pair : ℕ) (row : Row) → ((place : ℕ) → place < count → left_in (get_or row.slots place no_slot) pair ≡ 0) → RowStands own orders bank count row → RowStands own orders bank count (swept_row row pair)
swept-stands own orders bank count pair row none stands = record {
  count_is = stands.count_is;
  each = stands.each;
  swept_most = λ p.
      elim (cases_eq p pair) [
        | inl same ↦ omega (arith, ap (λ n. get_or (set row.swept pair (length row.slots)) n 0) same, set-most row.swept pair (length row.slots), stands.count_is)
        | inr other ↦ omega (arith, get_or-set_other row.swept pair p (length row.slots) 0 other, stands.swept_most p)
      ];
  swept_none = λ p place before.
      elim (cases_eq p pair) [
        | inl same ↦ ap (left_in (get_or row.slots place no_slot)) same
            ∙ none place (omega (arith, ap (λ n. get_or (set row.swept pair (length row.slots)) n 0) same, set-most row.swept pair (length row.slots), stands.count_is))
        | inr other ↦ stands.swept_none p place (omega (arith, get_or-set_other row.swept pair p (length row.slots) 0 other))
      ];
}

pub sweep-stands : (h : Header) (own : ℕ → ℕ → Option ℕ) (counts : List ℕ) (orders : List ActiveOrder) (filled_so : ℕ → ℕ) (book : Book) (bank pair : ℕ) → bank < sender_places h → ((place : ℕ) → place < get_or counts bank 0 → left_in (get_or (row_of book bank).slots place no_slot) pair ≡ 0) → Stands h own counts orders filled_so book → Stands h own counts orders filled_so (record book { rows = set book.rows bank (swept_row (row_of book bank) pair) })
sweep-stands h own counts orders filled_so book bank pair sender none stands = record {
  weights = stands.weights;
  senders = length-set book.rows bank (swept_row (row_of book bank) pair) ∙ stands.senders;
  rows = λ b within.
      elim (cases_eq b bank) [
        | inl here ↦ subst (λ n. RowStands own orders n (get_or counts n 0) (get_or (set book.rows bank (swept_row (row_of book bank) pair)) n no_row)) (sym here)
            (subst (RowStands own orders bank (get_or counts bank 0)) (sym (get_or-set_same book.rows bank (swept_row (row_of book bank) pair) no_row (omega (arith, stands.senders))))
            (swept-stands own orders bank (get_or counts bank 0) pair (row_of book bank) none (stands.rows bank sender)))
        | inr other ↦ subst (RowStands own orders b (get_or counts b 0)) (sym (get_or-set_other book.rows bank b (swept_row (row_of book bank) pair) no_row other)) (stands.rows b within)
      ];
  filled = stands.filled;
  reserved = stands.reserved;
}
