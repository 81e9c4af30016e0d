-- A book whose orders have lots less still stands.
use Rattle.std.proofs.Common.{ℕ, zero, suc, ◌≡◌, ◌≢◌, ◌+◌, ◌-◌, ◌*◌, ◌≤◌, ◌<◌, true, false, ◌&&◌, eqb, ltb, List, inl, inr, refl, ap, sym, subst, ◌∙◌, arith, get_or, length, Option, Some, None, length-set}
use Rattle.std.proofs.Math.ListN.{set}
use Rattle.std.specs.Prelude.{is_some, slice_get, option_and_then}
use Rattle.std.proofs.lemmas.Bool.{cases_Bool, cases_eq, cond-true, cond-false, and_left, and_right, and_from, eqb-true, eqb-false, eq-eqb, ne_eqb, lt-ltb}
use Rattle.std.proofs.lemmas.Option.{slice_get-get_or}
use Rattle.std.proofs.lemmas.List.{get_or-set_same, get_or-set_other}
use Rattle.fx_rules.specs.declared.orders.ActiveOrder.{ActiveOrder}
use Rattle.fx_rules.specs.Session.{Header, sender_places, weight_of}
use Rattle.client_desk.specs.declared.rows.Slot.{Slot}
use Rattle.client_desk.specs.Clients.{when, is_client, reserved_of}
use Rattle.client_desk.specs.Standing.{Sums, Row, Book, no_sums, no_slot, no_row, row_of, left_in, left_of, SlotStands, RowStands, Stands}
use Rattle.client_desk.specs.inside.Books.{slot_numbered}
use Rattle.client_desk.specs.inside.Changes.{less_left, owned_lower, lowered_by, lowered_row, owner_numbered, with_sums, side_with}
use Rattle.client_desk.proofs.Lots.{lots_worth, client_worth, order_worth, reserved-worth, left-worth}

-- so many lots of one order went
pub record Loses (before after : List ActiveOrder) (pair bank number lots : ℕ) : Type 0 where
  pub worth : (g : ℕ → ℕ → ℕ → ℕ) → lots_worth g after + lots * g pair bank number ≡ lots_worth g before

-- ---- the orders' lots

left-other : (before after : List ActiveOrder) (pair bank number lots p b n : ℕ) → Loses before after pair bank number lots → (eqb bank b && eqb number n) ≡ false → left_of after p b n ≡ left_of before p b n
left-other before after pair bank number lots p b n loses other =
    let none : order_worth p b n pair bank number ≡ 0 = ap (λ t. when t 1) (and_right (eqb pair p) (eqb bank b && eqb number n) other) in
    let nothing : lots * order_worth p b n pair bank number ≡ 0 = ap (λ w. lots * w) none ∙ omega arith in
    let sum : lots_worth (order_worth p b n) after + lots * order_worth p b n pair bank number ≡ lots_worth (order_worth p b n) before = loses.worth (order_worth p b n) in
    let one : left_of after p b n ≡ lots_worth (order_worth p b n) after = left-worth after p b n in
    let two : left_of before p b n ≡ lots_worth (order_worth p b n) before = left-worth before p b n in
    omega arith

pub left-here : (before after : List ActiveOrder) (pair bank number lots p : ℕ) → Loses before after pair bank number lots → left_of after p bank number + when (eqb pair p) lots ≡ left_of before p bank number
left-here before after pair bank number lots p loses =
    let itself : (eqb bank bank && eqb number number) ≡ true = and_from (eqb bank bank) (eqb number number) (eq-eqb bank bank refl) (eq-eqb number number refl) in
    let sum : lots_worth (order_worth p bank number) after + lots * order_worth p bank number pair bank number ≡ lots_worth (order_worth p bank number) before = loses.worth (order_worth p bank number) in
    let one : left_of after p bank number ≡ lots_worth (order_worth p bank number) after = left-worth after p bank number in
    let two : left_of before p bank number ≡ lots_worth (order_worth p bank number) before = left-worth before p bank number in
    elim (cases_Bool (eqb pair p)) [
      | inl same ↦
          let some : lots * order_worth p bank number pair bank number ≡ lots =
          ap (λ t. lots * when t 1) (and_from (eqb pair p) (eqb bank bank && eqb number number) same itself) ∙ omega arith in
          let whole : when (eqb pair p) lots ≡ lots = ap (λ t. when t lots) same in
          omega arith
      | inr other ↦
          let none : lots * order_worth p bank number pair bank number ≡ 0 =
          ap (λ t. lots * when t 1) (and_left (eqb pair p) (eqb bank bank && eqb number number) other) ∙ omega arith in
          let nothing : when (eqb pair p) lots ≡ 0 = ap (λ t. when t lots) other in
          omega arith
    ]

-- ---- one row

slot-other : (own : ℕ → ℕ → Option ℕ) (before after : List ActiveOrder) (bank number : ℕ) (slot : Slot) → ((p : ℕ) → left_of after p bank number ≡ left_of before p bank number) → SlotStands own before bank number slot → SlotStands own after bank number slot
slot-other own before after bank number slot same stands = record {
  owner = stands.owner;
  left = λ p. stands.left p ∙ ap (when (is_some (own bank number))) (sym (same p));
}

slot-unowned : (own : ℕ → ℕ → Option ℕ) (before after : List ActiveOrder) (bank number : ℕ) (slot : Slot) → own bank number ≡ None → SlotStands own before bank number slot → SlotStands own after bank number slot
slot-unowned own before after bank number slot none stands = record {
  owner = stands.owner;
  left = λ p. stands.left p ∙ ap (λ (o : Option ℕ). when (is_some o) (left_of before p bank number)) none ∙ sym (ap (λ (o : Option ℕ). when (is_some o) (left_of after p bank number)) none);
}

-- by the lots that a place has in two pairs
less_in : (slot : Slot) (pair lots p now_p then_p now then' : ℕ) → left_in slot p ≡ then_p → left_in slot pair ≡ then' → now_p + when (eqb pair p) lots ≡ then_p → now + lots ≡ then' → left_in (less_left slot lots) p ≡ now_p
less_in slot pair lots p now_p then_p now then' is_p is falls_p falls =
    elim (cases_Bool (eqb slot.pair p)) [
      | inr other ↦
          let none : left_in slot p ≡ 0 = cond-false (eqb slot.pair p) slot.left 0 other in
          let none' : left_in (less_left slot lots) p ≡ 0 = cond-false (eqb slot.pair p) (slot.left - lots) 0 other in
          omega arith
      | inl of_p ↦
          let all : left_in slot p ≡ slot.left = cond-true (eqb slot.pair p) slot.left 0 of_p in
          let all' : left_in (less_left slot lots) p ≡ slot.left - lots = cond-true (eqb slot.pair p) (slot.left - lots) 0 of_p in
          elim (cases_Bool (eqb pair p)) [
            | inl same ↦ let some : when (eqb pair p) lots ≡ lots = ap (λ t. when t lots) same in omega arith
            | inr apart ↦
                let none : when (eqb pair p) lots ≡ 0 = ap (λ t. when t lots) apart in
                let differ : slot.pair ≢ pair = λ same. eqb-false pair p apart (sym same ∙ eqb-true slot.pair p of_p) in
                let none' : left_in slot pair ≡ 0 = cond-false (eqb slot.pair pair) slot.left 0 (ne_eqb slot.pair pair differ) in
                omega arith
          ]
    ]

slot-here : (own : ℕ → ℕ → Option ℕ) (before after : List ActiveOrder) (pair bank number lots c : ℕ) (slot : Slot) → own bank number ≡ Some c → Loses before after pair bank number lots → SlotStands own before bank number slot → SlotStands own after bank number (less_left slot lots)
slot-here own before after pair bank number lots c slot owned loses stands =
    let whole : (n : ℕ) → when (is_some (own bank number)) n ≡ n = λ n. ap (λ (o : Option ℕ). when (is_some o) n) owned in
    let same : when (eqb pair pair) lots ≡ lots = ap (λ t. when t lots) (eq-eqb pair pair refl) in
    record {
      owner = stands.owner;
      left = λ p.
          less_in slot pair lots p (left_of after p bank number) (left_of before p bank number) (left_of after pair bank number) (left_of before pair bank number)
          (stands.left p ∙ whole (left_of before p bank number)) (stands.left pair ∙ whole (left_of before pair bank number))
          (left-here before after pair bank number lots p loses)
          (ap (λ n. left_of after pair bank number + n) (sym same) ∙ left-here before after pair bank number lots pair loses)
          ∙ sym (whole (left_of after p bank number));
    }

less_zero : (slot : Slot) (lots p : ℕ) → left_in slot p ≡ 0 → left_in (less_left slot lots) p ≡ 0
less_zero slot lots p none =
    elim (cases_Bool (eqb slot.pair p)) [
      | inl is ↦
          let all : left_in slot p ≡ slot.left = cond-true (eqb slot.pair p) slot.left 0 is in
          let all' : left_in (less_left slot lots) p ≡ slot.left - lots = cond-true (eqb slot.pair p) (slot.left - lots) 0 is in
          omega arith
      | inr other ↦ cond-false (eqb slot.pair p) (slot.left - lots) 0 other
    ]

-- the number of another place
place_apart : (bank number place : ℕ) → 1 ≤ number → place ≢ number - 1 → (eqb bank bank && eqb number (place + 1)) ≡ false
place_apart bank number place some differ = and_right (eqb bank bank) (eqb number (place + 1)) (ne_eqb number (place + 1) (λ same. differ (omega arith)))

-- the row of another bank
pub row-other : (own : ℕ → ℕ → Option ℕ) (before after : List ActiveOrder) (pair bank number lots other count : ℕ) (row : Row) → Loses before after pair bank number lots → other ≢ bank → RowStands own before other count row → RowStands own after other count row
row-other own before after pair bank number lots other count row loses differ stands = record {
  count_is = stands.count_is;
  each = λ place within.
      slot-other own before after other (place + 1) (get_or row.slots place no_slot)
      (λ p. left-other before after pair bank number lots p other (place + 1) loses (and_left (eqb bank other) (eqb number (place + 1)) (ne_eqb bank other (λ same. differ (sym same)))))
      (stands.each place within);
  swept_most = stands.swept_most;
  swept_none = stands.swept_none;
}

-- the row of the order, by its owner
row-owned : (own : ℕ → ℕ → Option ℕ) (before after : List ActiveOrder) (pair bank number lots count : ℕ) (row : Row) (owner : Option ℕ) → Loses before after pair bank number lots → 1 ≤ number → number ≤ count → own bank number ≡ owner → RowStands own before bank count row → RowStands own after bank count (owned_lower row number lots (get_or row.slots (number - 1) no_slot) owner)
row-owned own before after pair bank number lots count row None loses least most owner stands = record {
  count_is = stands.count_is;
  each = λ place within.
      elim (cases_eq place (number - 1)) [
        | inl same ↦
            let named : place + 1 ≡ number = omega arith in
            slot-unowned own before after bank (place + 1) (get_or row.slots place no_slot) (ap (own bank) named ∙ owner) (stands.each place within)
        | inr other ↦ slot-other own before after bank (place + 1) (get_or row.slots place no_slot)
            (λ p. left-other before after pair bank number lots p bank (place + 1) loses (place_apart bank number place least other)) (stands.each place within)
      ];
  swept_most = stands.swept_most;
  swept_none = stands.swept_none;
}
row-owned own before after pair bank number lots count row (Some c) loses least most owner stands =
    let place : ℕ = number - 1 in
    let slot : Slot = get_or row.slots (number - 1) no_slot in
    let inside : number - 1 < length row.slots = omega (arith, stands.count_is) in
    record {
      count_is = length-set row.slots (number - 1) (less_left slot lots) ∙ stands.count_is;
      each = λ place within.
          elim (cases_eq place (number - 1)) [
            | inl same ↦
                let named : place + 1 ≡ number = omega arith in
                subst (SlotStands own after bank (place + 1))
                (sym (ap (λ n. get_or (set row.slots (number - 1) (less_left slot lots)) n no_slot) same ∙ get_or-set_same row.slots (number - 1) (less_left slot lots) no_slot inside))
                (slot-here own before after pair bank (place + 1) lots c slot (ap (own bank) named ∙ owner)
                (subst (λ n. Loses before after pair bank n lots) (sym named) loses)
                (subst (λ n. SlotStands own before bank (place + 1) (get_or row.slots n no_slot)) same (stands.each place within)))
            | inr other ↦ subst (SlotStands own after bank (place + 1)) (sym (get_or-set_other row.slots (number - 1) place (less_left slot lots) no_slot other))
                (slot-other own before after bank (place + 1) (get_or row.slots place no_slot)
                (λ p. left-other before after pair bank number lots p bank (place + 1) loses (place_apart bank number place least other)) (stands.each place within))
          ];
      swept_most = stands.swept_most;
      swept_none = λ p place before'.
          elim (cases_eq place (number - 1)) [
            | inl same ↦
                ap (λ (s : Slot). left_in s p) (ap (λ n. get_or (set row.slots (number - 1) (less_left slot lots)) n no_slot) same ∙ get_or-set_same row.slots (number - 1) (less_left slot lots) no_slot inside)
                ∙ less_zero slot lots p (ap (λ n. left_in (get_or row.slots n no_slot) p) (sym same) ∙ stands.swept_none p place before')
            | inr other ↦ ap (λ (s : Slot). left_in s p) (get_or-set_other row.slots (number - 1) place (less_left slot lots) no_slot other) ∙ stands.swept_none p place before'
          ];
    }

pub slot-at : (slots : List Slot) (number : ℕ) → 1 ≤ number → number ≤ length slots → slot_numbered slots number ≡ Some (get_or slots (number - 1) no_slot)
slot-at slots zero least most = absurd (omega arith)
slot-at slots (suc place) least most =
    cond-true (ltb 0 (suc place)) (slice_get slots (suc place - 1)) None (lt-ltb 0 (suc place) (omega arith)) ∙ slice_get-get_or slots (suc place - 1) no_slot (omega arith)

pub owner-at : (own : ℕ → ℕ → Option ℕ) (orders : List ActiveOrder) (bank number count : ℕ) (row : Row) → RowStands own orders bank count row → 1 ≤ number → number ≤ count → owner_numbered row.slots number ≡ own bank number
owner-at own orders bank number count row stands least most =
    ap (option_and_then (λ (s : Slot). s.owner)) (slot-at row.slots number least (omega (arith, stands.count_is)))
    ∙ (stands.each (number - 1) (omega arith)).owner ∙ ap (own bank) (omega arith)

row-here : (own : ℕ → ℕ → Option ℕ) (before after : List ActiveOrder) (pair bank number lots count : ℕ) (row : Row) → Loses before after pair bank number lots → 1 ≤ number → number ≤ count → RowStands own before bank count row → RowStands own after bank count (lowered_row row number lots)
row-here own before after pair bank number lots count row loses least most stands =
    let slot : Slot = get_or row.slots (number - 1) no_slot in
    subst (RowStands own after bank count) (sym (ap (lowered_by row number lots) (slot-at row.slots number least (omega (arith, stands.count_is)))))
    (row-owned own before after pair bank number lots count row slot.owner loses least most
    (ap (own bank) (omega arith) ∙ sym (stands.each (number - 1) (omega arith)).owner) stands)

-- ---- the accounts

pub accounts-here : (h : Header) (own : ℕ → ℕ → Option ℕ) (before after : List ActiveOrder) (pair bank number lots c : ℕ) → Loses before after pair bank number lots → is_client (own bank number) c ≡ true → reserved_of h own c after + lots * weight_of h pair ≡ reserved_of h own c before
accounts-here h own before after pair bank number lots c loses is =
    let sum : lots_worth (client_worth h own c) after + lots * client_worth h own c pair bank number ≡ lots_worth (client_worth h own c) before = loses.worth (client_worth h own c) in
    let mine : lots * client_worth h own c pair bank number ≡ lots * weight_of h pair = ap (λ t. lots * when t (weight_of h pair)) is in
    let one : reserved_of h own c after ≡ lots_worth (client_worth h own c) after = reserved-worth h own c after in
    let two : reserved_of h own c before ≡ lots_worth (client_worth h own c) before = reserved-worth h own c before in
    omega arith

accounts-other : (h : Header) (own : ℕ → ℕ → Option ℕ) (before after : List ActiveOrder) (pair bank number lots c : ℕ) → Loses before after pair bank number lots → is_client (own bank number) c ≡ false → reserved_of h own c after ≡ reserved_of h own c before
accounts-other h own before after pair bank number lots c loses is =
    let sum : lots_worth (client_worth h own c) after + lots * client_worth h own c pair bank number ≡ lots_worth (client_worth h own c) before = loses.worth (client_worth h own c) in
    let none : lots * client_worth h own c pair bank number ≡ 0 = ap (λ t. lots * when t (weight_of h pair)) is ∙ omega arith in
    let one : reserved_of h own c after ≡ lots_worth (client_worth h own c) after = reserved-worth h own c after in
    let two : reserved_of h own c before ≡ lots_worth (client_worth h own c) before = reserved-worth h own c before in
    omega arith

-- what the change of an account does: it takes the units from what is reserved, and adds to what is filled
pub record Gives (change : Sums → ℕ → Sums) (adds : ℕ → ℕ) : Type 0 where
  pub takes : (sums : Sums) (units : ℕ) → (change sums units).reserved ≡ sums.reserved - units
  pub fills : (sums : Sums) (units : ℕ) → (change sums units).filled ≡ sums.filled + adds units

pub record SumsStand (h : Header) (own : ℕ → ℕ → Option ℕ) (orders : List ActiveOrder) (filled_so : ℕ → ℕ) (count : ℕ) (accounts : List Sums) : Type 0 where
  pub filled : (c : ℕ) → c < count → (get_or accounts c no_sums).filled ≡ filled_so c
  pub reserved : (c : ℕ) → c < count → (get_or accounts c no_sums).reserved ≡ reserved_of h own c orders

sums-by : (h : Header) (own : ℕ → ℕ → Option ℕ) (before after : List ActiveOrder) (filled_so adds : ℕ → ℕ) (change : Sums → ℕ → Sums) (pair bank number lots count : ℕ) (accounts : List Sums) (owner : Option ℕ) → Loses before after pair bank number lots → Gives change adds → length accounts ≡ count → own bank number ≡ owner → SumsStand h own before filled_so count accounts → SumsStand h own after (λ c. filled_so c + when (is_client owner c) (adds (lots * weight_of h pair))) count (with_sums change (lots * weight_of h pair) accounts owner)
sums-by h own before after filled_so adds change pair bank number lots count accounts None loses gives full owner stands = record {
  filled = λ c within. stands.filled c within ∙ omega arith;
  reserved = λ c within. stands.reserved c within ∙ sym (accounts-other h own before after pair bank number lots c loses (ap (λ (o : Option ℕ). is_client o c) owner));
}
sums-by h own before after filled_so adds change pair bank number lots count accounts (Some who) loses gives full owner stands =
    let units : ℕ = lots * weight_of h pair in
    let new : Sums = change (get_or accounts who no_sums) (lots * weight_of h pair) in
    record {
      filled = λ c within.
          elim (cases_eq c who) [
            | inl same ↦
                let is : eqb who c ≡ true = eq-eqb who c (sym same) in
                ap (λ (s : Sums). s.filled) (ap (λ n. get_or (set accounts who new) n no_sums) same ∙ get_or-set_same accounts who new no_sums (omega arith))
                ∙ gives.fills (get_or accounts who no_sums) (lots * weight_of h pair)
                ∙ ap (λ n. n + adds (lots * weight_of h pair)) (ap (λ n. (get_or accounts n no_sums).filled) (sym same) ∙ stands.filled c within)
                ∙ ap (λ n. filled_so c + n) (sym (ap (λ t. when t (adds (lots * weight_of h pair))) is))
            | inr other ↦
                let is : eqb who c ≡ false = ne_eqb who c (λ same. other (sym same)) in
                let none : when (eqb who c) (adds (lots * weight_of h pair)) ≡ 0 = ap (λ t. when t (adds (lots * weight_of h pair))) is in
                ap (λ (s : Sums). s.filled) (get_or-set_other accounts who c new no_sums other) ∙ stands.filled c within ∙ omega arith
          ];
      reserved = λ c within.
          elim (cases_eq c who) [
            | inl same ↦
                let is : is_client (own bank number) c ≡ true = ap (λ (o : Option ℕ). is_client o c) owner ∙ eq-eqb who c (sym same) in
                let sum : reserved_of h own c after + lots * weight_of h pair ≡ reserved_of h own c before = accounts-here h own before after pair bank number lots c loses is in
                let had : (get_or accounts who no_sums).reserved ≡ reserved_of h own c before = ap (λ n. (get_or accounts n no_sums).reserved) (sym same) ∙ stands.reserved c within in
                ap (λ (s : Sums). s.reserved) (ap (λ n. get_or (set accounts who new) n no_sums) same ∙ get_or-set_same accounts who new no_sums (omega arith))
                ∙ gives.takes (get_or accounts who no_sums) (lots * weight_of h pair) ∙ omega arith
            | inr other ↦
                let is : is_client (own bank number) c ≡ false = ap (λ (o : Option ℕ). is_client o c) owner ∙ ne_eqb who c (λ same. other (sym same)) in
                ap (λ (s : Sums). s.reserved) (get_or-set_other accounts who c new no_sums other) ∙ stands.reserved c within
                ∙ sym (accounts-other h own before after pair bank number lots c loses is)
          ];
    }

-- ---- the book

pub side-stands : (h : Header) (own : ℕ → ℕ → Option ℕ) (counts : List ℕ) (before after : List ActiveOrder) (filled_so adds : ℕ → ℕ) (change : Sums → ℕ → Sums) (book : Book) (pair bank number lots : ℕ) → Stands h own counts before filled_so book → Loses before after pair bank number lots → Gives change adds → length book.accounts ≡ length book.clients → bank < sender_places h → 1 ≤ number → number ≤ get_or counts bank 0 → Stands h own counts after (λ c. filled_so c + when (is_client (own bank number) c) (adds (lots * weight_of h pair))) (side_with change book bank number pair lots)
side-stands h own counts before after filled_so adds change book pair bank number lots stands loses gives full sender least most =
    let mine : RowStands own before bank (get_or counts bank 0) (row_of book bank) = stands.rows bank sender in
    let owner : owner_numbered (row_of book bank).slots number ≡ own bank number = owner-at own before bank number (get_or counts bank 0) (row_of book bank) mine least most in
    let weight : get_or book.weights pair 0 ≡ weight_of h pair = ap (λ (ws : List ℕ). get_or ws pair 0) stands.weights in
    let sums : SumsStand h own after (λ c. filled_so c + when (is_client (own bank number) c) (adds (lots * weight_of h pair))) (length book.clients) (with_sums change (lots * weight_of h pair) book.accounts (own bank number)) =
    sums-by h own before after filled_so adds change pair bank number lots (length book.clients) book.accounts (own bank number) loses gives full refl (record { filled = stands.filled; reserved = stands.reserved }) in
    let same : with_sums change (lots * get_or book.weights pair 0) book.accounts (owner_numbered (row_of book bank).slots number) ≡ with_sums change (lots * weight_of h pair) book.accounts (own bank number) =
    ap (λ w. with_sums change (lots * w) book.accounts (owner_numbered (row_of book bank).slots number)) weight ∙ ap (with_sums change (lots * weight_of h pair) book.accounts) owner in
    record {
      weights = stands.weights;
      senders = length-set book.rows bank (lowered_row (row_of book bank) number lots) ∙ stands.senders;
      rows = λ b within.
          elim (cases_eq b bank) [
            | inl here ↦ subst (λ n. RowStands own after n (get_or counts n 0) (get_or (set book.rows bank (lowered_row (row_of book bank) number lots)) n no_row)) (sym here)
                (subst (RowStands own after bank (get_or counts bank 0)) (sym (get_or-set_same book.rows bank (lowered_row (row_of book bank) number lots) no_row (omega (arith, stands.senders))))
                (row-here own before after pair bank number lots (get_or counts bank 0) (row_of book bank) loses least most mine))
            | inr other ↦ subst (RowStands own after b (get_or counts b 0)) (sym (get_or-set_other book.rows bank b (lowered_row (row_of book bank) number lots) no_row other))
                (row-other own before after pair bank number lots b (get_or counts b 0) (row_of book b) loses other (stands.rows b within))
          ];
      filled = λ c within. ap (λ (sums : List Sums). (get_or sums c no_sums).filled) same ∙ sums.filled c within;
      reserved = λ c within. ap (λ (sums : List Sums). (get_or sums c no_sums).reserved) same ∙ sums.reserved c within;
    }
