-- What is read off a book is what the histories have that it stands for.
use Rattle.std.proofs.Common.{ℕ, zero, suc, ◌≡◌, ◌-◌, ◌≤◌, ◌<◌, Bool, true, false, ◌&&◌, eqb, ltb, List, [], ◌∷◌, ◌++◌, inl, inr, refl, ap, sym, subst, ◌∙◌, arith, get_or, length, map, Option, Some, None, find, replicate}
use Rattle.std.specs.Prelude.{◌⊎◌, is_some, slice_get, option_and_then}
use Rattle.std.proofs.lemmas.Bool.{cases_lt, cases_Bool, cond-true, cond-false, and_left, and_right, ltb-true, ltb-false, lt-ltb}
use Rattle.std.proofs.lemmas.Option.{slice_get-get_or, slice_get_past}
use Rattle.fx_rules.specs.declared.orders.ActiveOrder.{ActiveOrder}
use Rattle.fx_rules.specs.declared.orders.Resting.{Resting}
use Rattle.fx_rules.specs.Lists.{Each}
use Rattle.fx_rules.specs.Session.{Header, IsSession, sender_places}
use Rattle.fx_rules.specs.State.{State, orders_in}
use Rattle.fx_rules.specs.Sweep.{is_order}
use Rattle.fx_rules.specs.Raise.{order_of}
use Rattle.fx_rules.specs.Sound.{IsSound, IsKept}
use Rattle.fx_rules.proofs.ListLemmas.{Each-weaker}
use Rattle.fx_rules.proofs.Planning.{orders_in-here, orders_in-there}
use Rattle.fx_rules.proofs.Soundness.{legal-sound}
use Rattle.client_desk.specs.declared.client.Client.{Client}
use Rattle.client_desk.specs.declared.rows.Slot.{Slot}
use Rattle.client_desk.specs.Clients.{Tagged, entries_of, state_of, owner_in, is_client, when, bank_of_client, rests_for}
use Rattle.client_desk.specs.Standing.{Sums, Row, Book, no_sums, no_slot, no_row, account_of, row_of, left_in, left_of, SlotStands, RowStands, StandsFor}
use Rattle.client_desk.specs.inside.Books.{AreAllEmpty, empty_row, slot_numbered, slot_rests, some_rests, rests_in, owner_at}
use Rattle.client_desk.proofs.Owners.{IsKnown, owner-none}

-- ---- what is kept of a command

numbered : (slots : List Slot) (place : ℕ) → slot_numbered slots (suc place) ≡ slice_get slots place
numbered slots place =
    cond-true (ltb 0 (suc place)) (slice_get slots (suc place - 1)) None (lt-ltb 0 (suc place) (omega arith)) ∙ ap (slice_get slots) (omega arith)

pub record IsSlotOf (own : ℕ → ℕ → Option ℕ) (orders : List ActiveOrder) (bank number : ℕ) (slots : List Slot) : Type 0 where
  pub slot : Slot
  pub is : slot_numbered slots number ≡ Some slot
  pub stands : SlotStands own orders bank number slot

pub slot-cases : (own : ℕ → ℕ → Option ℕ) (orders : List ActiveOrder) (bank count number : ℕ) (row : Row) → RowStands own orders bank count row → IsSlotOf own orders bank number row.slots ⊎ ((slot_numbered row.slots number ≡ None) × ((number ≡ 0) ⊎ (count < number)))
slot-cases own orders bank count zero row stands = inr (refl, inl refl)
slot-cases own orders bank count (suc place) row stands =
    elim (cases_Bool (ltb place (length row.slots))) [
      | inl within ↦
          let lt : place < length row.slots = ltb-true place (length row.slots) within in
          inl (record {
            slot = get_or row.slots place no_slot;
            is = numbered row.slots place ∙ slice_get-get_or row.slots place no_slot lt;
            stands = subst (λ n. SlotStands own orders bank n (get_or row.slots place no_slot)) (omega arith) (stands.each place (omega (arith, stands.count_is)));
          })
      | inr past ↦
          let le : length row.slots ≤ place = ltb-false place (length row.slots) past in
          inr (numbered row.slots place ∙ slice_get_past row.slots place le, inr (omega (arith, stands.count_is)))
    ]

-- ---- orders that rest

-- the lots that an order has left tell whether it rests
pub left-rests : (orders : List ActiveOrder) (pair bank number : ℕ) → Each (λ (a : ActiveOrder). 1 ≤ a.order.left) orders → ltb 0 (left_of orders pair bank number) ≡ is_some (find (λ (o : Resting). is_order bank number o) (orders_in pair orders))
left-rests [] pair bank number some = refl
left-rests (a ∷ orders) pair bank number some =
    let rest : ltb 0 (left_of orders pair bank number) ≡ is_some (find (λ (o : Resting). is_order bank number o) (orders_in pair orders)) = left-rests orders pair bank number some.1 in
    elim (cases_Bool (eqb a.pair pair)) [
      | inr other ↦
          let none : when (eqb a.pair pair && is_order bank number a.order) a.order.left ≡ 0 = ap (λ t. when t a.order.left) (and_left (eqb a.pair pair) (is_order bank number a.order) other) in
          let same : left_of (a ∷ orders) pair bank number ≡ left_of orders pair bank number = omega arith in
          ap (ltb 0) same ∙ rest ∙ ap (λ (os : List Resting). is_some (find (λ (o : Resting). is_order bank number o) os)) (sym (orders_in-there pair a orders other))
      | inl of_pair ↦ elim (cases_Bool (is_order bank number a.order)) [
        | inr other ↦
            let none : when (eqb a.pair pair && is_order bank number a.order) a.order.left ≡ 0 = ap (λ t. when t a.order.left) (and_right (eqb a.pair pair) (is_order bank number a.order) other) in
            let same : left_of (a ∷ orders) pair bank number ≡ left_of orders pair bank number = omega arith in
            ap (ltb 0) same ∙ rest
            ∙ sym (ap (λ (os : List Resting). is_some (find (λ (o : Resting). is_order bank number o) os)) (orders_in-here pair a orders of_pair)
            ∙ ap is_some (cond-false (is_order bank number a.order) (Some a.order) (find (λ (o : Resting). is_order bank number o) (orders_in pair orders)) other))
        | inl here ↦
            let all : when (eqb a.pair pair && is_order bank number a.order) a.order.left ≡ a.order.left =
            ap (λ t. when (t && is_order bank number a.order) a.order.left) of_pair ∙ ap (λ t. when t a.order.left) here in
            lt-ltb 0 (left_of (a ∷ orders) pair bank number) (omega (arith, some.0))
            ∙ sym (ap (λ (os : List Resting). is_some (find (λ (o : Resting). is_order bank number o) os)) (orders_in-here pair a orders of_pair)
            ∙ ap is_some (cond-true (is_order bank number a.order) (Some a.order) (find (λ (o : Resting). is_order bank number o) (orders_in pair orders)) here))
      ]
    ]

pub lefts-least : (h : Header) (S : State) → IsSound h S → Each (λ (a : ActiveOrder). 1 ≤ a.order.left) S.orders
lefts-least h S sound = Each-weaker (IsKept h S.counts) (λ (a : ActiveOrder). 1 ≤ a.order.left) (λ a kept. kept.left.0) S.orders sound.kept

left-pair : (slot : Slot) (pair : ℕ) → (eqb slot.pair pair && ltb 0 slot.left) ≡ ltb 0 (left_in slot pair)
left-pair slot pair =
    elim (cases_Bool (eqb slot.pair pair)) [
      | inl is ↦ ap (λ t. t && ltb 0 slot.left) is ∙ ap (ltb 0) (sym (cond-true (eqb slot.pair pair) slot.left 0 is))
      | inr is ↦ ap (λ t. t && ltb 0 slot.left) is ∙ ap (ltb 0) (sym (cond-false (eqb slot.pair pair) slot.left 0 is))
    ]

client-some : (own : Option ℕ) (c : ℕ) → is_client own c ≡ true → is_some own ≡ true
client-some None c is = cc
client-some (Some who) c is = refl

and-assoc : (a b c : Bool) → (a && b && c) ≡ (a && (b && c))
and-assoc true b c = refl
and-assoc false b c = refl

-- an order rests for a client by what is kept of it
slot-rests : (own : ℕ → ℕ → Option ℕ) (orders : List ActiveOrder) (bank number pair c : ℕ) (slot : Slot) → Each (λ (a : ActiveOrder). 1 ≤ a.order.left) orders → SlotStands own orders bank number slot → slot_rests slot c pair ≡ (is_client (own bank number) c && is_some (find (λ (o : Resting). is_order bank number o) (orders_in pair orders)))
slot-rests own orders bank number pair c slot some stands =
    and-assoc (is_client slot.owner c) (eqb slot.pair pair) (ltb 0 slot.left)
    ∙ ap (λ t. is_client slot.owner c && t) (left-pair slot pair)
    ∙ ap (λ o. is_client o c && ltb 0 (left_in slot pair)) stands.owner
    ∙ elim (cases_Bool (is_client (own bank number) c)) [
      | inr not' ↦ and_left (is_client (own bank number) c) (ltb 0 (left_in slot pair)) not' ∙ sym (and_left (is_client (own bank number) c) (is_some (find (λ (o : Resting). is_order bank number o) (orders_in pair orders))) not')
      | inl is ↦ ap (λ n. is_client (own bank number) c && ltb 0 n)
          (stands.left pair ∙ cond-true (is_some (own bank number)) (left_of orders pair bank number) 0 (client-some (own bank number) c is))
          ∙ ap (λ t. is_client (own bank number) c && t) (left-rests orders pair bank number some)
    ]

not-known : (h : Header) (counts : List ℕ) (bank number : ℕ) → (number ≡ 0) ⊎ (get_or counts bank 0 < number) → ¬ (IsKnown h counts bank number)
not-known h counts bank number (inl none) known = omega (arith, known.least)
not-known h counts bank number (inr past) known = omega (arith, known.most)

pub rests-is : (h : Header) (tagged : List Tagged) (book : Book) (c pair number : ℕ) → StandsFor h tagged book → bank_of_client book.clients c < sender_places h → rests_in book c pair number ≡ rests_for h book.clients tagged c pair number
rests-is h tagged book c pair number stands within =
    let bank : ℕ = bank_of_client book.clients c in
    let S : State = state_of h tagged in
    let sound : IsSound h S = legal-sound h (entries_of tagged) stands.tagged_is.legal in
    elim (slot-cases (owner_in tagged) S.orders bank (get_or S.counts bank 0) number (row_of book bank) (stands.stands.rows bank within)) [
      | inl is ↦ ap (λ (s : Option Slot). some_rests s c pair) is.is
          ∙ slot-rests (owner_in tagged) S.orders bank number pair c is.slot (lefts-least h S sound) is.stands
      | inr none ↦
          let unowned : owner_in tagged bank number ≡ None = owner-none h tagged bank number stands.tagged_is.legal (not-known h S.counts bank number none.1) in
          ap (λ (s : Option Slot). some_rests s c pair) none.0
          ∙ sym (ap (λ (o : Option ℕ). is_client o c && is_some (order_of S pair bank number)) unowned)
    ]

-- a sender without a row has sent nothing
no-row : (rows : List Row) (bank : ℕ) → length rows ≤ bank → get_or rows bank no_row ≡ no_row
no-row [] bank past = refl
no-row (row ∷ rows) zero past = absurd (omega arith)
no-row (row ∷ rows) (suc bank) past = no-row rows bank (omega arith)

none-numbered : (number : ℕ) → option_and_then (λ (s : Slot). s.owner) (slot_numbered [] number) ≡ None
none-numbered zero = refl
none-numbered (suc number) = ap (option_and_then (λ (s : Slot). s.owner)) (numbered [] number)

-- the owner of a command
pub owner-is : (h : Header) (tagged : List Tagged) (book : Book) (bank number : ℕ) → StandsFor h tagged book → owner_at book bank number ≡ owner_in tagged bank number
owner-is h tagged book bank number stands =
    let S : State = state_of h tagged in
    elim (cases_Bool (ltb bank (sender_places h))) [
      | inl lt ↦ elim (slot-cases (owner_in tagged) S.orders bank (get_or S.counts bank 0) number (row_of book bank) (stands.stands.rows bank (ltb-true bank (sender_places h) lt))) [
        | inl is ↦ ap (option_and_then (λ (s : Slot). s.owner)) is.is ∙ is.stands.owner
        | inr none ↦ ap (option_and_then (λ (s : Slot). s.owner)) none.0
            ∙ sym (owner-none h tagged bank number stands.tagged_is.legal (not-known h S.counts bank number none.1))
      ]
      | inr ge ↦
          let le : sender_places h ≤ bank = ltb-false bank (sender_places h) ge in
          ap (λ (row : Row). option_and_then (λ (s : Slot). s.owner) (slot_numbered row.slots number)) (no-row book.rows bank (omega (arith, stands.stands.senders)))
          ∙ none-numbered number
          ∙ sym (owner-none h tagged bank number stands.tagged_is.legal (λ known. omega (arith, known.sender)))
    ]

-- ---- a book that opens

the-row : (rows : List Row) (bank : ℕ) → AreAllEmpty rows → bank < length rows → get_or rows bank no_row ≡ empty_row
the-row [] bank empty within = absurd (omega arith)
the-row (row ∷ rows) zero empty within = empty.0
the-row (row ∷ rows) (suc bank) empty within = the-row rows bank empty.1 (omega arith)

no-account : (n c : ℕ) → get_or (replicate n no_sums) c no_sums ≡ no_sums
no-account zero c = refl
no-account (suc n) zero = refl
no-account (suc n) (suc c) = no-account n c

no-count : (n bank : ℕ) → get_or (replicate {A = ℕ} n 0) bank 0 ≡ 0
no-count zero bank = refl
no-count (suc n) zero = refl
no-count (suc n) (suc bank) = no-count n bank

pub opens-for : (h : Header) (book : Book) (n : ℕ) → IsSession h → book.weights ≡ map (λ rule. rule.weight) h.pairs → book.accounts ≡ replicate n no_sums → length book.rows ≡ sender_places h → AreAllEmpty book.rows → StandsFor h [] book
opens-for h book n session weights accounts senders empty = record {
  tagged_is = record { legal = record { session = session; steps = tt }; tags = tt; passed = tt };
  stands = record {
    weights = weights;
    senders = senders;
    rows = λ bank within. subst (RowStands (owner_in []) [] bank (get_or (replicate (sender_places h) 0) bank 0)) (sym (the-row book.rows bank empty (omega arith))) (record {
      count_is = sym (no-count (sender_places h) bank);
      each = λ place past. absurd (omega (arith, no-count (sender_places h) bank));
      swept_most = λ pair. omega (arith, no-count 32 pair);
      swept_none = λ pair place past. absurd (omega (arith, no-count 32 pair));
    });
    filled = λ c within. ap (λ (s : Sums). s.filled) (ap (λ (sums : List Sums). get_or sums c no_sums) accounts ∙ no-account n c);
    reserved = λ c within. ap (λ (s : Sums). s.reserved) (ap (λ (sums : List Sums). get_or sums c no_sums) accounts ∙ no-account n c);
  };
}

-- ---- one client more

account-more : (sums : List Sums) (c : ℕ) → get_or (sums ++ no_sums ∷ []) c no_sums ≡ get_or sums c no_sums
account-more [] zero = refl
account-more [] (suc c) = refl
account-more (s ∷ sums) zero = refl
account-more (s ∷ sums) (suc c) = account-more sums c

account-out : (sums : List Sums) (c : ℕ) → length sums ≤ c → get_or sums c no_sums ≡ no_sums
account-out [] c out = refl
account-out (s ∷ sums) zero out = absurd (omega arith)
account-out (s ∷ sums) (suc c) out = account-out sums c (omega arith)

-- no client has anything before the first command
no-filled : (h : Header) (book : Book) (c : ℕ) → StandsFor h [] book → length book.accounts ≡ length book.clients → (account_of book c).filled ≡ 0
no-filled h book c stands full = elim (cases_lt c (length book.clients)) [
  | inl within ↦ stands.stands.filled c within
  | inr out ↦ ap (λ (s : Sums). s.filled) (account-out book.accounts c (omega (arith, full)))
]

no-reserved : (h : Header) (book : Book) (c : ℕ) → StandsFor h [] book → length book.accounts ≡ length book.clients → (account_of book c).reserved ≡ 0
no-reserved h book c stands full = elim (cases_lt c (length book.clients)) [
  | inl within ↦ stands.stands.reserved c within
  | inr out ↦ ap (λ (s : Sums). s.reserved) (account-out book.accounts c (omega (arith, full)))
]

pub declared-for : (h : Header) (book new : Book) (client : Client) → StandsFor h [] book → length book.accounts ≡ length book.clients → new ≡ record book { clients = book.clients ++ client ∷ []; accounts = book.accounts ++ no_sums ∷ [] } → StandsFor h [] new
declared-for h book new client stands full is =
    subst (StandsFor h []) (sym is) (record {
      tagged_is = record { legal = stands.tagged_is.legal; tags = tt; passed = tt };
      stands = record {
        weights = stands.stands.weights;
        senders = stands.stands.senders;
        rows = stands.stands.rows;
        filled = λ c within. ap (λ (s : Sums). s.filled) (account-more book.accounts c) ∙ no-filled h book c stands full;
        reserved = λ c within. ap (λ (s : Sums). s.reserved) (account-more book.accounts c) ∙ no-reserved h book c stands full;
      };
    })
