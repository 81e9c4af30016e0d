-- What an outcome takes out of a book on its way.
use Rattle.std.proofs.Common.{ℕ, ◌≡◌, ◌+◌, ◌-◌, ◌*◌, ◌≤◌, ◌<◌, Bool, true, false, not, ◌&&◌, eqb, List, [], ◌∷◌, ◌++◌, inl, inr, refl, ap, sym, subst, ◌∙◌, arith, get_or, length, Option, Some, None}
use Rattle.std.proofs.Math.ListN.{set}
use Rattle.std.specs.Prelude.{is_some, option_and_then, ◌⊎◌}
use Rattle.std.proofs.lemmas.Bool.{and_right, and_from, eq-eqb}
use Rattle.fx_rules.specs.declared.orders.ActiveOrder.{ActiveOrder}
use Rattle.fx_rules.specs.declared.orders.Fill.{Fill}
use Rattle.fx_rules.specs.Lists.{Among, Each, EachPair}
use Rattle.fx_rules.specs.Session.{Header, pair_count}
use Rattle.fx_rules.specs.Sweep.{is_order}
use Rattle.fx_rules.specs.Step.{reduced}
use Rattle.fx_rules.specs.Sound.{Rises}
use Rattle.fx_rules.proofs.ListLemmas.{Each-filter}
use Rattle.client_desk.specs.declared.rows.Slot.{Slot}
use Rattle.client_desk.specs.Clients.{Tagged, owner_in, is_client, when, filled_of, filled_by}
use Rattle.client_desk.specs.Standing.{Sums, Row, Book, no_slot, row_of, left_of, SlotStands, RowStands, Stands}
use Rattle.client_desk.specs.Draws.{taken_out}
use Rattle.client_desk.specs.inside.Books.{slot_numbered}
use Rattle.client_desk.specs.inside.Numbers.{IsKnown}
use Rattle.client_desk.specs.inside.Changes.{CanGive, kept_left, left_at, lowered_by, lowered_row, owned_lower, owner_numbered, released_sums, side_with, with_sums}
use Rattle.client_desk.specs.inside.UnderWay.{IsAbove, IsUnderWay, IsOrderOf, counts_of}
use Rattle.client_desk.proofs.Draws.{NoneIs, offers-among}
use Rattle.client_desk.proofs.Lots.{worth-out}
use Rattle.client_desk.proofs.Within.{none-later, not-first, reduced-lowered}
use Rattle.client_desk.proofs.Holding.{Loses, side-stands, owner-at, slot-at}
use Rattle.client_desk.proofs.UnderWay.{can-give, lowered-loses, orders-lowered, releases-give, stands-filled}

-- ---- an order without an owner

owned-none : (row : Row) (number one other : ℕ) (slot : Slot) (owner : Option ℕ) → owner ≡ None → owned_lower row number one slot owner ≡ owned_lower row number other slot owner
owned-none row number one other slot None is = refl
owned-none row number one other slot (Some c) is = cc

lowered-none : (row : Row) (number one other : ℕ) (kept : Option Slot) → option_and_then (λ (s : Slot). s.owner) kept ≡ None → lowered_by row number one kept ≡ lowered_by row number other kept
lowered-none row number one other None is = refl
lowered-none row number one other (Some slot) is = owned-none row number one other slot slot.owner is

-- nothing of it is kept, however many lots it loses
side-unowned : (change : Sums → ℕ → Sums) (book : Book) (bank number pair one other : ℕ) → owner_numbered (row_of book bank).slots number ≡ None → side_with change book bank number pair one ≡ side_with change book bank number pair other
side-unowned change book bank number pair one other none =
    let row : lowered_row (row_of book bank) number one ≡ lowered_row (row_of book bank) number other =
    lowered-none (row_of book bank) number one other (slot_numbered (row_of book bank).slots number) none in
    let sums : with_sums change (one * get_or book.weights pair 0) book.accounts (owner_numbered (row_of book bank).slots number) ≡ with_sums change (other * get_or book.weights pair 0) book.accounts (owner_numbered (row_of book bank).slots number) =
    ap (with_sums change (one * get_or book.weights pair 0) book.accounts) none ∙ sym (ap (with_sums change (other * get_or book.weights pair 0) book.accounts) none) in
    ap (λ (r : Row). record book { rows = set book.rows bank r; accounts = with_sums change (one * get_or book.weights pair 0) book.accounts (owner_numbered (row_of book bank).slots number) }) row
    ∙ ap (λ (a : List Sums). record book { rows = set book.rows bank (lowered_row (row_of book bank) number other); accounts = a }) sums

-- ---- what is kept of an order

pub kept-left : (own : ℕ → ℕ → Option ℕ) (orders : List ActiveOrder) (bank number count pair : ℕ) (row : Row) → RowStands own orders bank count row → 1 ≤ number → number ≤ count → left_at (slot_numbered row.slots number) pair ≡ when (is_some (own bank number)) (left_of orders pair bank number)
kept-left own orders bank number count pair row stands least most =
    let named : number - 1 + 1 ≡ number = omega arith in
    let slot : SlotStands own orders bank number (get_or row.slots (number - 1) no_slot) =
    subst (λ n. SlotStands own orders bank n (get_or row.slots (number - 1) no_slot)) named (stands.each (number - 1) (omega arith)) in
    ap (λ (s : Option Slot). left_at s pair) (slot-at row.slots number least (omega (arith, stands.count_is))) ∙ slot.left pair

pub some-or-none : (o : Option ℕ) → ((c : ℕ) × (o ≡ Some c)) ⊎ (o ≡ None)
some-or-none None = inr refl
some-or-none (Some c) = inl (c, refl)

-- the book with the kept lots taken is that with the order's lots taken
kept-side : (change : Sums → ℕ → Sums) (own : ℕ → ℕ → Option ℕ) (orders : List ActiveOrder) (book : Book) (bank number count pair kept lots : ℕ) → RowStands own orders bank count (row_of book bank) → 1 ≤ number → number ≤ count → ((c : ℕ) → own bank number ≡ Some c → kept ≡ lots) → side_with change book bank number pair kept ≡ side_with change book bank number pair lots
kept-side change own orders book bank number count pair kept lots stands least most same =
    elim (some-or-none (own bank number)) [
      | inl some ↦ ap (side_with change book bank number pair) (same some.0 some.1)
      | inr none ↦ side-unowned change book bank number pair kept lots (owner-at own orders bank number count (row_of book bank) stands least most ∙ none)
    ]

when_zero : (t : Bool) → when t 0 ≡ 0
when_zero true = refl
when_zero false = refl

-- lots are taken out of an order
pub loses-way : (h : Header) (tagged : List Tagged) (t : Tagged) (before after : List ActiveOrder) (fills : List Fill) (book : Book) (pair bank number lots kept : ℕ) → IsUnderWay h tagged t before fills book → Loses before after pair bank number lots → Each (IsOrderOf h (counts_of h tagged t)) after → IsKnown h (counts_of h tagged t) bank number → length book.accounts ≡ length book.clients → ((c : ℕ) → owner_in (tagged ++ t ∷ []) bank number ≡ Some c → kept ≡ lots) → IsUnderWay h tagged t after fills (side_with released_sums book bank number pair kept)
loses-way h tagged t before after fills book pair bank number lots kept way loses orders_of known full same =
    let made : Stands h (owner_in (tagged ++ t ∷ [])) (counts_of h tagged t) after (λ c. filled_by h tagged c + filled_of h (owner_in (tagged ++ t ∷ [])) c fills + when (is_client (owner_in (tagged ++ t ∷ []) bank number) c) 0) (side_with released_sums book bank number pair lots) =
    side-stands h (owner_in (tagged ++ t ∷ [])) (counts_of h tagged t) before after (λ c. filled_by h tagged c + filled_of h (owner_in (tagged ++ t ∷ [])) c fills) (λ _. 0) released_sums book pair bank number lots way.stands loses releases-give full known.sender known.least known.most in
    record {
      tagged_is = way.tagged_is;
      orders_of = orders_of;
      stands = subst (Stands h (owner_in (tagged ++ t ∷ [])) (counts_of h tagged t) after (λ c. filled_by h tagged c + filled_of h (owner_in (tagged ++ t ∷ [])) c fills))
          (sym (kept-side released_sums (owner_in (tagged ++ t ∷ [])) before book bank number (get_or (counts_of h tagged t) bank 0) pair kept lots (way.stands.rows bank known.sender) known.least known.most same))
          (stands-filled h (owner_in (tagged ++ t ∷ [])) (counts_of h tagged t) after
          (λ c. filled_by h tagged c + filled_of h (owner_in (tagged ++ t ∷ [])) c fills + when (is_client (owner_in (tagged ++ t ∷ []) bank number) c) 0)
          (λ c. filled_by h tagged c + filled_of h (owner_in (tagged ++ t ∷ [])) c fills)
          (side_with released_sums book bank number pair lots)
          (λ c. let none : when (is_client (owner_in (tagged ++ t ∷ []) bank number) c) 0 ≡ 0 = when_zero (is_client (owner_in (tagged ++ t ∷ []) bank number) c) in omega arith)
          made);
    }

pub out-loses : (pair bank number : ℕ) (orders : List ActiveOrder) → Loses orders (taken_out pair bank number orders) pair bank number (left_of orders pair bank number)
out-loses pair bank number orders = record { worth = λ g. worth-out g pair bank number orders }

pub kept-owned : (h : Header) (tagged : List Tagged) (t : Tagged) (orders : List ActiveOrder) (fills : List Fill) (book : Book) (pair bank number : ℕ) → IsUnderWay h tagged t orders fills book → IsKnown h (counts_of h tagged t) bank number → (c : ℕ) → owner_in (tagged ++ t ∷ []) bank number ≡ Some c → kept_left book pair bank number ≡ left_of orders pair bank number
kept-owned h tagged t orders fills book pair bank number way known c is =
    kept-left (owner_in (tagged ++ t ∷ [])) orders bank number (get_or (counts_of h tagged t) bank 0) pair (row_of book bank) (way.stands.rows bank known.sender) known.least known.most
    ∙ ap (λ (o : Option ℕ). when (is_some o) (left_of orders pair bank number)) is

-- an order is taken out of a pair
pub take-way : (h : Header) (tagged : List Tagged) (t : Tagged) (orders : List ActiveOrder) (fills : List Fill) (book : Book) (pair bank number : ℕ) → IsUnderWay h tagged t orders fills book → IsKnown h (counts_of h tagged t) bank number → length book.accounts ≡ length book.clients → IsUnderWay h tagged t (taken_out pair bank number orders) fills (side_with released_sums book bank number pair (kept_left book pair bank number))
take-way h tagged t orders fills book pair bank number way known full =
    loses-way h tagged t orders (taken_out pair bank number orders) fills book pair bank number (left_of orders pair bank number) (kept_left book pair bank number) way (out-loses pair bank number orders)
    (Each-filter (IsOrderOf h (counts_of h tagged t)) (λ (a : ActiveOrder). not (eqb a.pair pair && is_order bank number a.order)) orders way.orders_of) known full
    (kept-owned h tagged t orders fills book pair bank number way known)

-- the lots of an order can be taken out where they are no more than are kept
give-none : (h : Header) (tagged : List Tagged) (t : Tagged) (orders : List ActiveOrder) (fills : List Fill) (book : Book) (pair bank number lots : ℕ) → IsUnderWay h tagged t orders fills book → pair < length book.weights → IsKnown h (counts_of h tagged t) bank number → owner_in (tagged ++ t ∷ []) bank number ≡ None → CanGive book bank number pair lots
give-none h tagged t orders fills book pair bank number lots way weighs known none =
    let owner : owner_numbered (row_of book bank).slots number ≡ None =
    owner-at (owner_in (tagged ++ t ∷ [])) orders bank number (get_or (counts_of h tagged t) bank 0) (row_of book bank) (way.stands.rows bank known.sender) known.least known.most ∙ none in
    record {
      sender = omega (arith, known.sender, way.stands.senders);
      weighs = weighs;
      lots_most = λ slot c at is.
          let found : owner_numbered (row_of book bank).slots number ≡ Some c = ap (option_and_then (λ (s : Slot). s.owner)) at ∙ is in
          cc;
      owner_in = λ c is. cc;
      units_most = λ c is. cc;
    }

pub can-lose : (h : Header) (tagged : List Tagged) (t : Tagged) (before after : List ActiveOrder) (fills : List Fill) (book : Book) (pair bank number lots kept : ℕ) → IsUnderWay h tagged t before fills book → Loses before after pair bank number lots → pair < pair_count h → pair < length book.weights → IsKnown h (counts_of h tagged t) bank number → length book.accounts ≡ length book.clients → ((c : ℕ) → owner_in (tagged ++ t ∷ []) bank number ≡ Some c → kept ≡ lots) → CanGive book bank number pair kept
can-lose h tagged t before after fills book pair bank number lots kept way loses within weighs known full same =
    elim (some-or-none (owner_in (tagged ++ t ∷ []) bank number)) [
      | inl some ↦ subst (CanGive book bank number pair) (sym (same some.0 some.1))
          (can-give h tagged t before after fills book pair bank number lots way loses weighs known full)
      | inr none ↦ give-none h tagged t before fills book pair bank number kept way weighs known none
    ]

pub can-take : (h : Header) (tagged : List Tagged) (t : Tagged) (orders : List ActiveOrder) (fills : List Fill) (book : Book) (pair bank number : ℕ) → IsUnderWay h tagged t orders fills book → pair < pair_count h → pair < length book.weights → IsKnown h (counts_of h tagged t) bank number → length book.accounts ≡ length book.clients → CanGive book bank number pair (kept_left book pair bank number)
can-take h tagged t orders fills book pair bank number way within weighs known full =
    can-lose h tagged t orders (taken_out pair bank number orders) fills book pair bank number (left_of orders pair bank number) (kept_left book pair bank number) way (out-loses pair bank number orders) within weighs known full
    (kept-owned h tagged t orders fills book pair bank number way known)

-- ---- a reduction

pub none-left : (orders : List ActiveOrder) (pair bank number : ℕ) → NoneIs bank number orders → left_of orders pair bank number ≡ 0
none-left [] pair bank number none = refl
none-left (a ∷ orders) pair bank number none =
    let here : when (eqb a.pair pair && is_order bank number a.order) a.order.left ≡ 0 = ap (λ t. when t a.order.left) (and_right (eqb a.pair pair) (is_order bank number a.order) none.0) in
    let rest : left_of orders pair bank number ≡ 0 = none-left orders pair bank number none.1 in
    omega arith

-- the only order of a bank and number has the lots that are left of it
only-left : (orders : List ActiveOrder) (a : ActiveOrder) (pair bank number : ℕ) → EachPair Rises orders → Among a orders → a.pair ≡ pair → is_order bank number a.order ≡ true → left_of orders pair bank number ≡ a.order.left
only-left [] a pair bank number rising there of_pair is = absurd there
only-left (b ∷ orders) a pair bank number rising (inl same) of_pair is =
    let mine : (eqb b.pair pair && is_order bank number b.order) ≡ true =
    subst (λ (x : ActiveOrder). (eqb x.pair pair && is_order bank number x.order) ≡ true) same (and_from (eqb a.pair pair) (is_order bank number a.order) (eq-eqb a.pair pair of_pair) is) in
    let here : when (eqb b.pair pair && is_order bank number b.order) b.order.left ≡ b.order.left = ap (λ t. when t b.order.left) mine in
    let rest : left_of orders pair bank number ≡ 0 = none-left orders pair bank number (none-later bank number b orders rising.0 (ap (λ (x : ActiveOrder). is_order bank number x.order) (sym same) ∙ is)) in
    let left : a.order.left ≡ b.order.left = ap (λ (x : ActiveOrder). x.order.left) same in
    omega arith
only-left (b ∷ orders) a pair bank number rising (inr there) of_pair is =
    let other : is_order bank number b.order ≡ false = not-first bank number b a orders rising.0 there is in
    let here : when (eqb b.pair pair && is_order bank number b.order) b.order.left ≡ 0 = ap (λ t. when t b.order.left) (and_right (eqb b.pair pair) (is_order bank number b.order) other) in
    let rest : left_of orders pair bank number ≡ a.order.left = only-left orders a pair bank number rising.1 there of_pair is in
    omega arith

-- an order is reduced
pub reduce-loses : (orders : List ActiveOrder) (a : ActiveOrder) (pair bank number left : ℕ) → EachPair Rises orders → Among a orders → a.pair ≡ pair → is_order bank number a.order ≡ true → 1 ≤ left → left < a.order.left → Loses orders (reduced bank number left orders) pair bank number (left_of orders pair bank number - left)
reduce-loses orders a pair bank number left rising there of_pair is some less =
    let all : left_of orders pair bank number ≡ a.order.left = only-left orders a pair bank number rising there of_pair is in
    subst (λ n. Loses orders (reduced bank number left orders) pair bank number n) (ap (λ n. n - left) (sym all))
    (subst (λ (os : List ActiveOrder). Loses orders os pair bank number (a.order.left - left)) (sym (reduced-lowered bank number left orders a rising there is some less))
    (lowered-loses pair bank number (a.order.left - left) orders (offers-among orders a pair bank number (a.order.left - left) rising there of_pair is (omega arith))))

reduced-of : (h : Header) (counts : List ℕ) (orders : List ActiveOrder) (a : ActiveOrder) (bank number left : ℕ) → EachPair Rises orders → Among a orders → is_order bank number a.order ≡ true → 1 ≤ left → left < a.order.left → Each (IsOrderOf h counts) orders → Each (IsOrderOf h counts) (reduced bank number left orders)
reduced-of h counts orders a bank number left rising there is some less orders_of =
    subst (Each (IsOrderOf h counts)) (sym (reduced-lowered bank number left orders a rising there is some less))
    (orders-lowered h counts bank number (a.order.left - left) orders orders_of)

-- an order is reduced, and can be
pub reduce-way : (h : Header) (tagged : List Tagged) (t : Tagged) (orders : List ActiveOrder) (fills : List Fill) (book : Book) (pair bank number left kept : ℕ) → IsUnderWay h tagged t orders fills book → IsKnown h (counts_of h tagged t) bank number → length book.accounts ≡ length book.clients → IsAbove orders pair bank number left → kept ≡ kept_left book pair bank number - left → IsUnderWay h tagged t (reduced bank number left orders) fills (side_with released_sums book bank number pair kept)
reduce-way h tagged t orders fills book pair bank number left kept way known full above is =
    loses-way h tagged t orders (reduced bank number left orders) fills book pair bank number (left_of orders pair bank number - left) kept way
    (reduce-loses orders above.active pair bank number left above.rising above.among above.of_pair above.is above.some above.less)
    (reduced-of h (counts_of h tagged t) orders above.active bank number left above.rising above.among above.is above.some above.less way.orders_of) known full
    (λ c owned. is ∙ ap (λ n. n - left) (kept-owned h tagged t orders fills book pair bank number way known c owned))

pub can-reduce : (h : Header) (tagged : List Tagged) (t : Tagged) (orders : List ActiveOrder) (fills : List Fill) (book : Book) (pair bank number left kept : ℕ) → IsUnderWay h tagged t orders fills book → IsKnown h (counts_of h tagged t) bank number → pair < pair_count h → pair < length book.weights → length book.accounts ≡ length book.clients → IsAbove orders pair bank number left → kept ≡ kept_left book pair bank number - left → CanGive book bank number pair kept
can-reduce h tagged t orders fills book pair bank number left kept way known within weighs full above is =
    can-lose h tagged t orders (reduced bank number left orders) fills book pair bank number (left_of orders pair bank number - left) kept way
    (reduce-loses orders above.active pair bank number left above.rising above.among above.of_pair above.is above.some above.less) within weighs known full
    (λ c owned. is ∙ ap (λ n. n - left) (kept-owned h tagged t orders fills book pair bank number way known c owned))
