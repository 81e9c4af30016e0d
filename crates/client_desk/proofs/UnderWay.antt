-- A book on its way from a history to one that is longer by an entry, step by step.
use Rattle.std.proofs.Common.{ℕ, ◌≡◌, ◌+◌, ◌-◌, ◌*◌, ◌≤◌, ◌<◌, ◌&&◌, true, eqb, List, [], ◌∷◌, ◌++◌, inl, inr, refl, ap, sym, subst, ◌∙◌, arith, get_or, length, Option, Some, None, length-set}
use Rattle.std.specs.Prelude.{is_some}
use Rattle.std.proofs.lemmas.List.{length-map}
use Rattle.std.proofs.lemmas.Bool.{cases_Bool, cond-true, cond-false, eq-eqb}
use Rattle.fx_rules.specs.declared.orders.ActiveOrder.{ActiveOrder}
use Rattle.fx_rules.specs.declared.orders.Fill.{Fill}
use Rattle.fx_rules.specs.declared.session.PairRule.{PairRule}
use Rattle.fx_rules.specs.Lists.{Each}
use Rattle.fx_rules.specs.Session.{Header, pair_count, weight_of}
use Rattle.fx_rules.specs.Sweep.{lowered}
use Rattle.fx_rules.proofs.ListLemmas.{total-append}
use Rattle.fx_rules.proofs.Lowering.{Each-lowered, is_order-says}
use Rattle.client_desk.specs.declared.client.Client.{Client}
use Rattle.client_desk.specs.declared.rows.Slot.{Slot}
use Rattle.client_desk.specs.Clients.{Tagged, IsTagOf, owner_in, is_client, when, side_cost, filled_of, filled_by, reserved_of}
use Rattle.client_desk.specs.Standing.{Sums, Book, no_slot, no_sums, row_of, left_in, left_of, SlotStands, RowStands, Stands}
use Rattle.client_desk.specs.Draws.{Offers, drawn, IsDrawn}
use Rattle.client_desk.specs.inside.Numbers.{IsKnown}
use Rattle.client_desk.specs.inside.Changes.{CanGive, with_sums, filled_sums, owner_numbered, released_sums, side_with}
use Rattle.client_desk.specs.inside.UnderWay.{IsUnderWay, IsOrderOf, counts_of}
use Rattle.client_desk.proofs.Draws.{offers-cases}
use Rattle.client_desk.proofs.Lots.{worth-lowered}
use Rattle.client_desk.proofs.Holding.{Loses, Gives, accounts-here, left-here, side-stands, owner-at, slot-at}
use Rattle.client_desk.proofs.Owners.{owner-here, owner-later}

-- what is filled may be said otherwise
pub stands-filled : (h : Header) (own : ℕ → ℕ → Option ℕ) (counts : List ℕ) (orders : List ActiveOrder) (one other : ℕ → ℕ) (book : Book) → ((c : ℕ) → one c ≡ other c) → Stands h own counts orders one book → Stands h own counts orders other book
stands-filled h own counts orders one other book same stands = record {
  weights = stands.weights;
  senders = stands.senders;
  rows = stands.rows;
  filled = λ c within. stands.filled c within ∙ same c;
  reserved = stands.reserved;
}

pub lowered-loses : (pair bank number lots : ℕ) (orders : List ActiveOrder) → Offers orders pair bank number lots → Loses orders (lowered bank number lots orders) pair bank number lots
lowered-loses pair bank number lots orders offers = record { worth = λ g. worth-lowered g pair bank number lots orders offers }

-- an owner is one of the clients
owner-within : (clients : List Client) (ts : List Tagged) (bank number c : ℕ) → Each (IsTagOf clients) ts → owner_in ts bank number ≡ Some c → c < length clients
owner-within clients [] bank number c tags is = cc
owner-within clients (t ∷ ts) bank number c tags is =
    elim (cases_Bool (eqb t.entry.bank bank && eqb t.entry.number number)) [
      | inl here ↦ (tags.0 c (sym (owner-here t ts bank number here) ∙ is)).0
      | inr later ↦ owner-within clients ts bank number c tags.1 (sym (owner-later t ts bank number later) ∙ is)
    ]

-- what an offered order is
offers-order : (h : Header) (counts : List ℕ) (orders : List ActiveOrder) (pair bank number lots : ℕ) → Each (IsOrderOf h counts) orders → Offers orders pair bank number lots → IsKnown h counts bank number × (pair < pair_count h)
offers-order h counts [] pair bank number lots orders_of offers = absurd offers
offers-order h counts (a ∷ orders) pair bank number lots orders_of offers =
    elim (offers-cases a orders pair bank number lots offers) [
      | inl here ↦
          let says = is_order-says bank number a.order here.0 in (
            subst (λ b. IsKnown h counts b number) says.0 (subst (λ n. IsKnown h counts a.order.bank n) says.1 orders_of.0.known),
            subst (λ p. p < pair_count h) here.1 orders_of.0.pair,
          )
      | inr later ↦ offers-order h counts orders pair bank number lots orders_of.1 later.1
    ]

pub orders-lowered : (h : Header) (counts : List ℕ) (bank number lots : ℕ) (orders : List ActiveOrder) → Each (IsOrderOf h counts) orders → Each (IsOrderOf h counts) (lowered bank number lots orders)
orders-lowered h counts bank number lots orders orders_of =
    Each-lowered (IsOrderOf h counts) (λ a left is some _. record { known = is.known; pair = is.pair; least = some }) bank number lots orders orders_of

same_slot : (a b : Slot) → Some a ≡ Some b → a ≡ b
same_slot a b same = cc

left-most : (slot : Slot) (pair : ℕ) → left_in slot pair ≤ slot.left
left-most slot pair =
    elim (cases_Bool (eqb slot.pair pair)) [
      | inl is ↦ let all : left_in slot pair ≡ slot.left = cond-true (eqb slot.pair pair) slot.left 0 is in omega arith
      | inr other ↦ let none : left_in slot pair ≡ 0 = cond-false (eqb slot.pair pair) slot.left 0 other in omega arith
    ]

-- the place of an owner's order has the lots that the order loses
slot-most : (own : ℕ → ℕ → Option ℕ) (before after : List ActiveOrder) (pair bank number lots c : ℕ) (slot : Slot) → Loses before after pair bank number lots → SlotStands own before bank number slot → slot.owner ≡ Some c → lots ≤ slot.left
slot-most own before after pair bank number lots c slot loses stands is =
    let all : left_in slot pair ≡ left_of before pair bank number =
    stands.left pair ∙ ap (λ (o : Option ℕ). when (is_some o) (left_of before pair bank number)) (sym stands.owner ∙ is) in
    let sum : left_of after pair bank number + when (eqb pair pair) lots ≡ left_of before pair bank number = left-here before after pair bank number lots pair loses in
    let whole : when (eqb pair pair) lots ≡ lots = ap (λ t. when t lots) (eq-eqb pair pair refl) in
    omega (arith, left-most slot pair)

sums-by : (change : Sums → ℕ → Sums) (units : ℕ) (accounts : List Sums) (owner : Option ℕ) → length (with_sums change units accounts owner) ≡ length accounts
sums-by change units accounts None = refl
sums-by change units accounts (Some c) = length-set accounts c (change (get_or accounts c no_sums) units)

sums-length : (change : Sums → ℕ → Sums) (book : Book) (bank number pair lots : ℕ) → length book.accounts ≡ length book.clients → length (with_sums change (lots * get_or book.weights pair 0) book.accounts (owner_numbered (row_of book bank).slots number)) ≡ length book.clients
sums-length change book bank number pair lots full = sums-by change (lots * get_or book.weights pair 0) book.accounts (owner_numbered (row_of book bank).slots number) ∙ full

-- an order that loses lots can give them
pub can-give-of : (h : Header) (own : ℕ → ℕ → Option ℕ) (counts : List ℕ) (before after : List ActiveOrder) (filled_so : ℕ → ℕ) (book : Book) (pair bank number lots : ℕ) → Stands h own counts before filled_so book → ((c : ℕ) → own bank number ≡ Some c → c < length book.clients) → Loses before after pair bank number lots → pair < length book.weights → IsKnown h counts bank number → length book.accounts ≡ length book.clients → CanGive book bank number pair lots
can-give-of h own counts before after filled_so book pair bank number lots stands owned loses weighs known full =
    let row : RowStands own before bank (get_or counts bank 0) (row_of book bank) = stands.rows bank known.sender in
    let owner : owner_numbered (row_of book bank).slots number ≡ own bank number = owner-at own before bank number (get_or counts bank 0) (row_of book bank) row known.least known.most in
    let weight : get_or book.weights pair 0 ≡ weight_of h pair = ap (λ (ws : List ℕ). get_or ws pair 0) stands.weights in
    record {
      sender = omega (arith, known.sender, stands.senders);
      weighs = weighs;
      lots_most = λ slot c at is.
          let found : slot ≡ get_or (row_of book bank).slots (number - 1) no_slot =
          same_slot slot (get_or (row_of book bank).slots (number - 1) no_slot) (sym at ∙ slot-at (row_of book bank).slots number known.least (omega (arith, row.count_is, known.most))) in
          let kept : SlotStands own before bank number slot =
          subst (SlotStands own before bank number) (sym found)
          (subst (λ n. SlotStands own before bank n (get_or (row_of book bank).slots (number - 1) no_slot)) (omega (arith, known.least)) (row.each (number - 1) (omega (arith, known.least, known.most)))) in
          slot-most own before after pair bank number lots c slot loses kept is;
      owner_in = λ c is. omega (arith, full, owned c (sym owner ∙ is));
      units_most = λ c is.
          let within : c < length book.clients = owned c (sym owner ∙ is) in
          let mine : is_client (own bank number) c ≡ true = ap (λ (o : Option ℕ). is_client o c) (sym owner ∙ is) ∙ eq-eqb c c refl in
          let sum : reserved_of h own c after + lots * weight_of h pair ≡ reserved_of h own c before = accounts-here h own before after pair bank number lots c loses mine in
          let units : lots * get_or book.weights pair 0 ≡ lots * weight_of h pair = ap (λ w. lots * w) weight in
          omega (arith, stands.reserved c within);
    }

pub can-give : (h : Header) (tagged : List Tagged) (t : Tagged) (before after : List ActiveOrder) (fills : List Fill) (book : Book) (pair bank number lots : ℕ) → IsUnderWay h tagged t before fills book → Loses before after pair bank number lots → pair < length book.weights → IsKnown h (counts_of h tagged t) bank number → length book.accounts ≡ length book.clients → CanGive book bank number pair lots
can-give h tagged t before after fills book pair bank number lots way =
    can-give-of h (owner_in (tagged ++ t ∷ [])) (counts_of h tagged t) before after (λ c. filled_by h tagged c + filled_of h (owner_in (tagged ++ t ∷ [])) c fills) book pair bank number lots way.stands
    (λ c is. owner-within book.clients (tagged ++ t ∷ []) bank number c way.tagged_is.tags is)

-- a book has a weight for each pair
pub weighs-pair : (h : Header) (own : ℕ → ℕ → Option ℕ) (counts : List ℕ) (orders : List ActiveOrder) (filled_so : ℕ → ℕ) (book : Book) (pair : ℕ) → Stands h own counts orders filled_so book → pair < pair_count h → pair < length book.weights
weighs-pair h own counts orders filled_so book pair stands within =
    omega (arith, ap (λ (ws : List ℕ). length ws) stands.weights, length-map h.pairs (λ (rule : PairRule). rule.weight))

-- ---- fills

fills-give : Gives filled_sums (λ units. units)
fills-give = record { takes = λ sums units. refl; fills = λ sums units. refl }

pub releases-give : Gives released_sums (λ _. 0)
releases-give = record { takes = λ sums units. refl; fills = λ sums units. omega arith }

pub fill-way : (h : Header) (tagged : List Tagged) (t : Tagged) (orders : List ActiveOrder) (before : List Fill) (fill : Fill) (book : Book) → IsUnderWay h tagged t orders before book → IsDrawn orders fill → length book.accounts ≡ length book.clients → IsUnderWay h tagged t (drawn orders fill) (before ++ fill ∷ []) (side_with filled_sums (side_with filled_sums book fill.maker fill.maker_number fill.pair fill.lots) fill.taker fill.taker_number fill.pair fill.lots)
fill-way h tagged t orders before fill book way is full =
    let own : ℕ → ℕ → Option ℕ = owner_in (tagged ++ t ∷ []) in
    let counts : List ℕ = counts_of h tagged t in
    let once : List ActiveOrder = lowered fill.maker fill.maker_number fill.lots orders in
    let maker = offers-order h (counts_of h tagged t) orders fill.pair fill.maker fill.maker_number fill.lots way.orders_of is.maker in
    let once_of : Each (IsOrderOf h (counts_of h tagged t)) (lowered fill.maker fill.maker_number fill.lots orders) = orders-lowered h (counts_of h tagged t) fill.maker fill.maker_number fill.lots orders way.orders_of in
    let taker = offers-order h (counts_of h tagged t) (lowered fill.maker fill.maker_number fill.lots orders) fill.pair fill.taker fill.taker_number fill.lots once_of is.taker in
    let first = side-stands h (owner_in (tagged ++ t ∷ [])) (counts_of h tagged t) orders (lowered fill.maker fill.maker_number fill.lots orders) (λ c. filled_by h tagged c + filled_of h (owner_in (tagged ++ t ∷ [])) c before) (λ units. units) filled_sums book fill.pair fill.maker fill.maker_number fill.lots way.stands
    (lowered-loses fill.pair fill.maker fill.maker_number fill.lots orders is.maker) fills-give full maker.0.sender maker.0.least maker.0.most in
    let second = side-stands h (owner_in (tagged ++ t ∷ [])) (counts_of h tagged t) (lowered fill.maker fill.maker_number fill.lots orders) (drawn orders fill) (λ c. filled_by h tagged c + filled_of h (owner_in (tagged ++ t ∷ [])) c before + when (is_client (owner_in (tagged ++ t ∷ []) fill.maker fill.maker_number) c) (fill.lots * weight_of h fill.pair)) (λ units. units) filled_sums
    (side_with filled_sums book fill.maker fill.maker_number fill.pair fill.lots) fill.pair fill.taker fill.taker_number fill.lots first
    (lowered-loses fill.pair fill.taker fill.taker_number fill.lots (lowered fill.maker fill.maker_number fill.lots orders) is.taker) fills-give (sums-length filled_sums book fill.maker fill.maker_number fill.pair fill.lots full) taker.0.sender taker.0.least taker.0.most in
    record {
      tagged_is = way.tagged_is;
      orders_of = orders-lowered h (counts_of h tagged t) fill.taker fill.taker_number fill.lots (lowered fill.maker fill.maker_number fill.lots orders) once_of;
      stands = stands-filled h (owner_in (tagged ++ t ∷ [])) (counts_of h tagged t) (drawn orders fill)
          (λ c. filled_by h tagged c + filled_of h (owner_in (tagged ++ t ∷ [])) c before + when (is_client (owner_in (tagged ++ t ∷ []) fill.maker fill.maker_number) c) (fill.lots * weight_of h fill.pair) + when (is_client (owner_in (tagged ++ t ∷ []) fill.taker fill.taker_number) c) (fill.lots * weight_of h fill.pair))
          (λ c. filled_by h tagged c + filled_of h (owner_in (tagged ++ t ∷ [])) c (before ++ fill ∷ []))
          (side_with filled_sums (side_with filled_sums book fill.maker fill.maker_number fill.pair fill.lots) fill.taker fill.taker_number fill.pair fill.lots)
          (λ c.
          let sum : filled_of h (owner_in (tagged ++ t ∷ [])) c (before ++ fill ∷ []) ≡ filled_of h (owner_in (tagged ++ t ∷ [])) c before + (side_cost h (owner_in (tagged ++ t ∷ [])) c fill + 0) =
          total-append (side_cost h (owner_in (tagged ++ t ∷ [])) c) before (fill ∷ []) in
          omega arith) second;
    }

-- ---- both sides of a fill can be given

pub can-fill-maker : (h : Header) (tagged : List Tagged) (t : Tagged) (orders : List ActiveOrder) (before : List Fill) (fill : Fill) (book : Book) → IsUnderWay h tagged t orders before book → IsDrawn orders fill → length book.accounts ≡ length book.clients → CanGive book fill.maker fill.maker_number fill.pair fill.lots
can-fill-maker h tagged t orders before fill book way is full =
    let maker = offers-order h (counts_of h tagged t) orders fill.pair fill.maker fill.maker_number fill.lots way.orders_of is.maker in
    can-give h tagged t orders (lowered fill.maker fill.maker_number fill.lots orders) before book fill.pair fill.maker fill.maker_number fill.lots way
    (lowered-loses fill.pair fill.maker fill.maker_number fill.lots orders is.maker)
    (weighs-pair h (owner_in (tagged ++ t ∷ [])) (counts_of h tagged t) orders (λ c. filled_by h tagged c + filled_of h (owner_in (tagged ++ t ∷ [])) c before) book fill.pair way.stands maker.1) maker.0 full

pub can-fill-taker : (h : Header) (tagged : List Tagged) (t : Tagged) (orders : List ActiveOrder) (before : List Fill) (fill : Fill) (book : Book) → IsUnderWay h tagged t orders before book → IsDrawn orders fill → length book.accounts ≡ length book.clients → CanGive (side_with filled_sums book fill.maker fill.maker_number fill.pair fill.lots) fill.taker fill.taker_number fill.pair fill.lots
can-fill-taker h tagged t orders before fill book way is full =
    let once_of : Each (IsOrderOf h (counts_of h tagged t)) (lowered fill.maker fill.maker_number fill.lots orders) = orders-lowered h (counts_of h tagged t) fill.maker fill.maker_number fill.lots orders way.orders_of in
    let maker = offers-order h (counts_of h tagged t) orders fill.pair fill.maker fill.maker_number fill.lots way.orders_of is.maker in
    let taker = offers-order h (counts_of h tagged t) (lowered fill.maker fill.maker_number fill.lots orders) fill.pair fill.taker fill.taker_number fill.lots once_of is.taker in
    let first = side-stands h (owner_in (tagged ++ t ∷ [])) (counts_of h tagged t) orders (lowered fill.maker fill.maker_number fill.lots orders) (λ c. filled_by h tagged c + filled_of h (owner_in (tagged ++ t ∷ [])) c before) (λ units. units) filled_sums book fill.pair fill.maker fill.maker_number fill.lots way.stands
    (lowered-loses fill.pair fill.maker fill.maker_number fill.lots orders is.maker) fills-give full maker.0.sender maker.0.least maker.0.most in
    can-give-of h (owner_in (tagged ++ t ∷ [])) (counts_of h tagged t) (lowered fill.maker fill.maker_number fill.lots orders) (drawn orders fill)
    (λ c. filled_by h tagged c + filled_of h (owner_in (tagged ++ t ∷ [])) c before + when (is_client (owner_in (tagged ++ t ∷ []) fill.maker fill.maker_number) c) (fill.lots * weight_of h fill.pair))
    (side_with filled_sums book fill.maker fill.maker_number fill.pair fill.lots) fill.pair fill.taker fill.taker_number fill.lots first
    (λ c owned. owner-within book.clients (tagged ++ t ∷ []) fill.taker fill.taker_number c way.tagged_is.tags owned)
    (lowered-loses fill.pair fill.taker fill.taker_number fill.lots (lowered fill.maker fill.maker_number fill.lots orders) is.taker)
    (weighs-pair h (owner_in (tagged ++ t ∷ [])) (counts_of h tagged t) orders (λ c. filled_by h tagged c + filled_of h (owner_in (tagged ++ t ∷ [])) c before) book fill.pair way.stands taker.1)
    taker.0 (sums-length filled_sums book fill.maker fill.maker_number fill.pair fill.lots full)
