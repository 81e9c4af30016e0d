-- From a history to one that is longer by an entry.
use Rattle.std.proofs.Common.{ℕ, ◌≡◌, ◌+◌, ◌-◌, ◌*◌, ◌^◌, ◌≤◌, ◌<◌, Bool, true, false, not, ◌&&◌, eqb, leb, ltb, List, [], ◌∷◌, ◌++◌, inl, inr, refl, ap, sym, subst, ◌∙◌, arith, get_or, length, Option, Some, None}
use Rattle.std.proofs.Math.ListN.{set}
use Rattle.std.specs.Prelude.{is_some, ◌⊎◌}
use Rattle.std.specs.List.{filter}
use Rattle.std.proofs.lemmas.Bool.{cases_Bool, and_parts, and_from, eq-eqb, eqb-true, ltb-false, le-leb, not_from_true, not_from_false, not-true, both_ways}
use Rattle.fx_rules.specs.declared.orders.ActiveOrder.{ActiveOrder}
use Rattle.fx_rules.specs.declared.orders.Fill.{Fill}
use Rattle.fx_rules.specs.declared.command.Command.{Command}
use Rattle.fx_rules.specs.declared.command.Command.TheVariants.{Order}
use Rattle.fx_rules.specs.declared.orders.Resting.{Resting}
use Rattle.fx_rules.specs.declared.outcome.Outcome.{Outcome}
use Rattle.fx_rules.specs.declared.outcome.Outcome.TheVariants.{Cancelled}
use Rattle.fx_rules.specs.declared.outcome.Entry.{Entry}
use Rattle.fx_rules.specs.Lists.{Among, Each}
use Rattle.fx_rules.specs.Session.{Header, IsSession, pair_count, sender_places, weight_of}
use Rattle.fx_rules.specs.State.{State, count_of, orders_in}
use Rattle.fx_rules.specs.Sweep.{is_order, at_rest, taker_of}
use Rattle.fx_rules.specs.Raise.{order_of}
use Rattle.fx_rules.specs.Step.{IsCommand, IsOutcome, cancel_answer, fills_of, without_orders}
use Rattle.fx_rules.specs.History.{IsStep, after_entry}
use Rattle.fx_rules.specs.Sound.{IsSound, IsKept}
use Rattle.fx_rules.proofs.ListLemmas.{Each-of, Each-append, Each-filter, Each-weaker, Each-among, Among-filter, total-append, filter_filter, filter_agree_on, filter_cons_true, filter_cons_false}
use Rattle.fx_rules.proofs.Lowering.{is_order-from, is_order-says}
use Rattle.fx_rules.proofs.RaiseSound.{find-says}
use Rattle.fx_rules.proofs.Opens.{orders_in-among}
use Rattle.fx_rules.proofs.Trading.{step-fills}
use Rattle.client_desk.specs.declared.client.Client.{Client}
use Rattle.client_desk.specs.declared.ask.Ask.TheVariants.{Pass}
use Rattle.client_desk.specs.declared.rows.Slot.{Slot}
use Rattle.client_desk.specs.Clients.{Tagged, IsTagged, owner_in, state_of, when, side_cost, filled_of, filled_by, reserved_by, limit_of, free_of, ask_of}
use Rattle.client_desk.specs.Standing.{Book, no_slot, account_of, row_of, left_in, left_of, SlotStands, RowStands, Stands, StandsFor}
use Rattle.client_desk.specs.Draws.{coming_in, entered, drawn_all, settled}
use Rattle.client_desk.specs.inside.Numbers.{IsKnown}
use Rattle.client_desk.specs.inside.Changes.{CanEnter, entered_with, slot_for}
use Rattle.client_desk.specs.inside.UnderWay.{IsUnderWay, IsOrderOf, counts_of}
use Rattle.client_desk.proofs.Draws.{none-next}
use Rattle.client_desk.proofs.Settling.{steps-settle}
use Rattle.client_desk.proofs.Lots.{lots_worth, worth_of}
use Rattle.client_desk.proofs.Owners.{state-push, step-counts, step-one, owner-push}
use Rattle.client_desk.proofs.Within.{clients-within, known_more, short-not, IsLast, last-of, AreWithin, all-within, own-same, reserved-same, filled-same, orders-known, entered-known, entry-known}
use Rattle.client_desk.proofs.Entering.{ComesIn, enter-stands}
use Rattle.client_desk.proofs.UnderWay.{stands-filled, weighs-pair}
use Rattle.client_desk.proofs.Ways.{none-left, some-or-none}
use Rattle.client_desk.proofs.Pulling.{is_pulled, pulled_to, drop-stands, sweep-stands, swept_row}

-- ---- an entry is entered

slot-owner : (who : Option ℕ) (command : Command) → (slot_for who command).owner ≡ who
slot-owner (Some c) (Order side pair price lots life) = refl
slot-owner None command = refl
slot-owner (Some c) command = refl

slot-unowned : (who : Option ℕ) (command : Command) → (slot_for who command).owner ≡ None → (slot_for who command).left ≡ 0
slot-unowned (Some c) (Order side pair price lots life) is = cc
slot-unowned None command is = refl
slot-unowned (Some c) command is = refl

-- the lots of a command as it comes in, and their pair
lots_in : Command → ℕ
lots_in (Order side pair price lots life) = lots
lots_in command = 0

pair_in : Command → ℕ
pair_in (Order side pair price lots life) = pair
pair_in command = 0

slot-lots : (who : Option ℕ) (command : Command) (c : ℕ) → (slot_for who command).owner ≡ Some c → (slot_for who command).left ≡ lots_in command
unfolding lots_in
slot-lots (Some k) (Order side pair price lots life) c is = refl
slot-lots None command c is = cc
slot-lots (Some k) command c is = refl

slot-pair : (who : Option ℕ) (command : Command) (c : ℕ) → (slot_for who command).owner ≡ Some c → ((slot_for who command).pair ≡ pair_in command) ⊎ (lots_in command ≡ 0)
unfolding lots_in pair_in
slot-pair (Some k) (Order side pair price lots life) c is = inl refl
slot-pair None command c is = cc
slot-pair (Some k) command c is = inr refl

coming-worth : (S : State) (bank : ℕ) (command : Command) (g : ℕ → ℕ → ℕ → ℕ) → lots_worth g (S.orders ++ coming_in S bank command) ≡ lots_worth g S.orders + lots_in command * g (pair_in command) bank (count_of S bank + 1)
unfolding lots_in pair_in
coming-worth S bank (Order side pair price lots life) g =
    total-append (worth_of g) S.orders (at_rest (taker_of S bank side pair price lots) lots ∷ []) ∙ omega arith
coming-worth S bank command g = total-append (worth_of g) S.orders [] ∙ omega arith

comes : (h : Header) (clients : List Client) (ts : List Tagged) (t : Tagged) → IsTagged h clients (ts ++ t ∷ []) → ComesIn h (owner_in ts) (owner_in (ts ++ t ∷ [])) (state_of h ts).orders (entered (state_of h ts) t.entry) t.entry.bank (count_of (state_of h ts) t.entry.bank) (pair_in t.entry.command) (lots_in t.entry.command) (slot_for t.who t.entry.command)
comes h clients ts t tagged =
    let last : IsLast h clients ts t = last-of h clients ts t tagged in
    record {
      owner = ap (owner_in (ts ++ t ∷ []) t.entry.bank) (sym last.step.number) ∙ owner-push h ts t last.before.legal last.step.number ∙ sym (slot-owner t.who t.entry.command);
      others = λ b n differ. own-same ts t b n (λ same also. differ (sym same) (sym also ∙ last.step.number));
      none = λ p. none-left (state_of h ts).orders p t.entry.bank (count_of (state_of h ts) t.entry.bank + 1) (none-next h (state_of h ts) t.entry.bank last.sound);
      reserved_so = λ c. reserved-same h ts t c tagged.legal.session last.sound last.step.number;
      unowned = slot-unowned t.who t.entry.command;
      owned_lots = slot-lots t.who t.entry.command;
      owned_pair = slot-pair t.who t.entry.command;
      gains = λ g. coming-worth (state_of h ts) t.entry.bank t.entry.command g;
    }

coming-of : (h : Header) (S : State) (e : Entry) (command : Command) → IsCommand h e.bank command → Each (λ (a : ActiveOrder). (a.pair < pair_count h) × (1 ≤ a.order.left)) (coming_in S e.bank command)
coming-of h S e (Order side pair price lots life) valid = ((valid.values.0, valid.values.2.0), tt)
coming-of h S e command valid = tt

both-of : (h : Header) (counts : List ℕ) (orders : List ActiveOrder) → Each (λ (a : ActiveOrder). IsKnown h counts a.order.bank a.order.number) orders → Each (λ (a : ActiveOrder). (a.pair < pair_count h) × (1 ≤ a.order.left)) orders → Each (IsOrderOf h counts) orders
both-of h counts [] known valid = tt
both-of h counts (a ∷ orders) known valid = (record { known = known.0; pair = valid.0.0; least = valid.0.1 }, both-of h counts orders known.1 valid.1)

entered-of : (h : Header) (S : State) (e : Entry) → IsSession h → IsSound h S → IsStep h S e → Each (IsOrderOf h (after_entry S e).counts) (entered S e)
entered-of h S e session sound step =
    both-of h (after_entry S e).counts (entered S e) (entered-known h S e session sound step)
    (Each-append (λ (a : ActiveOrder). (a.pair < pair_count h) × (1 ≤ a.order.left)) S.orders (coming_in S e.bank e.command)
    (Each-weaker (IsKept h S.counts) (λ (a : ActiveOrder). (a.pair < pair_count h) × (1 ≤ a.order.left)) (λ a kept. (kept.pair, kept.left.0)) S.orders sound.kept)
    (coming-of h S e e.command step.command))

pub enter-way : (h : Header) (ts : List Tagged) (t : Tagged) (book : Book) → StandsFor h ts book → IsTagged h book.clients (ts ++ t ∷ []) → length book.accounts ≡ length book.clients → IsUnderWay h ts t (entered (state_of h ts) t.entry) [] (entered_with book t.entry.bank (slot_for t.who t.entry.command))
enter-way h ts t book stands tagged full =
    let last : IsLast h book.clients ts t = last-of h book.clients ts t tagged in
    let known = entry-known h (state_of h ts) t.entry tagged.legal.session last.sound last.step in
    let made = enter-stands h (owner_in ts) (owner_in (ts ++ t ∷ [])) (state_of h ts).orders (entered (state_of h ts) t.entry) t.entry.bank (count_of (state_of h ts) t.entry.bank) (pair_in t.entry.command) (lots_in t.entry.command) (slot_for t.who t.entry.command) (comes h book.clients ts t tagged) (state_of h ts).counts (filled_by h ts) book stands.stands last.sound.counts refl known.sender full in
    record {
      tagged_is = tagged;
      orders_of = entered-of h (state_of h ts) t.entry tagged.legal.session last.sound last.step;
      stands = subst (λ (counts : List ℕ). Stands h (owner_in (ts ++ t ∷ [])) counts (entered (state_of h ts) t.entry) (λ c. filled_by h ts c + filled_of h (owner_in (ts ++ t ∷ [])) c []) (entered_with book t.entry.bank (slot_for t.who t.entry.command)))
          (sym (step-counts (state_of h ts) t.entry))
          (stands-filled h (owner_in (ts ++ t ∷ [])) (set (state_of h ts).counts t.entry.bank (count_of (state_of h ts) t.entry.bank + 1)) (entered (state_of h ts) t.entry) (filled_by h ts) (λ c. filled_by h ts c + filled_of h (owner_in (ts ++ t ∷ [])) c []) (entered_with book t.entry.bank (slot_for t.who t.entry.command)) (λ c. omega arith) made);
    }

-- ---- a pull ends

left-among : (orders : List ActiveOrder) (a : ActiveOrder) (pair bank number : ℕ) → Among a orders → a.pair ≡ pair → is_order bank number a.order ≡ true → a.order.left ≤ left_of orders pair bank number
left-among [] a pair bank number there of_pair is = absurd there
left-among (b ∷ orders) a pair bank number (inl same) of_pair is =
    let mine : (eqb b.pair pair && is_order bank number b.order) ≡ true =
    subst (λ (x : ActiveOrder). (eqb x.pair pair && is_order bank number x.order) ≡ true) same (and_from (eqb a.pair pair) (is_order bank number a.order) (eq-eqb a.pair pair of_pair) is) in
    let here : when (eqb b.pair pair && is_order bank number b.order) b.order.left ≡ b.order.left = ap (λ t. when t b.order.left) mine in
    let left : a.order.left ≡ b.order.left = ap (λ (x : ActiveOrder). x.order.left) same in
    omega arith
left-among (b ∷ orders) a pair bank number (inr there) of_pair is = omega (arith, left-among orders a pair bank number there of_pair is)

when-zero : (t : Bool) → when t 0 ≡ 0
when-zero true = refl
when-zero false = refl

part-false : (x y z : Bool) → (x && y) ≡ false → (x && (y && z)) ≡ false
part-false true true z is = cc
part-false true false z is = refl
part-false false y z is = refl

keep-test : (x y : Bool) → (not x && not (x && y)) ≡ not x
keep-test true y = refl
keep-test false y = refl

gone-true : (x : Bool) → not x ≡ false → x ≡ true
gone-true true is = refl
gone-true false is = cc

low-number : (first last number : ℕ) (x : Bool) → x ≡ true → number ≤ last → (x && (ltb first number && leb number last)) ≡ false → number ≤ first
low-number first last number x is most out =
    elim (cases_Bool (ltb first number)) [
      | inr low ↦ ltb-false first number low
      | inl high ↦ absurd (both_ways (x && (ltb first number && leb number last)) out (and_from x (ltb first number && leb number last) is (and_from (ltb first number) (leb number last) high (le-leb number last most))))
    ]

left-without : (pair bank number : ℕ) (orders : List ActiveOrder) → left_of (without_orders pair bank orders) pair bank number ≡ 0
left-without pair bank number [] = refl
left-without pair bank number (a ∷ orders) =
    let keep : ActiveOrder → Bool = λ (b : ActiveOrder). not (eqb b.pair pair && eqb b.order.bank bank) in
    let rest : left_of (without_orders pair bank orders) pair bank number ≡ 0 = left-without pair bank number orders in
    elim (cases_Bool (eqb a.pair pair && eqb a.order.bank bank)) [
      | inl is ↦ ap (λ (os : List ActiveOrder). left_of os pair bank number) (filter_cons_false keep a orders (not_from_true (eqb a.pair pair && eqb a.order.bank bank) is)) ∙ rest
      | inr other ↦
          let nothing : when (eqb a.pair pair && is_order bank number a.order) a.order.left ≡ 0 = ap (λ t. when t a.order.left) (part-false (eqb a.pair pair) (eqb a.order.bank bank) (eqb a.order.number number) other) in
          ap (λ (os : List ActiveOrder). left_of os pair bank number) (filter_cons_true keep a orders (not_from_false (eqb a.pair pair && eqb a.order.bank bank) other)) ∙ omega arith
    ]

all-pulled : (pair bank first last : ℕ) (orders : List ActiveOrder) → filter (λ (a : ActiveOrder). not (eqb a.pair pair && eqb a.order.bank bank)) (pulled_to pair bank first last orders) ≡ without_orders pair bank orders
all-pulled pair bank first last orders =
    filter_filter (λ (a : ActiveOrder). not (eqb a.pair pair && eqb a.order.bank bank)) (λ (a : ActiveOrder). not (is_pulled pair bank first last a)) orders
    ∙ filter_agree_on (λ (a : ActiveOrder). not (eqb a.pair pair && eqb a.order.bank bank) && not (is_pulled pair bank first last a)) (λ (a : ActiveOrder). not (eqb a.pair pair && eqb a.order.bank bank)) orders
    (λ a _. keep-test (eqb a.pair pair && eqb a.order.bank bank) (ltb first a.order.number && leb a.order.number last))

pub pull-end : (h : Header) (tagged : List Tagged) (t : Tagged) (orders : List ActiveOrder) (fills : List Fill) (book : Book) (pair bank first : ℕ) → bank < sender_places h → first ≡ get_or (row_of book bank).swept pair 0 → IsUnderWay h tagged t (pulled_to pair bank first (get_or (counts_of h tagged t) bank 0) orders) fills book → IsUnderWay h tagged t (without_orders pair bank orders) fills (record book { rows = set book.rows bank (swept_row (row_of book bank) pair) })
pull-end h tagged t orders fills book pair bank first sender is way =
    let own : ℕ → ℕ → Option ℕ = owner_in (tagged ++ t ∷ []) in
    let count : ℕ = get_or (counts_of h tagged t) bank 0 in
    let keep : ActiveOrder → Bool = λ (a : ActiveOrder). not (eqb a.pair pair && eqb a.order.bank bank) in
    let rest : List ActiveOrder = pulled_to pair bank first (get_or (counts_of h tagged t) bank 0) orders in
    let row : RowStands (owner_in (tagged ++ t ∷ [])) (pulled_to pair bank first (get_or (counts_of h tagged t) bank 0) orders) bank (get_or (counts_of h tagged t) bank 0) (row_of book bank) = way.stands.rows bank sender in
    let none : Each (λ (a : ActiveOrder). not (eqb a.pair pair && eqb a.order.bank bank) ≡ false → owner_in (tagged ++ t ∷ []) a.order.bank a.order.number ≡ None) (pulled_to pair bank first (get_or (counts_of h tagged t) bank 0) orders) =
    Each-of (λ (a : ActiveOrder). not (eqb a.pair pair && eqb a.order.bank bank) ≡ false → owner_in (tagged ++ t ∷ []) a.order.bank a.order.number ≡ None) (pulled_to pair bank first (get_or (counts_of h tagged t) bank 0) orders)
    (λ a there gone.
    let of : IsOrderOf h (counts_of h tagged t) a = Each-among (IsOrderOf h (counts_of h tagged t)) (pulled_to pair bank first (get_or (counts_of h tagged t) bank 0) orders) a way.orders_of there in
    let both = and_parts (eqb a.pair pair) (eqb a.order.bank bank) (gone-true (eqb a.pair pair && eqb a.order.bank bank) gone) in
    let of_pair : a.pair ≡ pair = eqb-true a.pair pair both.0 in
    let of_bank : a.order.bank ≡ bank = eqb-true a.order.bank bank both.1 in
    let most : a.order.number ≤ get_or (counts_of h tagged t) bank 0 = subst (λ b. a.order.number ≤ get_or (counts_of h tagged t) b 0) of_bank of.known.most in
    let stays : not (is_pulled pair bank first (get_or (counts_of h tagged t) bank 0) a) ≡ true = (Among-filter (λ (b : ActiveOrder). not (is_pulled pair bank first (get_or (counts_of h tagged t) bank 0) b)) orders a there).1 in
    let low : a.order.number ≤ first = low-number first (get_or (counts_of h tagged t) bank 0) a.order.number (eqb a.pair pair && eqb a.order.bank bank) (gone-true (eqb a.pair pair && eqb a.order.bank bank) gone) most (not-true (is_pulled pair bank first (get_or (counts_of h tagged t) bank 0) a) stays) in
    let named : a.order.number - 1 + 1 ≡ a.order.number = omega (arith, of.known.least) in
    let slot : SlotStands (owner_in (tagged ++ t ∷ [])) (pulled_to pair bank first (get_or (counts_of h tagged t) bank 0) orders) bank a.order.number (get_or (row_of book bank).slots (a.order.number - 1) no_slot) =
    subst (λ n. SlotStands (owner_in (tagged ++ t ∷ [])) (pulled_to pair bank first (get_or (counts_of h tagged t) bank 0) orders) bank n (get_or (row_of book bank).slots (a.order.number - 1) no_slot)) named
    (row.each (a.order.number - 1) (omega (arith, of.known.least))) in
    let nothing : left_in (get_or (row_of book bank).slots (a.order.number - 1) no_slot) pair ≡ 0 = row.swept_none pair (a.order.number - 1) (omega (arith, of.known.least)) in
    let has : a.order.left ≤ left_of (pulled_to pair bank first (get_or (counts_of h tagged t) bank 0) orders) pair bank a.order.number =
    left-among (pulled_to pair bank first (get_or (counts_of h tagged t) bank 0) orders) a pair bank a.order.number there of_pair (is_order-from bank a.order.number a.order of_bank refl) in
    elim (some-or-none (owner_in (tagged ++ t ∷ []) bank a.order.number)) [
      | inl some ↦
          let all : when (is_some (owner_in (tagged ++ t ∷ []) bank a.order.number)) (left_of (pulled_to pair bank first (get_or (counts_of h tagged t) bank 0) orders) pair bank a.order.number) ≡ left_of (pulled_to pair bank first (get_or (counts_of h tagged t) bank 0) orders) pair bank a.order.number =
          ap (λ (o : Option ℕ). when (is_some o) (left_of (pulled_to pair bank first (get_or (counts_of h tagged t) bank 0) orders) pair bank a.order.number)) some.1 in
          absurd (omega (arith, slot.left pair, of.least))
      | inr unowned ↦ ap (λ b. owner_in (tagged ++ t ∷ []) b a.order.number) of_bank ∙ unowned
    ]) in
    let dropped : Stands h (owner_in (tagged ++ t ∷ [])) (counts_of h tagged t) (without_orders pair bank orders) (λ c. filled_by h tagged c + filled_of h (owner_in (tagged ++ t ∷ [])) c fills) book =
    subst (λ (os : List ActiveOrder). Stands h (owner_in (tagged ++ t ∷ [])) (counts_of h tagged t) os (λ c. filled_by h tagged c + filled_of h (owner_in (tagged ++ t ∷ [])) c fills) book) (all-pulled pair bank first (get_or (counts_of h tagged t) bank 0) orders)
    (drop-stands h (owner_in (tagged ++ t ∷ [])) (λ (a : ActiveOrder). not (eqb a.pair pair && eqb a.order.bank bank)) (counts_of h tagged t) (pulled_to pair bank first (get_or (counts_of h tagged t) bank 0) orders) (λ c. filled_by h tagged c + filled_of h (owner_in (tagged ++ t ∷ [])) c fills) book none way.stands) in
    record {
      tagged_is = way.tagged_is;
      orders_of = subst (Each (IsOrderOf h (counts_of h tagged t))) (all-pulled pair bank first (get_or (counts_of h tagged t) bank 0) orders)
          (Each-filter (IsOrderOf h (counts_of h tagged t)) (λ (a : ActiveOrder). not (eqb a.pair pair && eqb a.order.bank bank)) (pulled_to pair bank first (get_or (counts_of h tagged t) bank 0) orders) way.orders_of);
      stands = sweep-stands h (owner_in (tagged ++ t ∷ [])) (counts_of h tagged t) (without_orders pair bank orders) (λ c. filled_by h tagged c + filled_of h (owner_in (tagged ++ t ∷ [])) c fills) book bank pair sender
          (λ place within.
          ((dropped.rows bank sender).each place within).left pair
          ∙ ap (when (is_some (owner_in (tagged ++ t ∷ []) bank (place + 1)))) (left-without pair bank (place + 1) orders) ∙ when-zero (is_some (owner_in (tagged ++ t ∷ []) bank (place + 1)))) dropped;
    }

-- ---- the end

-- behind what its outcome settles, a book stands for the longer history
pub settled-stands : (h : Header) (ts : List Tagged) (t : Tagged) (book : Book) → IsUnderWay h ts t (settled t.entry.bank t.entry.number t.entry.command t.entry.outcome (drawn_all (entered (state_of h ts) t.entry) (fills_of t.entry.outcome))) (fills_of t.entry.outcome) book → StandsFor h (ts ++ t ∷ []) book
settled-stands h ts t book way =
    let last : IsLast h book.clients ts t = last-of h book.clients ts t way.tagged_is in
    let are : AreWithin h book.clients ts = all-within h book.clients ts last.before in
    let next : state_of h (ts ++ t ∷ []) ≡ after_entry (state_of h ts) t.entry = state-push h ts t in
    record {
      tagged_is = way.tagged_is;
      stands =
          subst (λ (counts : List ℕ). Stands h (owner_in (ts ++ t ∷ [])) counts (state_of h (ts ++ t ∷ [])).orders (filled_by h (ts ++ t ∷ [])) book) (sym (ap (λ (T : State). T.counts) next))
          (subst (λ (orders : List ActiveOrder). Stands h (owner_in (ts ++ t ∷ [])) (counts_of h ts t) orders (filled_by h (ts ++ t ∷ [])) book)
          (sym (ap (λ (T : State). T.orders) next ∙ steps-settle h (state_of h ts) t.entry way.tagged_is.legal.session last.sound last.step))
          (stands-filled h (owner_in (ts ++ t ∷ [])) (counts_of h ts t) (settled t.entry.bank t.entry.number t.entry.command t.entry.outcome (drawn_all (entered (state_of h ts) t.entry) (fills_of t.entry.outcome)))
          (λ c. filled_by h ts c + filled_of h (owner_in (ts ++ t ∷ [])) c (fills_of t.entry.outcome)) (filled_by h (ts ++ t ∷ [])) book
          (λ c.
          let all : filled_by h (ts ++ t ∷ []) c ≡ filled_of h (owner_in (ts ++ t ∷ [])) c (state_of h ts).fills + filled_of h (owner_in (ts ++ t ∷ [])) c (fills_of t.entry.outcome) =
          ap (λ (T : State). filled_of h (owner_in (ts ++ t ∷ [])) c T.fills) next
          ∙ ap (filled_of h (owner_in (ts ++ t ∷ [])) c) (step-fills h (state_of h ts) t.entry last.step)
          ∙ total-append (side_cost h (owner_in (ts ++ t ∷ [])) c) (state_of h ts).fills (fills_of t.entry.outcome) in
          let before : filled_of h (owner_in (ts ++ t ∷ [])) c (state_of h ts).fills ≡ filled_by h ts c = filled-same h ts t c last.step.number are.known in
          omega arith)
          way.stands));
    }

-- ---- an entry can be entered

slot-units : (h : Header) (clients : List Client) (ts : List Tagged) (who : Option ℕ) (command : Command) (c : ℕ) → ((k : ℕ) → who ≡ Some k → ask_of h clients ts k command ≡ Pass) → who ≡ Some c → (slot_for who command).left * weight_of h (slot_for who command).pair ≤ free_of h clients ts c
slot-units h clients ts (Some k) (Order side pair price lots life) c passed is = short-not (free_of h clients ts c) (lots * weight_of h pair) (passed c is)
slot-units h clients ts None command c passed is = cc
slot-units h clients ts (Some k) command c passed is = omega arith

slot-within : (h : Header) (who : Option ℕ) (command : Command) (bank : ℕ) → IsSession h → IsCommand h bank command → (slot_for who command).pair < pair_count h
slot-within h (Some k) (Order side pair price lots life) bank session valid = valid.values.0
slot-within h None command bank session valid = omega (arith, session.pairs_least)
slot-within h (Some k) command bank session valid = omega (arith, session.pairs_least)

room-for : (limit filled reserved units : ℕ) → filled + reserved ≤ limit → units ≤ limit - filled - reserved → limit ≤ 10 ^ 15 → filled + reserved + units ≤ 10 ^ 15
room-for limit filled reserved units a b c = omega arith

pub can-enter : (h : Header) (ts : List Tagged) (t : Tagged) (book : Book) → StandsFor h ts book → IsTagged h book.clients (ts ++ t ∷ []) → length book.accounts ≡ length book.clients → ((c : ℕ) → t.who ≡ Some c → c < length book.clients → limit_of book.clients c ≤ 10 ^ 15) → CanEnter book t.entry.bank (slot_for t.who t.entry.command)
can-enter h ts t book stands tagged full limits =
    let last : IsLast h book.clients ts t = last-of h book.clients ts t tagged in
    let known = entry-known h (state_of h ts) t.entry tagged.legal.session last.sound last.step in
    let slot : Slot = slot_for t.who t.entry.command in
    record {
      sender = omega (arith, known.sender, stands.stands.senders);
      room = record {
        weighs = weighs-pair h (owner_in ts) (state_of h ts).counts (state_of h ts).orders (filled_by h ts) book (slot_for t.who t.entry.command).pair stands.stands (slot-within h t.who t.entry.command t.entry.bank tagged.legal.session last.step.command);
        owner_in = λ c is. omega (arith, full, (last.tag c (sym (slot-owner t.who t.entry.command) ∙ is)).0);
        room = λ c is.
            let who : t.who ≡ Some c = sym (slot-owner t.who t.entry.command) ∙ is in
            let within : c < length book.clients = (last.tag c who).0 in
            let weight : get_or book.weights (slot_for t.who t.entry.command).pair 0 ≡ weight_of h (slot_for t.who t.entry.command).pair = ap (λ (ws : List ℕ). get_or ws (slot_for t.who t.entry.command).pair 0) stands.stands.weights in
            let units : (slot_for t.who t.entry.command).left * get_or book.weights (slot_for t.who t.entry.command).pair 0 ≤ free_of h book.clients ts c =
            subst (λ w. (slot_for t.who t.entry.command).left * w ≤ free_of h book.clients ts c) (sym weight) (slot-units h book.clients ts t.who t.entry.command c last.passed who) in
            let sum : filled_by h ts c + reserved_by h ts c + (slot_for t.who t.entry.command).left * get_or book.weights (slot_for t.who t.entry.command).pair 0 ≤ 10 ^ 15 =
            room-for (limit_of book.clients c) (filled_by h ts c) (reserved_by h ts c) ((slot_for t.who t.entry.command).left * get_or book.weights (slot_for t.who t.entry.command).pair 0)
            (clients-within h book.clients ts c stands.tagged_is within) units (limits c who within) in
            subst (λ n. n + (account_of book c).reserved + (slot_for t.who t.entry.command).left * get_or book.weights (slot_for t.who t.entry.command).pair 0 ≤ 10 ^ 15) (sym (stands.stands.filled c within))
            (subst (λ n. filled_by h ts c + n + (slot_for t.who t.entry.command).left * get_or book.weights (slot_for t.who t.entry.command).pair 0 ≤ 10 ^ 15) (sym (stands.stands.reserved c within)) sum);
      };
    }

-- ---- what an outcome settles

module _ (h : Header) (tagged : List Tagged) (t : Tagged) (e : Entry) (orders : List ActiveOrder) (fills : List Fill) (book : Book) (same : t.entry ≡ e) (way : IsUnderWay h tagged t orders fills book) where
  settling-last : IsLast h book.clients tagged t
  settling-last = last-of h book.clients tagged t way.tagged_is

  pub settling-step : IsStep h (state_of h tagged) e
  settling-step = subst (IsStep h (state_of h tagged)) same settling-last.step

  pub settling-sound : IsSound h (state_of h tagged)
  settling-sound = settling-last.sound

  pub settling-known : IsKnown h (counts_of h tagged t) e.bank e.number
  settling-known = subst (λ (x : Entry). IsKnown h (counts_of h tagged t) x.bank x.number) same (entry-known h (state_of h tagged) t.entry way.tagged_is.legal.session settling-sound settling-last.step)

  pub settling-command : (command : Command) → e.command ≡ command → IsCommand h e.bank command
  settling-command command is = subst (IsCommand h e.bank) is settling-step.command

  pub settling-outcome : (command : Command) (outcome : Outcome) → e.command ≡ command → e.outcome ≡ outcome → IsOutcome h (state_of h tagged) e.bank command outcome
  settling-outcome command outcome is gives = subst (IsOutcome h (state_of h tagged) e.bank command) gives (subst (λ (k : Command). IsOutcome h (state_of h tagged) e.bank k e.outcome) is settling-step.outcome)

  pub settling-count : e.number ≡ get_or (counts_of h tagged t) e.bank 0
  settling-count =
      settling-step.number
      ∙ sym (subst (λ (x : Entry). get_or (after_entry (state_of h tagged) t.entry).counts x.bank 0 ≡ count_of (state_of h tagged) x.bank + 1) same
      (step-one h (state_of h tagged) t.entry way.tagged_is.legal.session settling-sound settling-last.step))

  pub settling-found : (bank number : ℕ) (a : ActiveOrder) → Among a (state_of h tagged).orders → is_order bank number a.order ≡ true → IsKnown h (counts_of h tagged t) bank number
  settling-found bank number a there is =
      let says = is_order-says bank number a.order is in
      let known = Each-among (λ (x : ActiveOrder). IsKnown h (state_of h tagged).counts x.order.bank x.order.number) (state_of h tagged).orders a (orders-known h (state_of h tagged) way.tagged_is.legal.session settling-sound) there in
      subst (λ b. IsKnown h (counts_of h tagged t) b number) says.0 (subst (λ n. IsKnown h (counts_of h tagged t) a.order.bank n) says.1 (known_more h (state_of h tagged) t.entry a.order.bank a.order.number known))

cancel-some : (left : ℕ) (o : Option Resting) → Cancelled left ≡ cancel_answer o → (order : Resting) × (o ≡ Some order)
cancel-some left None is = cc
cancel-some left (Some order) is = (order, refl)

pub cancel-found : (S : State) (pair bank number left : ℕ) → Cancelled left ≡ cancel_answer (order_of S pair bank number) → (a : ActiveOrder) × Among a S.orders × (is_order bank number a.order ≡ true)
cancel-found S pair bank number left is =
    let some = cancel-some left (order_of S pair bank number) is in
    let says = find-says (λ (o : Resting). is_order bank number o) (orders_in pair S.orders) some.0 some.1 in
    let stands = orders_in-among pair S.orders some.0 says.0 in
    (stands.0, stands.1, ap (is_order bank number) (sym stands.3) ∙ says.1)
