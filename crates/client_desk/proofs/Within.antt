-- No client has more filled and reserved than its limit.
use Rattle.std.proofs.Common.{ℕ, ◌≡◌, ◌+◌, ◌-◌, ◌*◌, ◌≤◌, ◌<◌, Bool, true, false, not, ◌&&◌, eqb, ltb, cond, List, [], ◌∷◌, ◌++◌, inl, inr, refl, ap, sym, subst, ◌∙◌, arith, get_or, length, append-nil, append_assoc, Option, Some, None}
use Rattle.std.specs.List.{filter}
use Rattle.std.proofs.lemmas.Bool.{cases_Bool, cond-true, cond-false, cond_both, and_parts, eqb-true, ltb-true, ltb-false, lt-ltb, false_from_ne_true}
use Rattle.fx_rules.specs.declared.orders.ActiveOrder.{ActiveOrder}
use Rattle.fx_rules.specs.declared.orders.Resting.{Resting}
use Rattle.fx_rules.specs.declared.orders.Fill.{Fill}
use Rattle.fx_rules.specs.declared.command.Command.{Command}
use Rattle.fx_rules.specs.declared.command.Command.TheVariants.{Order, Cancel, Reduce, Pull}
use Rattle.fx_rules.specs.declared.command.Life.TheVariants.{Day, Ioc, Fok}
use Rattle.fx_rules.specs.declared.outcome.Outcome.{Outcome}
use Rattle.fx_rules.specs.declared.outcome.Outcome.TheVariants.{Cancelled, Reduced, NotLess, Pulled}
use Rattle.fx_rules.specs.declared.outcome.Entry.{Entry}
use Rattle.fx_rules.specs.Lists.{Among, Each, EachPair, total}
use Rattle.fx_rules.specs.Session.{Header, IsSession, weight_of}
use Rattle.fx_rules.specs.State.{State, opening, cost, count_of, orders_in}
use Rattle.fx_rules.specs.Sweep.{is_order, lowered, with_left}
use Rattle.fx_rules.specs.Raise.{order_of}
use Rattle.fx_rules.specs.Step.{IsCommand, IsOutcome, fills_of, reduced, without_orders, reduce_answer}
use Rattle.fx_rules.specs.History.{IsStep, Steps, IsLegal, after_entry}
use Rattle.fx_rules.specs.Sound.{IsSound, IsKept, Rises}
use Rattle.fx_rules.proofs.ListLemmas.{Each-append, Each-among, Each-weaker, Each-first, total-append}
use Rattle.fx_rules.proofs.Lowering.{is_order-says, Each-lowered}
use Rattle.fx_rules.proofs.Continuing.{legal-last}
use Rattle.fx_rules.proofs.Senders.{bank-sender, command-place, sender-place}
use Rattle.fx_rules.proofs.Soundness.{legal-sound}
use Rattle.fx_rules.proofs.Trading.{step-fills}
use Rattle.fx_rules.proofs.RaiseSound.{find-says}
use Rattle.fx_rules.proofs.PlainSound.{reduced_to}
use Rattle.fx_rules.proofs.Opens.{orders_in-among}
use Rattle.client_desk.specs.declared.client.Client.{Client}
use Rattle.client_desk.specs.declared.ask.Ask.TheVariants.{Pass, Short}
use Rattle.client_desk.specs.Clients.{Tagged, IsTagged, IsTagOf, HasPassed, PassedAfter, ClientsAreWithin, entries_of, state_of, owner_in, is_client, when, side_cost, filled_of, left_cost, reserved_of, filled_by, reserved_by, free_of, limit_of, ask_of}
use Rattle.client_desk.specs.Draws.{Offers, drawn, drawn_all, AreDrawn, coming_in, entered, taken_out, settled}
use Rattle.client_desk.proofs.Draws.{NoneIs, offers-cases, offers-among, lowered-here, lowered-later, fills-drawn}
use Rattle.client_desk.proofs.Settling.{steps-settle}
use Rattle.client_desk.proofs.Lots.{lots_worth, worth_of, worth-lowered, client_worth, reserved-worth, when_mul}
use Rattle.client_desk.proofs.Owners.{IsKnown, entries-push, entries-append, state-push, step-more, step-one, owner-push, owner-push-other}

-- ---- tagged histories, entry by entry

passed-last : (h : Header) (clients : List Client) (before ts : List Tagged) (t : Tagged) → PassedAfter h clients before (ts ++ t ∷ []) → PassedAfter h clients before ts × HasPassed h clients (before ++ ts) t
passed-last h clients before [] t passed = (tt, subst (λ (bs : List Tagged). HasPassed h clients bs t) (sym (append-nil before)) passed.0)
passed-last h clients before (x ∷ ts) t passed =
    let rest = passed-last h clients (before ++ x ∷ []) ts t passed.1 in
    ((passed.0, rest.0), subst (λ (bs : List Tagged). HasPassed h clients bs t) (append_assoc before (x ∷ []) ts) rest.1)

passed-push : (h : Header) (clients : List Client) (before ts : List Tagged) (t : Tagged) → PassedAfter h clients before ts → HasPassed h clients (before ++ ts) t → PassedAfter h clients before (ts ++ t ∷ [])
passed-push h clients before [] t passed last = (subst (λ (bs : List Tagged). HasPassed h clients bs t) (append-nil before) last, tt)
passed-push h clients before (x ∷ ts) t passed last =
    (passed.0, passed-push h clients (before ++ x ∷ []) ts t passed.1 (subst (λ (bs : List Tagged). HasPassed h clients bs t) (sym (append_assoc before (x ∷ []) ts)) last))

passed-first : (h : Header) (clients : List Client) (before ts us : List Tagged) → PassedAfter h clients before (ts ++ us) → PassedAfter h clients before ts
passed-first h clients before [] us passed = tt
passed-first h clients before (x ∷ ts) us passed = (passed.0, passed-first h clients (before ++ x ∷ []) ts us passed.1)

steps-first : (h : Header) (S : State) (es fs : List Entry) → Steps h S (es ++ fs) → Steps h S es
steps-first h S [] fs steps = tt
steps-first h S (e ∷ es) fs steps = (steps.0, steps-first h (after_entry S e) es fs steps.1)

pub tagged-first : (h : Header) (clients : List Client) (ts us : List Tagged) → IsTagged h clients (ts ++ us) → IsTagged h clients ts
tagged-first h clients ts us tagged = record {
  legal = record {
    session = tagged.legal.session;
    steps = steps-first h (opening h) (entries_of ts) (entries_of us) (subst (Steps h (opening h)) (entries-append ts us) tagged.legal.steps);
  };
  tags = Each-first (IsTagOf clients) ts us tagged.tags;
  passed = passed-first h clients [] ts us tagged.passed;
}

-- a tagged history goes on by an entry that is legal next, of a client whose command passed or of none
pub tagged-push : (h : Header) (clients : List Client) (ts : List Tagged) (t : Tagged) → IsTagged h clients ts → IsLegal h (entries_of (ts ++ t ∷ [])) → IsTagOf clients t → HasPassed h clients ts t → IsTagged h clients (ts ++ t ∷ [])
tagged-push h clients ts t tagged legal tag passed = record {
  legal = legal;
  tags = Each-append (IsTagOf clients) ts (t ∷ []) tagged.tags (tag, tt);
  passed = passed-push h clients [] ts t tagged.passed passed;
}

-- the last entry of a tagged history
pub record IsLast (h : Header) (clients : List Client) (ts : List Tagged) (t : Tagged) : Type 0 where
  pub before : IsTagged h clients ts
  pub step : IsStep h (state_of h ts) t.entry
  pub tag : IsTagOf clients t
  pub passed : HasPassed h clients ts t
  pub sound : IsSound h (state_of h ts)

each-last : {X : Type 0} (P : X → Type 0) (xs : List X) (x : X) → Each P (xs ++ x ∷ []) → P x
each-last P [] x all = all.0
each-last P (y ∷ xs) x all = each-last P xs x all.1

pub last-of : (h : Header) (clients : List Client) (ts : List Tagged) (t : Tagged) → IsTagged h clients (ts ++ t ∷ []) → IsLast h clients ts t
last-of h clients ts t tagged =
    let before : IsTagged h clients ts = tagged-first h clients ts (t ∷ []) tagged in
    record {
      before = before;
      step = (legal-last h (entries_of ts) t.entry (subst (IsLegal h) (entries-push ts t) tagged.legal)).1;
      tag = each-last (IsTagOf clients) ts t tagged.tags;
      passed = (passed-last h clients [] ts t tagged.passed).1;
      sound = legal-sound h (entries_of ts) before.legal;
    }

-- what holds of no entries, and of one more where it holds of those before, holds of each tagged history
tagged-walk : (h : Header) (clients : List Client) (P : List Tagged → Type 0) → ((ts : List Tagged) (t : Tagged) → IsTagged h clients (ts ++ t ∷ []) → P ts → P (ts ++ t ∷ [])) → (before ts : List Tagged) → IsTagged h clients (before ++ ts) → P before → P (before ++ ts)
tagged-walk h clients P one before [] tagged holds = subst P (sym (append-nil before)) holds
tagged-walk h clients P one before (t ∷ ts) tagged holds =
    let same : (before ++ t ∷ []) ++ ts ≡ before ++ (t ∷ ts) = append_assoc before (t ∷ []) ts in
    let whole : IsTagged h clients ((before ++ t ∷ []) ++ ts) = subst (IsTagged h clients) (sym same) tagged in
    subst P same (tagged-walk h clients P one (before ++ t ∷ []) ts whole (one before t (tagged-first h clients (before ++ t ∷ []) ts whole) holds))

-- ---- the numbers of a fill's sides

pub record SidesKnown (h : Header) (counts : List ℕ) (f : Fill) : Type 0 where
  pub maker : IsKnown h counts f.maker f.maker_number
  pub taker : IsKnown h counts f.taker f.taker_number

pub known_more : (h : Header) (S : State) (e : Entry) (bank number : ℕ) → IsKnown h S.counts bank number → IsKnown h (after_entry S e).counts bank number
known_more h S e bank number known = record { sender = known.sender; least = known.least; most = omega (arith, known.most, step-more S e bank) }

offers-known : (h : Header) (counts : List ℕ) (orders : List ActiveOrder) (pair bank number lots : ℕ) → Each (λ (a : ActiveOrder). IsKnown h counts a.order.bank a.order.number) orders → Offers orders pair bank number lots → IsKnown h counts bank number
offers-known h counts [] pair bank number lots known offers = absurd offers
offers-known h counts (a ∷ orders) pair bank number lots known offers =
    elim (offers-cases a orders pair bank number lots offers) [
      | inl here ↦
          let says = is_order-says bank number a.order here.0 in
          subst (λ b. IsKnown h counts b number) says.0 (subst (λ n. IsKnown h counts a.order.bank n) says.1 known.0)
      | inr later ↦ offers-known h counts orders pair bank number lots known.1 later.1
    ]

lowered-known : (h : Header) (counts : List ℕ) (bank number lots : ℕ) (orders : List ActiveOrder) → Each (λ (a : ActiveOrder). IsKnown h counts a.order.bank a.order.number) orders → Each (λ (a : ActiveOrder). IsKnown h counts a.order.bank a.order.number) (lowered bank number lots orders)
lowered-known h counts bank number lots orders known =
    Each-lowered (λ (a : ActiveOrder). IsKnown h counts a.order.bank a.order.number) (λ a left is _ _. is) bank number lots orders known

fills-known : (h : Header) (counts : List ℕ) (orders : List ActiveOrder) (fills : List Fill) → Each (λ (a : ActiveOrder). IsKnown h counts a.order.bank a.order.number) orders → AreDrawn orders fills → Each (SidesKnown h counts) fills
fills-known h counts orders [] known are = tt
fills-known h counts orders (f ∷ fills) known are =
    let once : Each (λ (a : ActiveOrder). IsKnown h counts a.order.bank a.order.number) (lowered f.maker f.maker_number f.lots orders) = lowered-known h counts f.maker f.maker_number f.lots orders known in (
      record {
        maker = offers-known h counts orders f.pair f.maker f.maker_number f.lots known are.0.maker;
        taker = offers-known h counts (lowered f.maker f.maker_number f.lots orders) f.pair f.taker f.taker_number f.lots once are.0.taker;
      },
      fills-known h counts (drawn orders f) fills (lowered-known h counts f.taker f.taker_number f.lots (lowered f.maker f.maker_number f.lots orders) once) are.1,
    )

-- the orders that rest are of commands that were sent
pub orders-known : (h : Header) (S : State) → IsSession h → IsSound h S → Each (λ (a : ActiveOrder). IsKnown h S.counts a.order.bank a.order.number) S.orders
orders-known h S session sound =
    Each-weaker (IsKept h S.counts) (λ (a : ActiveOrder). IsKnown h S.counts a.order.bank a.order.number)
    (λ a kept. record { sender = sender-place h a.order.bank session (bank-sender h a.order.bank kept.bank); least = kept.number_least; most = kept.number_most }) S.orders sound.kept

-- an entry's own number is one
pub entry-known : (h : Header) (S : State) (e : Entry) → IsSession h → IsSound h S → IsStep h S e → IsKnown h (after_entry S e).counts e.bank e.number
entry-known h S e session sound step = record {
  sender = command-place h e.bank e.command session step.command;
  least = omega (arith, step.number);
  most = omega (arith, step.number, step-one h S e session sound step);
}

coming-known : (h : Header) (S : State) (e : Entry) (command : Command) → e.number ≡ count_of S e.bank + 1 → IsKnown h (after_entry S e).counts e.bank e.number → Each (λ (a : ActiveOrder). IsKnown h (after_entry S e).counts a.order.bank a.order.number) (coming_in S e.bank command)
coming-known h S e (Order side pair price lots life) next known = (subst (IsKnown h (after_entry S e).counts e.bank) next known, tt)
coming-known h S e command next known = tt

pub entered-known : (h : Header) (S : State) (e : Entry) → IsSession h → IsSound h S → IsStep h S e → Each (λ (a : ActiveOrder). IsKnown h (after_entry S e).counts a.order.bank a.order.number) (entered S e)
entered-known h S e session sound step =
    Each-append (λ (a : ActiveOrder). IsKnown h (after_entry S e).counts a.order.bank a.order.number) S.orders (coming_in S e.bank e.command)
    (Each-weaker (λ (a : ActiveOrder). IsKnown h S.counts a.order.bank a.order.number) (λ (a : ActiveOrder). IsKnown h (after_entry S e).counts a.order.bank a.order.number)
    (λ a known. known_more h S e a.order.bank a.order.number known) S.orders (orders-known h S session sound))
    (coming-known h S e e.command step.number (entry-known h S e session sound step))

pub step-known : (h : Header) (S : State) (e : Entry) → IsSession h → IsSound h S → IsStep h S e → Each (SidesKnown h S.counts) S.fills → Each (SidesKnown h (after_entry S e).counts) (after_entry S e).fills
step-known h S e session sound step known =
    subst (Each (SidesKnown h (after_entry S e).counts)) (sym (step-fills h S e step))
    (Each-append (SidesKnown h (after_entry S e).counts) S.fills (fills_of e.outcome)
    (Each-weaker (SidesKnown h S.counts) (SidesKnown h (after_entry S e).counts)
    (λ f sides. record { maker = known_more h S e f.maker f.maker_number sides.maker; taker = known_more h S e f.taker f.taker_number sides.taker }) S.fills known)
    (fills-known h (after_entry S e).counts (entered S e) (fills_of e.outcome) (entered-known h S e session sound step) (fills-drawn h S e session sound step)))

-- ---- what fills and outcomes move

side-worth : (h : Header) (own : ℕ → ℕ → Option ℕ) (c : ℕ) (f : Fill) → side_cost h own c f ≡ f.lots * client_worth h own c f.pair f.taker f.taker_number + f.lots * client_worth h own c f.pair f.maker f.maker_number
side-worth h own c f =
    let taker : when (is_client (own f.taker f.taker_number) c) (cost h f) ≡ f.lots * client_worth h own c f.pair f.taker f.taker_number = when_mul (is_client (own f.taker f.taker_number) c) f.lots (weight_of h f.pair) in
    let maker : when (is_client (own f.maker f.maker_number) c) (cost h f) ≡ f.lots * client_worth h own c f.pair f.maker f.maker_number = when_mul (is_client (own f.maker f.maker_number) c) f.lots (weight_of h f.pair) in
    omega arith

pub drawn-moves : (h : Header) (own : ℕ → ℕ → Option ℕ) (c : ℕ) (orders : List ActiveOrder) (fills : List Fill) → AreDrawn orders fills → reserved_of h own c (drawn_all orders fills) + filled_of h own c fills ≡ reserved_of h own c orders
drawn-moves h own c orders [] are = omega arith
drawn-moves h own c orders (f ∷ fills) are =
    let once : List ActiveOrder = lowered f.maker f.maker_number f.lots orders in
    let maker : lots_worth (client_worth h own c) once + f.lots * client_worth h own c f.pair f.maker f.maker_number ≡ lots_worth (client_worth h own c) orders =
    worth-lowered (client_worth h own c) f.pair f.maker f.maker_number f.lots orders are.0.maker in
    let taker : lots_worth (client_worth h own c) (drawn orders f) + f.lots * client_worth h own c f.pair f.taker f.taker_number ≡ lots_worth (client_worth h own c) once =
    worth-lowered (client_worth h own c) f.pair f.taker f.taker_number f.lots once are.0.taker in
    let rest : reserved_of h own c (drawn_all (drawn orders f) fills) + filled_of h own c fills ≡ reserved_of h own c (drawn orders f) = drawn-moves h own c (drawn orders f) fills are.1 in
    let one : reserved_of h own c (drawn orders f) ≡ lots_worth (client_worth h own c) (drawn orders f) = reserved-worth h own c (drawn orders f) in
    let two : reserved_of h own c orders ≡ lots_worth (client_worth h own c) orders = reserved-worth h own c orders in
    let side : side_cost h own c f ≡ f.lots * client_worth h own c f.pair f.taker f.taker_number + f.lots * client_worth h own c f.pair f.maker f.maker_number =
    side-worth h own c f in
    omega arith

filter-least : (g : ℕ → ℕ → ℕ → ℕ) (keep : ActiveOrder → Bool) (orders : List ActiveOrder) → lots_worth g (filter keep orders) ≤ lots_worth g orders
filter-least g keep [] = omega arith
filter-least g keep (a ∷ orders) =
    let rest : lots_worth g (filter keep orders) ≤ lots_worth g orders = filter-least g keep orders in
    cond_both (keep a) (a ∷ filter keep orders) (filter keep orders) (λ (os : List ActiveOrder). lots_worth g os ≤ worth_of g a + lots_worth g orders)
    (λ _. omega arith) (λ _. omega arith)

-- two orders of one bank and number are one, so a reduction lowers one order
pub none-later : (bank number : ℕ) (a : ActiveOrder) (orders : List ActiveOrder) → Each (Rises a) orders → is_order bank number a.order ≡ true → NoneIs bank number orders
none-later bank number a orders rising is =
    Each-weaker (Rises a) (λ (b : ActiveOrder). is_order bank number b.order ≡ false)
    (λ b before. false_from_ne_true (is_order bank number b.order)
    (λ also.
    let one = is_order-says bank number a.order is in
    let other = is_order-says bank number b.order also in
    before.number (one.0 ∙ sym other.0) (one.1 ∙ sym other.1))) orders rising

-- the first of two is not of the second's number
pub not-first : (bank number : ℕ) (b a : ActiveOrder) (orders : List ActiveOrder) → Each (Rises b) orders → Among a orders → is_order bank number a.order ≡ true → is_order bank number b.order ≡ false
not-first bank number b a orders rising there is =
    false_from_ne_true (is_order bank number b.order)
    (λ also.
    let before : Rises b a = Each-among (Rises b) orders a rising there in
    let one = is_order-says bank number b.order also in
    let other = is_order-says bank number a.order is in
    before.number (one.0 ∙ sym other.0) (one.1 ∙ sym other.1))

reduced-none : (bank number left : ℕ) (orders : List ActiveOrder) → NoneIs bank number orders → reduced bank number left orders ≡ orders
reduced-none bank number left [] none = refl
reduced-none bank number left (a ∷ orders) none =
    ap (λ (b : ActiveOrder). b ∷ reduced bank number left orders) (cond-false (is_order bank number a.order) (with_left a left) a none.0)
    ∙ ap (λ (os : List ActiveOrder). a ∷ os) (reduced-none bank number left orders none.1)

pub reduced-lowered : (bank number left : ℕ) (orders : List ActiveOrder) (a : ActiveOrder) → EachPair Rises orders → Among a orders → is_order bank number a.order ≡ true → 1 ≤ left → left < a.order.left → reduced bank number left orders ≡ lowered bank number (a.order.left - left) orders
reduced-lowered bank number left [] a rising there is some less = absurd there
reduced-lowered bank number left (b ∷ orders) a rising (inl same) is some less =
    let is_b : is_order bank number b.order ≡ true = ap (λ (x : ActiveOrder). is_order bank number x.order) (sym same) ∙ is in
    let left_b : a.order.left ≡ b.order.left = ap (λ (x : ActiveOrder). x.order.left) same in
    let still : ltb (a.order.left - left) b.order.left ≡ true = lt-ltb (a.order.left - left) b.order.left (omega arith) in
    let back : b.order.left - (a.order.left - left) ≡ left = omega arith in
    ap (λ (x : ActiveOrder). x ∷ reduced bank number left orders) (cond-true (is_order bank number b.order) (with_left b left) b is_b)
    ∙ ap (λ (os : List ActiveOrder). with_left b left ∷ os) (reduced-none bank number left orders (none-later bank number b orders rising.0 is_b))
    ∙ ap (λ n. with_left b n ∷ orders) (sym back)
    ∙ sym (lowered-here bank number (a.order.left - left) b orders is_b
    ∙ cond-true (ltb (a.order.left - left) b.order.left) (with_left b (b.order.left - (a.order.left - left)) ∷ orders) orders still)
reduced-lowered bank number left (b ∷ orders) a rising (inr there) is some less =
    let not' : is_order bank number b.order ≡ false = false_from_ne_true (is_order bank number b.order)
    (λ also.
    let before : Rises b a = Each-among (Rises b) orders a rising.0 there in
    let one = is_order-says bank number b.order also in
    let other = is_order-says bank number a.order is in
    before.number (one.0 ∙ sym other.0) (one.1 ∙ sym other.1)) in
    ap (λ (x : ActiveOrder). x ∷ reduced bank number left orders) (cond-false (is_order bank number b.order) (with_left b left) b not')
    ∙ ap (λ (os : List ActiveOrder). b ∷ os) (reduced-lowered bank number left orders a rising.1 there is some less)
    ∙ sym (lowered-later bank number (a.order.left - left) b orders not')

-- what a reduction found
pub record IsReduced (S : State) (pair bank number left : ℕ) : Type 0 where
  pub active : ActiveOrder
  pub among : Among active S.orders
  pub of_pair : active.pair ≡ pair
  pub is : is_order bank number active.order ≡ true
  pub less : left < active.order.left

reduced-less : (lots left : ℕ) (o : Option Resting) → Reduced left ≡ reduce_answer lots o → (order : Resting) × (o ≡ Some order) × (left < order.left)
reduced-less lots left None is = cc
reduced-less lots left (Some order) is =
    elim (cases_Bool (ltb lots order.left)) [
      | inl less ↦
          let same : Reduced left ≡ Reduced lots = is ∙ cond-true (ltb lots order.left) (Reduced lots) (NotLess order.left) less in
          let lt : lots < order.left = ltb-true lots order.left less in
          let eq : left ≡ lots = cc in
          (order, refl, omega arith)
      | inr more ↦
          let same : Reduced left ≡ NotLess order.left = is ∙ cond-false (ltb lots order.left) (Reduced lots) (NotLess order.left) more in
          cc
    ]

pub reduced-of : (S : State) (pair bank number lots left : ℕ) → Reduced left ≡ reduce_answer lots (order_of S pair bank number) → IsReduced S pair bank number left
reduced-of S pair bank number lots left is =
    let found = reduced-less lots left (order_of S pair bank number) is in
    let says = find-says (λ (o : Resting). is_order bank number o) (orders_in pair S.orders) found.0 found.1 in
    let stands = orders_in-among pair S.orders found.0 says.0 in
    record {
      active = stands.0;
      among = stands.1;
      of_pair = stands.2;
      is = ap (is_order bank number) (sym stands.3) ∙ says.1;
      less = subst (λ (o : Resting). left < o.left) stands.3 found.2;
    }

-- what is settled reserves no more
by-worth : (h : Header) (own : ℕ → ℕ → Option ℕ) (c : ℕ) (some all : List ActiveOrder) → lots_worth (client_worth h own c) some ≤ lots_worth (client_worth h own c) all → reserved_of h own c some ≤ reserved_of h own c all
by-worth h own c some all le =
    let one : reserved_of h own c some ≡ lots_worth (client_worth h own c) some = reserved-worth h own c some in
    let two : reserved_of h own c all ≡ lots_worth (client_worth h own c) all = reserved-worth h own c all in
    omega arith

out-least : (h : Header) (own : ℕ → ℕ → Option ℕ) (c pair bank number : ℕ) (orders : List ActiveOrder) → reserved_of h own c (taken_out pair bank number orders) ≤ reserved_of h own c orders
out-least h own c pair bank number orders =
    by-worth h own c (taken_out pair bank number orders) orders
    (filter-least (client_worth h own c) (λ (a : ActiveOrder). not (eqb a.pair pair && is_order bank number a.order)) orders)

reduced-least : (h : Header) (S : State) (own : ℕ → ℕ → Option ℕ) (c pair bank number left : ℕ) → IsSound h S → 1 ≤ left → IsReduced S pair bank number left → reserved_of h own c (reduced bank number left S.orders) ≤ reserved_of h own c S.orders
reduced-least h S own c pair bank number left sound some found =
    let lots : ℕ = found.active.order.left - left in
    let same : reduced bank number left S.orders ≡ lowered bank number (found.active.order.left - left) S.orders =
    reduced-lowered bank number left S.orders found.active sound.rising found.among found.is some found.less in
    let sum : lots_worth (client_worth h own c) (lowered bank number (found.active.order.left - left) S.orders) + (found.active.order.left - left) * client_worth h own c pair bank number ≡ lots_worth (client_worth h own c) S.orders =
    worth-lowered (client_worth h own c) pair bank number (found.active.order.left - left) S.orders
    (offers-among S.orders found.active pair bank number (found.active.order.left - left) sound.rising found.among found.of_pair found.is (omega arith)) in
    subst (λ (os : List ActiveOrder). reserved_of h own c os ≤ reserved_of h own c S.orders) (sym same)
    (by-worth h own c (lowered bank number (found.active.order.left - left) S.orders) S.orders (omega arith))

pub reduced-some : (h : Header) (S : State) (bank pair number lots left : ℕ) → IsCommand h bank (Reduce pair number lots) → Reduced left ≡ reduce_answer lots (order_of S pair bank number) → 1 ≤ left
reduced-some h S bank pair number lots left command is =
    let same : left ≡ lots = reduced_to lots left (order_of S pair bank number) is in omega (arith, command.values.2.0)

settled-least : (h : Header) (S : State) (own : ℕ → ℕ → Option ℕ) (c bank number : ℕ) (command : Command) (outcome : Outcome) → IsSound h S → IsCommand h bank command → IsOutcome h S bank command outcome → reserved_of h own c (settled bank number command outcome (drawn_all (S.orders ++ coming_in S bank command) (fills_of outcome))) ≤ reserved_of h own c (drawn_all (S.orders ++ coming_in S bank command) (fills_of outcome))
settled-least h S own c bank number (Order side pair price lots Day) outcome sound command is = omega arith
settled-least h S own c bank number (Order side pair price lots Ioc) outcome sound command is = out-least h own c pair bank number (drawn_all (S.orders ++ coming_in S bank (Order side pair price lots Ioc)) (fills_of outcome))
settled-least h S own c bank number (Order side pair price lots Fok) outcome sound command is = out-least h own c pair bank number (drawn_all (S.orders ++ coming_in S bank (Order side pair price lots Fok)) (fills_of outcome))
settled-least h S own c bank number (Cancel pair other) (Cancelled left) sound command is = out-least h own c pair bank other (S.orders ++ [])
settled-least h S own c bank number (Reduce pair other lots) (Reduced left) sound command is =
    subst (λ (os : List ActiveOrder). reserved_of h own c (reduced bank other left os) ≤ reserved_of h own c os) (sym (append-nil S.orders))
    (reduced-least h S own c pair bank other left sound (reduced-some h S bank pair other lots left command is) (reduced-of S pair bank other lots left is))
settled-least h S own c bank number (Pull pair) (Pulled count) sound command is =
    by-worth h own c (without_orders pair bank (S.orders ++ [])) (S.orders ++ [])
    (filter-least (client_worth h own c) (λ (a : ActiveOrder). not (eqb a.pair pair && eqb a.order.bank bank)) (S.orders ++ []))
settled-least h S own c bank number command outcome sound valid is = omega arith

-- ---- owners, one entry later

-- an order other than the entry's has the owner that it had
pub own-same : (ts : List Tagged) (t : Tagged) (bank number : ℕ) → (t.entry.bank ≡ bank → t.entry.number ≡ number → ⊥) → owner_in (ts ++ t ∷ []) bank number ≡ owner_in ts bank number
own-same ts t bank number differ =
    owner-push-other ts t bank number (false_from_ne_true (eqb t.entry.bank bank && eqb t.entry.number number)
    (λ is.
    let both = and_parts (eqb t.entry.bank bank) (eqb t.entry.number number) is in
    differ (eqb-true t.entry.bank bank both.0) (eqb-true t.entry.number number both.1)))

-- so has one of a number that was given
pub own-known : (h : Header) (ts : List Tagged) (t : Tagged) (bank number : ℕ) → t.entry.number ≡ count_of (state_of h ts) t.entry.bank + 1 → IsKnown h (state_of h ts).counts bank number → owner_in (ts ++ t ∷ []) bank number ≡ owner_in ts bank number
own-known h ts t bank number next known =
    own-same ts t bank number (λ same also.
    let most : number ≤ get_or (state_of h ts).counts t.entry.bank 0 = subst (λ b. number ≤ get_or (state_of h ts).counts b 0) (sym same) known.most in
    omega arith)

total-each : {X : Type 0} (f g : X → ℕ) (xs : List X) → Each (λ x. f x ≡ g x) xs → total f xs ≡ total g xs
total-each f g [] agree = refl
total-each f g (x ∷ xs) agree =
    let here : f x ≡ g x = agree.0 in
    let rest : total f xs ≡ total g xs = total-each f g xs agree.1 in
    omega arith

pub reserved-same : (h : Header) (ts : List Tagged) (t : Tagged) (c : ℕ) → IsSession h → IsSound h (state_of h ts) → t.entry.number ≡ count_of (state_of h ts) t.entry.bank + 1 → reserved_of h (owner_in (ts ++ t ∷ [])) c (state_of h ts).orders ≡ reserved_of h (owner_in ts) c (state_of h ts).orders
reserved-same h ts t c session sound next =
    total-each (left_cost h (owner_in (ts ++ t ∷ [])) c) (left_cost h (owner_in ts) c) (state_of h ts).orders
    (Each-weaker (λ (a : ActiveOrder). IsKnown h (state_of h ts).counts a.order.bank a.order.number) (λ (a : ActiveOrder). left_cost h (owner_in (ts ++ t ∷ [])) c a ≡ left_cost h (owner_in ts) c a)
    (λ a known. ap (λ (o : Option ℕ). when (is_client o c) (a.order.left * weight_of h a.pair)) (own-known h ts t a.order.bank a.order.number next known))
    (state_of h ts).orders (orders-known h (state_of h ts) session sound))

pub filled-same : (h : Header) (ts : List Tagged) (t : Tagged) (c : ℕ) → t.entry.number ≡ count_of (state_of h ts) t.entry.bank + 1 → Each (SidesKnown h (state_of h ts).counts) (state_of h ts).fills → filled_of h (owner_in (ts ++ t ∷ [])) c (state_of h ts).fills ≡ filled_of h (owner_in ts) c (state_of h ts).fills
filled-same h ts t c next known =
    total-each (side_cost h (owner_in (ts ++ t ∷ [])) c) (side_cost h (owner_in ts) c) (state_of h ts).fills
    (Each-weaker (SidesKnown h (state_of h ts).counts) (λ (f : Fill). side_cost h (owner_in (ts ++ t ∷ [])) c f ≡ side_cost h (owner_in ts) c f)
    (λ f sides.
    ap (λ (o : Option ℕ). when (is_client o c) (cost h f) + when (is_client (owner_in (ts ++ t ∷ []) f.maker f.maker_number) c) (cost h f)) (own-known h ts t f.taker f.taker_number next sides.taker)
    ∙ ap (λ (o : Option ℕ). when (is_client (owner_in ts f.taker f.taker_number) c) (cost h f) + when (is_client o c) (cost h f)) (own-known h ts t f.maker f.maker_number next sides.maker))
    (state_of h ts).fills known)

-- ---- the limit

pub is_client-says : (who : Option ℕ) (c : ℕ) → is_client who c ≡ true → who ≡ Some c
is_client-says None c is = cc
is_client-says (Some who) c is = ap Some (eqb-true who c is)

pub short-not : (free units : ℕ) → cond (ltb free units) (Short free) Pass ≡ Pass → units ≤ free
short-not free units is =
    elim (cases_Bool (ltb free units)) [
      | inl less ↦ let no : Short free ≡ Pass = sym (cond-true (ltb free units) (Short free) Pass less) ∙ is in cc
      | inr enough ↦ ltb-false free units enough
    ]

gain-within : (h : Header) (clients : List Client) (ts : List Tagged) (t : Tagged) (command : Command) (c : ℕ) → ((k : ℕ) → t.who ≡ Some k → ask_of h clients ts k command ≡ Pass) → owner_in (ts ++ t ∷ []) t.entry.bank (count_of (state_of h ts) t.entry.bank + 1) ≡ t.who → filled_by h ts c + reserved_by h ts c ≤ limit_of clients c → filled_by h ts c + reserved_by h ts c + reserved_of h (owner_in (ts ++ t ∷ [])) c (coming_in (state_of h ts) t.entry.bank command) ≤ limit_of clients c
gain-within h clients ts t (Order side pair price lots life) c passed owner within =
    let own : ℕ → ℕ → Option ℕ = owner_in (ts ++ t ∷ []) in
    let number : ℕ = count_of (state_of h ts) t.entry.bank + 1 in
    elim (cases_Bool (is_client t.who c)) [
      | inl is ↦
          let units : lots * weight_of h pair ≤ free_of h clients ts c = short-not (free_of h clients ts c) (lots * weight_of h pair) (passed c (is_client-says t.who c is)) in
          let mine : when (is_client (owner_in (ts ++ t ∷ []) t.entry.bank (count_of (state_of h ts) t.entry.bank + 1)) c) (lots * weight_of h pair) ≡ lots * weight_of h pair =
          ap (λ (o : Option ℕ). when (is_client o c) (lots * weight_of h pair)) owner ∙ ap (λ b. when b (lots * weight_of h pair)) is in
          omega arith
      | inr is_not ↦
          let none : when (is_client (owner_in (ts ++ t ∷ []) t.entry.bank (count_of (state_of h ts) t.entry.bank + 1)) c) (lots * weight_of h pair) ≡ 0 =
          ap (λ (o : Option ℕ). when (is_client o c) (lots * weight_of h pair)) owner ∙ ap (λ b. when b (lots * weight_of h pair)) is_not in
          omega arith
    ]
gain-within h clients ts t command c passed owner within = omega arith

pub record AreWithin (h : Header) (clients : List Client) (ts : List Tagged) : Type 0 where
  pub known : Each (SidesKnown h (state_of h ts).counts) (state_of h ts).fills
  pub within : (c : ℕ) → c < length clients → filled_by h ts c + reserved_by h ts c ≤ limit_of clients c

sum_up : (filled' filled fills settled drawn entered reserved coming limit : ℕ) → filled' ≡ filled + fills → settled ≤ drawn → drawn + fills ≡ entered → entered ≡ reserved + coming → filled + reserved + coming ≤ limit → filled' + settled ≤ limit
sum_up filled' filled fills settled drawn entered reserved coming limit a b c d e = omega arith

pub within-more : (h : Header) (clients : List Client) (ts : List Tagged) (t : Tagged) → IsTagged h clients (ts ++ t ∷ []) → AreWithin h clients ts → AreWithin h clients (ts ++ t ∷ [])
within-more h clients ts t tagged are =
    let last : IsLast h clients ts t = last-of h clients ts t tagged in
    let session : IsSession h = tagged.legal.session in
    let S : State = state_of h ts in
    let e : Entry = t.entry in
    let own : ℕ → ℕ → Option ℕ = owner_in (ts ++ t ∷ []) in
    let next : state_of h (ts ++ t ∷ []) ≡ after_entry (state_of h ts) t.entry = state-push h ts t in
    record {
      known = subst (λ (T : State). Each (SidesKnown h T.counts) T.fills) (sym next) (step-known h (state_of h ts) t.entry session last.sound last.step are.known);
      within = λ c c_in.
          let owner : owner_in (ts ++ t ∷ []) t.entry.bank (count_of (state_of h ts) t.entry.bank + 1) ≡ t.who =
          ap (owner_in (ts ++ t ∷ []) t.entry.bank) (sym last.step.number) ∙ owner-push h ts t last.before.legal last.step.number in
          let fills : List Fill = fills_of t.entry.outcome in
          let filled' : filled_of h (owner_in (ts ++ t ∷ [])) c (state_of h (ts ++ t ∷ [])).fills ≡ filled_of h (owner_in (ts ++ t ∷ [])) c (state_of h ts).fills + filled_of h (owner_in (ts ++ t ∷ [])) c (fills_of t.entry.outcome) =
          ap (λ (T : State). filled_of h (owner_in (ts ++ t ∷ [])) c T.fills) next
          ∙ ap (filled_of h (owner_in (ts ++ t ∷ [])) c) (step-fills h (state_of h ts) t.entry last.step)
          ∙ total-append (side_cost h (owner_in (ts ++ t ∷ [])) c) (state_of h ts).fills (fills_of t.entry.outcome) in
          let before : filled_of h (owner_in (ts ++ t ∷ [])) c (state_of h ts).fills ≡ filled_by h ts c = filled-same h ts t c last.step.number are.known in
          let settled' : reserved_of h (owner_in (ts ++ t ∷ [])) c (state_of h (ts ++ t ∷ [])).orders ≡ reserved_of h (owner_in (ts ++ t ∷ [])) c (settled t.entry.bank t.entry.number t.entry.command t.entry.outcome (drawn_all (entered (state_of h ts) t.entry) (fills_of t.entry.outcome))) =
          ap (λ (T : State). reserved_of h (owner_in (ts ++ t ∷ [])) c T.orders) next
          ∙ ap (reserved_of h (owner_in (ts ++ t ∷ [])) c) (steps-settle h (state_of h ts) t.entry session last.sound last.step) in
          let least : reserved_of h (owner_in (ts ++ t ∷ [])) c (settled t.entry.bank t.entry.number t.entry.command t.entry.outcome (drawn_all (entered (state_of h ts) t.entry) (fills_of t.entry.outcome))) ≤ reserved_of h (owner_in (ts ++ t ∷ [])) c (drawn_all (entered (state_of h ts) t.entry) (fills_of t.entry.outcome)) =
          settled-least h (state_of h ts) (owner_in (ts ++ t ∷ [])) c t.entry.bank t.entry.number t.entry.command t.entry.outcome last.sound last.step.command last.step.outcome in
          let moved : reserved_of h (owner_in (ts ++ t ∷ [])) c (drawn_all (entered (state_of h ts) t.entry) (fills_of t.entry.outcome)) + filled_of h (owner_in (ts ++ t ∷ [])) c (fills_of t.entry.outcome) ≡ reserved_of h (owner_in (ts ++ t ∷ [])) c (entered (state_of h ts) t.entry) =
          drawn-moves h (owner_in (ts ++ t ∷ [])) c (entered (state_of h ts) t.entry) (fills_of t.entry.outcome) (fills-drawn h (state_of h ts) t.entry session last.sound last.step) in
          let came : reserved_of h (owner_in (ts ++ t ∷ [])) c (entered (state_of h ts) t.entry) ≡ reserved_of h (owner_in (ts ++ t ∷ [])) c (state_of h ts).orders + reserved_of h (owner_in (ts ++ t ∷ [])) c (coming_in (state_of h ts) t.entry.bank t.entry.command) =
          total-append (left_cost h (owner_in (ts ++ t ∷ [])) c) (state_of h ts).orders (coming_in (state_of h ts) t.entry.bank t.entry.command) in
          let rests : reserved_of h (owner_in (ts ++ t ∷ [])) c (state_of h ts).orders ≡ reserved_by h ts c = reserved-same h ts t c session last.sound last.step.number in
          let gain : filled_by h ts c + reserved_by h ts c + reserved_of h (owner_in (ts ++ t ∷ [])) c (coming_in (state_of h ts) t.entry.bank t.entry.command) ≤ limit_of clients c =
          gain-within h clients ts t t.entry.command c last.passed owner (are.within c c_in) in
          sum_up (filled_by h (ts ++ t ∷ []) c) (filled_by h ts c) (filled_of h (owner_in (ts ++ t ∷ [])) c (fills_of t.entry.outcome)) (reserved_by h (ts ++ t ∷ []) c) (reserved_of h (owner_in (ts ++ t ∷ [])) c (drawn_all (entered (state_of h ts) t.entry) (fills_of t.entry.outcome))) (reserved_of h (owner_in (ts ++ t ∷ [])) c (entered (state_of h ts) t.entry)) (reserved_by h ts c) (reserved_of h (owner_in (ts ++ t ∷ [])) c (coming_in (state_of h ts) t.entry.bank t.entry.command)) (limit_of clients c)
          (filled' ∙ ap (λ n. n + filled_of h (owner_in (ts ++ t ∷ [])) c (fills_of t.entry.outcome)) before)
          (subst (λ n. n ≤ reserved_of h (owner_in (ts ++ t ∷ [])) c (drawn_all (entered (state_of h ts) t.entry) (fills_of t.entry.outcome))) (sym settled') least)
          moved
          (came ∙ ap (λ n. n + reserved_of h (owner_in (ts ++ t ∷ [])) c (coming_in (state_of h ts) t.entry.bank t.entry.command)) rests)
          gain;
    }

pub all-within : (h : Header) (clients : List Client) (ts : List Tagged) → IsTagged h clients ts → AreWithin h clients ts
all-within h clients ts tagged =
    tagged-walk h clients (AreWithin h clients) (within-more h clients) [] ts tagged
    (record { known = tt; within = λ c c_in. omega arith })

pub clients-within : ClientsAreWithin
clients-within h clients ts c tagged c_in = (all-within h clients ts tagged).within c c_in
