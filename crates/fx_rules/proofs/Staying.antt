-- What an entry leaves as it was: the orders of other pairs, and the counts of other banks.
use Rattle.std.proofs.Common.{ℕ, ◌≡◌, ◌≢◌, ◌+◌, ◌-◌, ◌<◌, Bool, true, false, not, ◌&&◌, eqb, ltb, cond, List, [], ◌∷◌, ◌++◌, map, get_or, ◌≤◌, inl, inr, refl, ap, sym, subst, ◌∙◌, arith, Option, Some, None}
use Rattle.std.specs.Prelude.{nat_lt}
use Rattle.std.specs.List.{filter}
use Rattle.std.proofs.lemmas.Bool.{cases_Bool, cond_both, and_left, eqb-true, eqb-false, ne_eqb, not_from_false, false_from_ne_true}
use Rattle.std.proofs.lemmas.List.{get_or-set_other}
use Rattle.fx_amounts.specs.declared.side.Side.{Side}
use Rattle.fx_rules.specs.declared.orders.ActiveOrder.{ActiveOrder}
use Rattle.fx_rules.specs.declared.orders.Resting.{Resting}
use Rattle.fx_rules.specs.declared.orders.Fill.{Fill}
use Rattle.fx_rules.specs.declared.command.Command.{Command}
use Rattle.fx_rules.specs.declared.command.Command.TheVariants.{Order, Cancel, Reduce, Pull, Line, Total, Settle, Show, Book, Bad}
use Rattle.fx_rules.specs.declared.command.Life.{Life}
use Rattle.fx_rules.specs.declared.command.Life.TheVariants.{Day, Ioc, Fok}
use Rattle.fx_rules.specs.declared.outcome.Outcome.{Outcome}
use Rattle.fx_rules.specs.declared.outcome.Outcome.TheVariants.{Ordered, Killed, Cancelled, Reduced, Pulled, LineSet, TotalSet, Settled}
use Rattle.fx_rules.specs.declared.outcome.Entry.{Entry}
use Rattle.fx_rules.specs.Lists.{Among, EachPair}
use Rattle.fx_rules.specs.Session.{Header, IsSession, bank_count, pair_count, weight_of}
use Rattle.fx_rules.specs.State.{State, orders_in, count_of}
use Rattle.fx_rules.specs.Sweep.{Taker, Swept, filled, filled_all, lowered, less, is_order, with_left, taker_of}
use Rattle.fx_rules.specs.Raise.{limited, totalled, settled, order_of, taker_of_resting, Turned}
use Rattle.fx_rules.specs.Step.{IsCommand, IsOrdered, IsOutcome, cancel_answer, reduce_answer, rested, reduced, changed, may_change}
use Rattle.fx_rules.specs.History.{IsStep, after_entry}
use Rattle.fx_rules.specs.Sound.{IsSound, IsKept, Rises}
use Rattle.fx_rules.specs.inside.Orders.{in_pair}
use Rattle.fx_rules.proofs.ListLemmas.{Each-among, filter_agree_on, filter_filter, filter_cons_true, filter_cons_false}
use Rattle.fx_rules.proofs.Credit.{IsAllowed}
use Rattle.fx_rules.proofs.Opens.{IsMaker, maker_of, allowed-open}
use Rattle.fx_rules.proofs.SweepSound.{filled_all-append}
use Rattle.fx_rules.proofs.RaiseSound.{IsTurn, turn_of, turn-sender, turns-walk}
use Rattle.fx_rules.proofs.Lowering.{is_order-says}
use Rattle.fx_rules.proofs.Following.{lowered_from}
use Rattle.fx_rules.proofs.Soundness.{filled-sound, resting_of, counts-filled_all, weight_of-least}

-- ---- counts

counts-rested : (t : Taker) (rests : ℕ) (S : State) → (rested t rests S).counts ≡ S.counts
unfolding resting_of
counts-rested t rests S = cond_both (nat_lt 0 rests) (record S { orders = S.orders ++ resting_of t rests ∷ [] }) S (λ (T : State). T.counts ≡ S.counts) (λ _. refl) (λ _. refl)

pub changed-counts : (S : State) (bank : ℕ) (command : Command) (outcome : Outcome) → (changed S bank command outcome).counts ≡ S.counts
changed-counts S bank (Order side pair price lots life) (Ordered done rests fills) =
    counts-rested (taker_of S bank side pair price lots) rests (filled_all S fills) ∙ counts-filled_all S fills
changed-counts S bank (Line other asked) (LineSet limit fills) = counts-filled_all (limited bank other limit S) fills
changed-counts S bank (Total asked) (TotalSet most fills) = counts-filled_all (totalled bank most S) fills
changed-counts S bank (Settle a b asked) (Settled given fills) = counts-filled_all (settled a b given S) fills
changed-counts S bank (Cancel pair number) (Cancelled left) = refl
changed-counts S bank (Reduce pair number lots) (Reduced left) = refl
changed-counts S bank (Pull pair) (Pulled count) = refl
changed-counts S bank command outcome = refl

pub other_counts-stay : (S : State) (e : Entry) (bank : ℕ) → e.bank ≢ bank → count_of (after_entry S e) bank ≡ count_of S bank
other_counts-stay S e bank differ =
    let T : State = changed S e.bank e.command e.outcome in
    get_or-set_other T.counts e.bank bank (count_of T e.bank + 1) 0 (λ same. differ (sym same))
    ∙ ap (λ (counts : List ℕ). get_or counts bank 0) (changed-counts S e.bank e.command e.outcome)

-- ---- orders of another pair

-- the order of this bank and number, where it rests, is of another pair
abbrev pub Elsewhere : List ActiveOrder → ℕ → ℕ → ℕ → Type 0
Elsewhere orders bank number pair =
    (a : ActiveOrder) → Among a orders → a.order.bank ≡ bank → a.order.number ≡ number → a.pair ≢ pair

pub in_pair-here : (pair : ℕ) (a : ActiveOrder) (orders : List ActiveOrder) → eqb a.pair pair ≡ true → in_pair pair (a ∷ orders) ≡ a ∷ in_pair pair orders
in_pair-here pair a orders is = filter_cons_true (λ (b : ActiveOrder). eqb b.pair pair) a orders is

pub in_pair-there : (pair : ℕ) (a : ActiveOrder) (orders : List ActiveOrder) → eqb a.pair pair ≡ false → in_pair pair (a ∷ orders) ≡ in_pair pair orders
in_pair-there pair a orders is_not = filter_cons_false (λ (b : ActiveOrder). eqb b.pair pair) a orders is_not

-- the head of a list is of this pair or not
in_pair-head : (pair : ℕ) (a : ActiveOrder) (xs ys : List ActiveOrder) → in_pair pair xs ≡ in_pair pair ys → in_pair pair (a ∷ xs) ≡ in_pair pair (a ∷ ys)
in_pair-head pair a xs ys same = elim (cases_Bool (eqb a.pair pair)) [
  | inl here ↦ in_pair-here pair a xs here ∙ ap (λ (os : List ActiveOrder). a ∷ os) same ∙ sym (in_pair-here pair a ys here)
  | inr there ↦ in_pair-there pair a xs there ∙ same ∙ sym (in_pair-there pair a ys there)
]

in_pair-skip : (pair : ℕ) (a : ActiveOrder) (orders : List ActiveOrder) → a.pair ≢ pair → in_pair pair (a ∷ orders) ≡ in_pair pair orders
in_pair-skip pair a orders differ = in_pair-there pair a orders (ne_eqb a.pair pair differ)

lowered_elsewhere : (pair bank number lots : ℕ) (orders : List ActiveOrder) → Elsewhere orders bank number pair → in_pair pair (lowered bank number lots orders) ≡ in_pair pair orders
lowered_elsewhere pair bank number lots [] elsewhere = refl
lowered_elsewhere pair bank number lots (a ∷ orders) elsewhere =
    cond_both (is_order bank number a.order) (cond (ltb lots a.order.left) (with_left a (a.order.left - lots) ∷ orders) orders)
    (a ∷ lowered bank number lots orders) (λ os. in_pair pair os ≡ in_pair pair (a ∷ orders))
    (λ is.
    let says = is_order-says bank number a.order is in
    let differ : a.pair ≢ pair = elsewhere a (inl refl) says.0 says.1 in
    cond_both (ltb lots a.order.left) (with_left a (a.order.left - lots) ∷ orders) orders (λ os. in_pair pair os ≡ in_pair pair (a ∷ orders))
    (λ _. in_pair-skip pair (with_left a (a.order.left - lots)) orders differ ∙ sym (in_pair-skip pair a orders differ))
    (λ _. sym (in_pair-skip pair a orders differ)))
    (λ _. in_pair-head pair a (lowered bank number lots orders) orders
    (lowered_elsewhere pair bank number lots orders (λ b there. elsewhere b (inr there))))

-- orders of one bank and number are one
pub active_same : (orders : List ActiveOrder) (a b : ActiveOrder) → EachPair Rises orders → Among a orders → Among b orders → a.order.bank ≡ b.order.bank → a.order.number ≡ b.order.number → a ≡ b
active_same [] a b rising here there bank number = absurd here
active_same (o ∷ orders) a b rising (inl a_is) (inl b_is) bank number = a_is ∙ sym b_is
active_same (o ∷ orders) a b rising (inl a_is) (inr there) bank number =
    let before : Rises o b = Each-among (Rises o) orders b rising.0 there in
    absurd (before.number (ap (λ (q : ActiveOrder). q.order.bank) (sym a_is) ∙ bank) (ap (λ (q : ActiveOrder). q.order.number) (sym a_is) ∙ number))
active_same (o ∷ orders) a b rising (inr here) (inl b_is) bank number =
    let before : Rises o a = Each-among (Rises o) orders a rising.0 here in
    absurd (before.number (ap (λ (q : ActiveOrder). q.order.bank) (sym b_is) ∙ sym bank) (ap (λ (q : ActiveOrder). q.order.number) (sym b_is) ∙ sym number))
active_same (o ∷ orders) a b rising (inr here) (inr there) bank number = active_same orders a b rising.1 here there bank number

-- where one order of the bank and number is of another pair, so is each
pub elsewhere_of : (orders : List ActiveOrder) (a : ActiveOrder) (pair : ℕ) → EachPair Rises orders → Among a orders → a.pair ≢ pair → Elsewhere orders a.order.bank a.order.number pair
elsewhere_of orders a pair rising there differ b b_there bank number is =
    differ (ap (λ (q : ActiveOrder). q.pair) (active_same orders a b rising there b_there (sym bank) (sym number)) ∙ is)

elsewhere_lowered : (bank number lots : ℕ) (orders : List ActiveOrder) (b n pair : ℕ) → Elsewhere orders b n pair → Elsewhere (lowered bank number lots orders) b n pair
elsewhere_lowered bank number lots orders b n pair elsewhere a there owner command =
    let was = lowered_from bank number lots orders a there in
    λ is. elsewhere was.0 was.1 (sym (ap (λ (q : ActiveOrder). q.order.bank) was.2) ∙ owner) (sym (ap (λ (q : ActiveOrder). q.order.number) was.2) ∙ command)
    (sym (ap (λ (q : ActiveOrder). q.pair) was.2) ∙ is)

-- a fill of orders of another pair leaves this one's
pub filled_elsewhere : (S : State) (f : Fill) (pair : ℕ) → Elsewhere S.orders f.maker f.maker_number pair → Elsewhere S.orders f.taker f.taker_number pair → in_pair pair (filled S f).orders ≡ in_pair pair S.orders
filled_elsewhere S f pair maker taker =
    lowered_elsewhere pair f.taker f.taker_number f.lots (lowered f.maker f.maker_number f.lots S.orders)
    (elsewhere_lowered f.maker f.maker_number f.lots S.orders f.taker f.taker_number pair taker)
    ∙ lowered_elsewhere pair f.maker f.maker_number f.lots S.orders maker

elsewhere_filled : (S : State) (f : Fill) (b n pair : ℕ) → Elsewhere S.orders b n pair → Elsewhere (filled S f).orders b n pair
elsewhere_filled S f b n pair elsewhere =
    elsewhere_lowered f.taker f.taker_number f.lots (lowered f.maker f.maker_number f.lots S.orders) b n pair
    (elsewhere_lowered f.maker f.maker_number f.lots S.orders b n pair elsewhere)

-- the sweep of an order of another pair leaves this one's orders
pub swept_elsewhere : (h : Header) (S : State) (t : Taker) (fills : List Fill) (left pair : ℕ) → IsSound h S → t.bank < bank_count h → 0 < weight_of h t.pair → t.pair ≢ pair → Elsewhere S.orders t.bank t.number pair → Swept h S t fills left → in_pair pair (filled_all S fills).orders ≡ in_pair pair S.orders
swept_elsewhere h S t [] left pair sound sender some differ elsewhere swept = refl
swept_elsewhere h S t (f ∷ fills) left pair sound sender some differ elsewhere swept =
    let best : Resting = swept.0 in
    let m : IsMaker h S t best = maker_of h S t best sound swept.2.there in
    let allowed : IsAllowed h S f = subst (IsAllowed h S) (sym swept.3) (allowed-open h S t best sound sender some swept.1 swept.2.there) in
    let owner : m.active.order.bank ≡ f.maker = sym (ap (λ (o : Resting). o.bank) m.order) ∙ sym (ap (λ (g : Fill). g.maker) swept.3) in
    let command : m.active.order.number ≡ f.maker_number = sym (ap (λ (o : Resting). o.number) m.order) ∙ sym (ap (λ (g : Fill). g.maker_number) swept.3) in
    let maker : Elsewhere S.orders f.maker f.maker_number pair =
    subst (λ n. Elsewhere S.orders f.maker n pair) command (subst (λ b. Elsewhere S.orders b m.active.order.number pair) owner
    (elsewhere_of S.orders m.active pair sound.rising m.among (λ is. differ (sym m.pair ∙ is)))) in
    let taker : Elsewhere S.orders f.taker f.taker_number pair =
    subst (λ n. Elsewhere S.orders f.taker n pair) (sym (ap (λ (g : Fill). g.taker_number) swept.3))
    (subst (λ b. Elsewhere S.orders b t.number pair) (sym (ap (λ (g : Fill). g.taker) swept.3)) elsewhere) in
    swept_elsewhere h (filled S f) (less t f.lots) fills left pair (filled-sound h S f sound allowed) sender some differ
    (elsewhere_filled S f t.bank t.number pair elsewhere) swept.4
    ∙ filled_elsewhere S f pair maker taker

-- the order whose turn comes in another pair is the bank's only one of its number
turn_elsewhere : (h : Header) (S : State) (its_pair bank number : ℕ) (now : Resting) (pair : ℕ) → IsSound h S → its_pair ≢ pair → IsTurn h S its_pair bank number now → Elsewhere S.orders now.bank now.number pair
turn_elsewhere h S its_pair bank number now pair sound differ turn =
    subst (λ (o : Resting). Elsewhere S.orders o.bank o.number pair) (sym turn.order)
    (elsewhere_of S.orders turn.active pair sound.rising turn.rests (λ is. differ (sym turn.of_pair ∙ is)))

-- The turns of a pair leave the orders of every other.
pub turned-elsewhere : (h : Header) (its_pair : ℕ) (S : State) (orders : List Resting) (fills : List Fill) (pair : ℕ) → its_pair ≢ pair → 0 < weight_of h its_pair → IsSound h S → Turned h its_pair S orders fills → in_pair pair (filled_all S fills).orders ≡ in_pair pair S.orders
turned-elsewhere h its_pair S orders fills pair differ =
    turns-walk h its_pair (λ T own. in_pair pair (filled_all T own).orders ≡ in_pair pair T.orders) (λ _ _. refl)
    (λ T own more first next. ap (λ (U : State). in_pair pair U.orders) (filled_all-append T own more) ∙ next ∙ first)
    (λ T bank number now own left sound turn some swept.
    swept_elsewhere h T (taker_of_resting its_pair now) own left pair sound (turn-sender h T its_pair bank number now turn) some differ
    (turn_elsewhere h T its_pair bank number now pair sound differ turn) swept)
    S orders fills

pub turned-stays : (h : Header) (its_pair : ℕ) (S : State) (orders : List Resting) (fills : List Fill) (pair : ℕ) → its_pair ≢ pair → 0 < weight_of h its_pair → IsSound h S → Turned h its_pair S orders fills → orders_in pair (filled_all S fills).orders ≡ orders_in pair S.orders
turned-stays h its_pair S orders fills pair differ some sound turned =
    ap (map (λ (a : ActiveOrder). a.order)) (turned-elsewhere h its_pair S orders fills pair differ some sound turned)

-- the next order of a bank does not rest yet
next_elsewhere : (h : Header) (S : State) (bank pair : ℕ) → IsSound h S → Elsewhere S.orders bank (count_of S bank + 1) pair
next_elsewhere h S bank pair sound a there owner command _ =
    let kept = Each-among (IsKept h S.counts) S.orders a sound.kept there in
    let most : a.order.number ≤ count_of S bank = subst (λ b. a.order.number ≤ count_of S b) owner kept.number_most in
    omega (arith, command)

pushed_elsewhere : (orders : List ActiveOrder) (o : ActiveOrder) (pair : ℕ) → o.pair ≢ pair → in_pair pair (orders ++ o ∷ []) ≡ in_pair pair orders
pushed_elsewhere [] o pair differ = in_pair-skip pair o [] differ
pushed_elsewhere (a ∷ orders) o pair differ = in_pair-head pair a (orders ++ o ∷ []) orders (pushed_elsewhere orders o pair differ)

rested_elsewhere : (t : Taker) (rests : ℕ) (S : State) (pair : ℕ) → t.pair ≢ pair → in_pair pair (rested t rests S).orders ≡ in_pair pair S.orders
unfolding resting_of
rested_elsewhere t rests S pair differ =
    cond_both (nat_lt 0 rests) (record S { orders = S.orders ++ resting_of t rests ∷ [] }) S (λ (T : State). in_pair pair T.orders ≡ in_pair pair S.orders)
    (λ _. pushed_elsewhere S.orders (resting_of t rests) pair differ)
    (λ _. refl)

-- an order is swept and rests in another pair
ordered_elsewhere : (h : Header) (S : State) (bank : ℕ) (side : Side) (its_pair price lots left rests : ℕ) (fills : List Fill) (pair : ℕ) → IsSession h → IsSound h S → bank < bank_count h → its_pair < pair_count h → its_pair ≢ pair → Swept h S (taker_of S bank side its_pair price lots) fills left → in_pair pair (rested (taker_of S bank side its_pair price lots) rests (filled_all S fills)).orders ≡ in_pair pair S.orders
ordered_elsewhere h S bank side its_pair price lots left rests fills pair session sound sender its_in differ swept =
    let t : Taker = taker_of S bank side its_pair price lots in
    rested_elsewhere t rests (filled_all S fills) pair differ
    ∙ swept_elsewhere h S t fills left pair sound sender (weight_of-least h its_pair session its_in) differ (next_elsewhere h S bank pair sound) swept

order-stays : (h : Header) (S : State) (bank : ℕ) (side : Side) (its_pair price lots : ℕ) (life : Life) (outcome : Outcome) (pair : ℕ) → IsSession h → IsSound h S → bank < bank_count h → its_pair < pair_count h → its_pair ≢ pair → IsOrdered h S (taker_of S bank side its_pair price lots) life outcome → in_pair pair (changed S bank (Order side its_pair price lots life) outcome).orders ≡ in_pair pair S.orders
order-stays h S bank side its_pair price lots Day (Ordered done rests fills) pair session sound sender its_in differ is =
    ordered_elsewhere h S bank side its_pair price lots rests rests fills pair session sound sender its_in differ is.0
order-stays h S bank side its_pair price lots Ioc (Ordered done rests fills) pair session sound sender its_in differ is =
    ordered_elsewhere h S bank side its_pair price lots (lots - done) rests fills pair session sound sender its_in differ is.0
order-stays h S bank side its_pair price lots Fok (Ordered done rests fills) pair session sound sender its_in differ is =
    ordered_elsewhere h S bank side its_pair price lots 0 rests fills pair session sound sender its_in differ is.0
order-stays h S bank side its_pair price lots Fok Killed pair session sound sender its_in differ is = refl
order-stays h S bank side its_pair price lots life outcome pair session sound sender its_in differ is = absurd is

pub and_where : (a b : Bool) → (a ≡ true → b ≡ true) → (a && b) ≡ a
and_where true b follows = follows refl
and_where false b follows = refl

-- orders of other pairs are taken out
fewer_elsewhere : (stays : ActiveOrder → Bool) (pair : ℕ) (orders : List ActiveOrder) → ((a : ActiveOrder) → Among a orders → a.pair ≡ pair → stays a ≡ true) → in_pair pair (filter stays orders) ≡ in_pair pair orders
fewer_elsewhere stays pair orders keeps =
    filter_filter (λ (a : ActiveOrder). eqb a.pair pair) stays orders
    ∙ filter_agree_on (λ (a : ActiveOrder). eqb a.pair pair && stays a) (λ (a : ActiveOrder). eqb a.pair pair) orders
    (λ a there. and_where (eqb a.pair pair) (stays a) (λ is. keeps a there (eqb-true a.pair pair is)))

cancel_found : (left : ℕ) (o : Option Resting) → Cancelled left ≡ cancel_answer o → (now : Resting) × (o ≡ Some now)
cancel_found left None is = cc
cancel_found left (Some now) is = (now, refl)

reduce_found : (lots left : ℕ) (o : Option Resting) → Reduced left ≡ reduce_answer lots o → (now : Resting) × (o ≡ Some now)
reduce_found lots left None is = cc
reduce_found lots left (Some now) is = (now, refl)

-- an order that is found in another pair is the bank's only one of that number
found_elsewhere : (h : Header) (S : State) (its_pair bank number : ℕ) (now : Resting) (pair : ℕ) → IsSound h S → its_pair ≢ pair → order_of S its_pair bank number ≡ Some now → Elsewhere S.orders bank number pair
found_elsewhere h S its_pair bank number now pair sound differ found =
    let turn : IsTurn h S its_pair bank number now = turn_of h S its_pair bank number now sound found in
    subst (λ n. Elsewhere S.orders bank n pair) turn.command (subst (λ b. Elsewhere S.orders b now.number pair) turn.owner
    (turn_elsewhere h S its_pair bank number now pair sound differ turn))

cancel-stays : (h : Header) (S : State) (bank its_pair number : ℕ) (outcome : Outcome) (pair : ℕ) → IsSound h S → its_pair ≢ pair → IsOutcome h S bank (Cancel its_pair number) outcome → in_pair pair (changed S bank (Cancel its_pair number) outcome).orders ≡ in_pair pair S.orders
cancel-stays h S bank its_pair number (Cancelled left) pair sound differ is =
    let found = cancel_found left (order_of S its_pair bank number) is in
    let elsewhere = found_elsewhere h S its_pair bank number found.0 pair sound differ found.1 in
    fewer_elsewhere (λ a. not (is_order bank number a.order)) pair S.orders
    (λ a there here. not_from_false (is_order bank number a.order) (false_from_ne_true (is_order bank number a.order) (λ this.
    let says = is_order-says bank number a.order this in elsewhere a there says.0 says.1 here)))
cancel-stays h S bank its_pair number outcome pair sound differ is = refl

reduced_elsewhere : (pair bank number left : ℕ) (orders : List ActiveOrder) → Elsewhere orders bank number pair → in_pair pair (reduced bank number left orders) ≡ in_pair pair orders
reduced_elsewhere pair bank number left [] elsewhere = refl
reduced_elsewhere pair bank number left (a ∷ orders) elsewhere =
    let rest = reduced_elsewhere pair bank number left orders (λ b there. elsewhere b (inr there)) in
    cond_both (is_order bank number a.order) (with_left a left) a (λ (b : ActiveOrder). in_pair pair (b ∷ reduced bank number left orders) ≡ in_pair pair (a ∷ orders))
    (λ is.
    let says = is_order-says bank number a.order is in
    let differ : a.pair ≢ pair = elsewhere a (inl refl) says.0 says.1 in
    in_pair-skip pair (with_left a left) (reduced bank number left orders) differ ∙ rest ∙ sym (in_pair-skip pair a orders differ))
    (λ _. in_pair-head pair a (reduced bank number left orders) orders rest)

reduce-stays : (h : Header) (S : State) (bank its_pair number lots : ℕ) (outcome : Outcome) (pair : ℕ) → IsSound h S → its_pair ≢ pair → IsOutcome h S bank (Reduce its_pair number lots) outcome → in_pair pair (changed S bank (Reduce its_pair number lots) outcome).orders ≡ in_pair pair S.orders
reduce-stays h S bank its_pair number lots (Reduced left) pair sound differ is =
    let found = reduce_found lots left (order_of S its_pair bank number) is in
    reduced_elsewhere pair bank number left S.orders (found_elsewhere h S its_pair bank number found.0 pair sound differ found.1)
reduce-stays h S bank its_pair number lots outcome pair sound differ is = refl

pull-stays : (S : State) (bank its_pair : ℕ) (outcome : Outcome) (pair : ℕ) → its_pair ≢ pair → in_pair pair (changed S bank (Pull its_pair) outcome).orders ≡ in_pair pair S.orders
pull-stays S bank its_pair (Pulled count) pair differ =
    fewer_elsewhere (λ a. not (eqb a.pair its_pair && eqb a.order.bank bank)) pair S.orders
    (λ a there here. not_from_false (eqb a.pair its_pair && eqb a.order.bank bank)
    (and_left (eqb a.pair its_pair) (eqb a.order.bank bank) (ne_eqb a.pair its_pair (λ is. differ (sym is ∙ here)))))
pull-stays S bank its_pair outcome pair differ = refl

-- a step leaves the orders of each pair in which it may change nothing
other_stays : (h : Header) (S : State) (bank : ℕ) (command : Command) (outcome : Outcome) (pair : ℕ) → IsSession h → IsSound h S → IsCommand h bank command → IsOutcome h S bank command outcome → may_change pair command ≡ false → in_pair pair (changed S bank command outcome).orders ≡ in_pair pair S.orders
other_stays h S bank (Order side its_pair price lots life) outcome pair session sound valid is other =
    order-stays h S bank side its_pair price lots life outcome pair session sound valid.sends valid.values.0 (eqb-false its_pair pair other) is
other_stays h S bank (Cancel its_pair number) outcome pair session sound valid is other =
    cancel-stays h S bank its_pair number outcome pair sound (eqb-false its_pair pair other) is
other_stays h S bank (Reduce its_pair number lots) outcome pair session sound valid is other =
    reduce-stays h S bank its_pair number lots outcome pair sound (eqb-false its_pair pair other) is
other_stays h S bank (Pull its_pair) outcome pair session sound valid is other =
    pull-stays S bank its_pair outcome pair (eqb-false its_pair pair other)
other_stays h S bank (Line to asked) outcome pair session sound valid is other = cc
other_stays h S bank (Total asked) outcome pair session sound valid is other = cc
other_stays h S bank (Settle a b asked) outcome pair session sound valid is other = cc
other_stays h S bank (Show to) outcome pair session sound valid is other = refl
other_stays h S bank (Book its_pair) outcome pair session sound valid is other = refl
other_stays h S bank (Bad reason) outcome pair session sound valid is other = refl

pub other_pairs-stay : (h : Header) (S : State) (e : Entry) (pair : ℕ) → IsSession h → IsSound h S → IsStep h S e → may_change pair e.command ≡ false → orders_in pair (after_entry S e).orders ≡ orders_in pair S.orders
other_pairs-stay h S e pair session sound step other =
    ap (map (λ (a : ActiveOrder). a.order)) (other_stays h S e.bank e.command e.outcome pair session sound step.command step.outcome other)
