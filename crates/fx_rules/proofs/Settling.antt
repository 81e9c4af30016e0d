-- After the turns of a credit change no order of a pair crosses an earlier one that it can reach, whatever stood before.
use Rattle.std.proofs.Common.{ℕ, zero, suc, ◌≡◌, ◌≢◌, ◌+◌, ◌-◌, ◌≤◌, ◌<◌, Bool, true, false, eqb, ltb, cond, List, [], ◌∷◌, ◌++◌, map, inl, inr, refl, ap, sym, subst, ◌∙◌, arith, Option, Some, None, find}
use Rattle.std.proofs.lemmas.Bool.{cond_both, and_parts, and_from, eqb-true, eq-eqb, both_ways, leb-false, cases_order, cases_eq}
use Rattle.fx_amounts.specs.declared.side.Side.TheVariants.{Buy, Sell}
use Rattle.fx_amounts.specs.Price.{crosses}
use Rattle.fx_rules.specs.declared.orders.ActiveOrder.{ActiveOrder}
use Rattle.fx_rules.specs.declared.orders.Resting.{Resting}
use Rattle.fx_rules.specs.declared.orders.Fill.{Fill}
use Rattle.fx_rules.specs.Lists.{Among, EachPair}
use Rattle.fx_rules.specs.Session.{Header, IsSession, bank_count, pair_count, weight_of}
use Rattle.fx_rules.specs.State.{State, reach, orders_in}
use Rattle.fx_rules.specs.Sweep.{Taker, Swept, filled, filled_all, lowered, is_order, is_opposite, open_orders, less, with_left}
use Rattle.fx_rules.specs.Raise.{order_of, taker_of_resting, Turned, PairsTurned, Raised}
use Rattle.fx_rules.specs.Sound.{IsSound, IsKept, Rises, ArrivesBefore}
use Rattle.fx_rules.specs.NoCross.{NoCross}
use Rattle.fx_rules.proofs.ListLemmas.{Each-among, EachPair-map}
use Rattle.fx_rules.proofs.Lowering.{rising-lowered}
use Rattle.fx_rules.proofs.Credit.{IsAllowed}
use Rattle.fx_rules.proofs.Opens.{orders_in-among, allowed-open}
use Rattle.fx_rules.proofs.Preference.{command_same, rising_same}
use Rattle.fx_rules.proofs.Planning.{orders_in-rising}
use Rattle.fx_rules.proofs.SweepSound.{filled-sound, swept-sound, filled_all-append, weight_of-least}
use Rattle.fx_rules.proofs.RaiseSound.{match_cases, IsTurn, turn_of, turn-sender, turned-sound}
use Rattle.fx_rules.proofs.Following.{Follows, filled_all-follows, among_map, among_orders_in, swept_end, reach_swap, reach_falls, crosses_none}

-- what a lowered book holds of another bank stood there so
lowered_other : (bank number lots : ℕ) (orders : List ActiveOrder) (a : ActiveOrder) → Among a (lowered bank number lots orders) → a.order.bank ≢ bank → Among a orders
lowered_other bank number lots [] a there other = absurd there
lowered_other bank number lots (b ∷ orders) a there other =
    cond_both (is_order bank number b.order) (cond (ltb lots b.order.left) (with_left b (b.order.left - lots) ∷ orders) orders)
    (b ∷ lowered bank number lots orders) (λ os. Among a os → Among a (b ∷ orders))
    (λ is. cond_both (ltb lots b.order.left) (with_left b (b.order.left - lots) ∷ orders) orders (λ os. Among a os → Among a (b ∷ orders))
    (λ _ among. elim among [
      | inl same ↦ absurd (other (ap (λ (q : ActiveOrder). q.order.bank) same
          ∙ eqb-true b.order.bank bank (and_parts (eqb b.order.bank bank) (eqb b.order.number number) is).0))
      | inr later ↦ inr later
    ])
    (λ _ among. inr among))
    (λ _ among. elim among [
      | inl same ↦ inl same
      | inr later ↦ inr (lowered_other bank number lots orders a later other)
    ])
    there

-- the order of this bank and number, where it is left, has just so many lots less
lowered_key : (bank number lots : ℕ) (orders : List ActiveOrder) (a : ActiveOrder) → EachPair Rises orders → Among a (lowered bank number lots orders) → a.order.bank ≡ bank → a.order.number ≡ number → (b : ActiveOrder) × Among b orders × (b.order.bank ≡ bank) × (b.order.number ≡ number) × (a.order.left ≡ b.order.left - lots)
lowered_key bank number lots [] a rising there owner command = absurd there
lowered_key bank number lots (b ∷ orders) a rising there owner command =
    let Found : Type 0 = (c : ActiveOrder) × Among c (b ∷ orders) × (c.order.bank ≡ bank) × (c.order.number ≡ number) × (a.order.left ≡ c.order.left - lots) in
    cond_both (is_order bank number b.order) (cond (ltb lots b.order.left) (with_left b (b.order.left - lots) ∷ orders) orders)
    (b ∷ lowered bank number lots orders) (λ os. Among a os → Found)
    (λ is.
    let b_owner : b.order.bank ≡ bank = eqb-true b.order.bank bank (and_parts (eqb b.order.bank bank) (eqb b.order.number number) is).0 in
    let b_command : b.order.number ≡ number = eqb-true b.order.number number (and_parts (eqb b.order.bank bank) (eqb b.order.number number) is).1 in
    let twice : Among a orders → ⊥
    = λ later. (Each-among (Rises b) orders a rising.0 later).number (b_owner ∙ sym owner) (b_command ∙ sym command) in
    cond_both (ltb lots b.order.left) (with_left b (b.order.left - lots) ∷ orders) orders (λ os. Among a os → Found)
    (λ _ among. elim among [
      | inl same ↦ (b, inl refl, b_owner, b_command, ap (λ (q : ActiveOrder). q.order.left) same)
      | inr later ↦ absurd (twice later)
    ])
    (λ _ among. absurd (twice among)))
    (λ isnt among. elim among [
      | inl same ↦ absurd (both_ways (is_order bank number b.order) isnt
          (and_from (eqb b.order.bank bank) (eqb b.order.number number)
          (eq-eqb b.order.bank bank (ap (λ (q : ActiveOrder). q.order.bank) (sym same) ∙ owner))
          (eq-eqb b.order.number number (ap (λ (q : ActiveOrder). q.order.number) (sym same) ∙ command))))
      | inr later ↦
          let found = lowered_key bank number lots orders a rising.1 later owner command in
          (found.0, inr found.1, found.2, found.3, found.4)
    ])
    there

-- where the taker's own order rests, it has as much left as the taker
Standing : State → ℕ → ℕ → ℕ → Type 0
Standing S bank number left =
    (a : ActiveOrder) → Among a S.orders → a.order.bank ≡ bank → a.order.number ≡ number → a.order.left ≡ left

standing_filled : (S : State) (f : Fill) (left : ℕ) → EachPair Rises S.orders → f.taker ≢ f.maker → Standing S f.taker f.taker_number left → Standing (filled S f) f.taker f.taker_number (left - f.lots)
unfolding Standing
standing_filled S f left rising differ stands a there owner command =
    let once = lowered_key f.taker f.taker_number f.lots (lowered f.maker f.maker_number f.lots S.orders) a
    (rising-lowered f.maker f.maker_number f.lots S.orders rising) there owner command in
    let was : Among once.0 S.orders = lowered_other f.maker f.maker_number f.lots S.orders once.0 once.1 (λ same. differ (sym once.2 ∙ same)) in
    once.4 ∙ ap (λ n. n - f.lots) (stands once.0 was once.2 once.3)

-- after its sweep the taker's own order has what the sweep leaves
swept_standing : (h : Header) (S : State) (t : Taker) (fills : List Fill) (left : ℕ) → IsSound h S → t.bank < bank_count h → 0 < weight_of h t.pair → Standing S t.bank t.number t.left → Swept h S t fills left → Standing (filled_all S fills) t.bank t.number left
unfolding Standing
swept_standing h S t [] left sound sender some stands swept = λ a there owner command. stands a there owner command ∙ sym swept.0
swept_standing h S t (f ∷ fills) left sound sender some stands swept =
    let best : Resting = swept.0 in
    let allowed : IsAllowed h S f = subst (IsAllowed h S) (sym swept.3) (allowed-open h S t best sound sender some swept.1 swept.2.there) in
    let owner : t.bank ≡ f.taker = sym (ap (λ (g : Fill). g.taker) swept.3) in
    let command : t.number ≡ f.taker_number = sym (ap (λ (g : Fill). g.taker_number) swept.3) in
    let here : Standing S f.taker f.taker_number t.left = subst (λ n. Standing S f.taker n t.left) command (subst (λ b. Standing S b t.number t.left) owner stands) in
    let next : Standing (filled S f) t.bank t.number (t.left - f.lots) =
    subst (λ n. Standing (filled S f) t.bank n (t.left - f.lots)) (sym command)
    (subst (λ b. Standing (filled S f) b f.taker_number (t.left - f.lots)) (sym owner)
    (standing_filled S f t.left sound.rising allowed.differ here)) in
    swept_standing h (filled S f) (less t f.lots) fills left (filled-sound h S f sound allowed) sender some next swept.4

-- An order of a pair is quiet: it crosses no earlier order of the other side that it can reach.
abbrev pub Quiet : Header → State → ℕ → Resting → Type 0
Quiet h S pair o =
    (q : Resting) → Among q (orders_in pair S.orders) → is_opposite o.side q.side ≡ true → q.bank ≢ o.bank → q.arrival < o.arrival →
    1 ≤ reach h S o.bank q.bank pair → crosses o.side o.price q.price ≡ false

-- an order that rests in a pair later was there before
pub was_there : (h : Header) (S S' : State) (pair : ℕ) (o : Resting) → Follows h S S' → Among o (orders_in pair S'.orders) → (was : Resting) × Among was (orders_in pair S.orders) × (o ≡ record was { left = o.left })
was_there h S S' pair o follows there =
    let now = orders_in-among pair S'.orders o there in
    let was = follows.orders now.0 now.1 in
    let of_pair : was.0.pair ≡ pair = sym (ap (λ (q : ActiveOrder). q.pair) was.2) ∙ now.2 in
    let same : now.0.order ≡ record was.0.order { left = now.0.order.left } = ap (λ (q : ActiveOrder). q.order) was.2 in (
      was.0.order,
      among_orders_in pair S.orders was.0 was.1 of_pair,
      now.3 ∙ same ∙ sym (ap (λ (l : ℕ). record was.0.order { left = l }) (ap (λ (q : Resting). q.left) now.3)),
    )

-- a quiet order stays quiet
quiet_follows : (h : Header) (S S' : State) (pair : ℕ) (o : Resting) → 0 < weight_of h pair → Follows h S S' → Quiet h S pair o → Quiet h S' pair o
quiet_follows h S S' pair o some follows quiet q there opposite other earlier reached =
    let found = was_there h S S' pair q follows there in
    let was : Resting = found.0 in
    let bank : q.bank ≡ was.bank = ap (λ (r : Resting). r.bank) found.2 in
    let side : q.side ≡ was.side = ap (λ (r : Resting). r.side) found.2 in
    let arrival : q.arrival ≡ was.arrival = ap (λ (r : Resting). r.arrival) found.2 in
    let reached_was : 1 ≤ reach h S' o.bank was.bank pair = subst (λ b. 1 ≤ reach h S' o.bank b pair) bank reached in
    let falls = reach_falls h S S' o.bank was.bank pair some (follows.lines o.bank was.bank) in
    subst (λ p. crosses o.side o.price p ≡ false) (sym (ap (λ (r : Resting). r.price) found.2))
    (quiet was found.1 (subst (λ s. is_opposite o.side s ≡ true) side opposite) (λ same. other (bank ∙ same)) (omega arith) (omega (arith, reached_was, falls)))

-- the orders of a bank and number in a pair are quiet
Settled : Header → State → ℕ → ℕ → ℕ → Type 0
Settled h S pair bank number =
    (o : Resting) → Among o (orders_in pair S.orders) → o.bank ≡ bank → o.number ≡ number → Quiet h S pair o

settled_follows : (h : Header) (S S' : State) (pair bank number : ℕ) → 0 < weight_of h pair → Follows h S S' → Settled h S pair bank number → Settled h S' pair bank number
unfolding Settled
settled_follows h S S' pair bank number some follows settled o there owner command =
    let found = was_there h S S' pair o follows there in
    let was : Resting = found.0 in
    subst (Quiet h S' pair) (sym found.2)
    (quiet_follows h S S' pair was some follows
    (settled was found.1 (sym (ap (λ (r : Resting). r.bank) found.2) ∙ owner) (sym (ap (λ (r : Resting). r.number) found.2) ∙ command)))

-- where nothing is open to an order, it is quiet
quiet_closed : (h : Header) (S : State) (pair : ℕ) (now : Resting) → open_orders h S (taker_of_resting pair now) ≡ [] → Quiet h S pair now
quiet_closed h S pair now closed q there opposite other earlier reached =
    let stands = orders_in-among pair S.orders q there in
    let a : ActiveOrder = stands.0 in
    let is : q ≡ a.order = stands.3 in
    subst (λ (r : Resting). crosses now.side now.price r.price ≡ false) (sym is)
    (crosses_none h S (taker_of_resting pair now) a closed stands.1 stands.2
    (subst (λ (r : Resting). r.arrival < now.arrival) is earlier)
    (subst (λ (r : Resting). is_opposite now.side r.side ≡ true) is opposite)
    (subst (λ (r : Resting). r.bank ≢ now.bank) is other)
    (subst (λ (r : Resting). 1 ≤ reach h S now.bank r.bank pair) is reached))

-- all orders that rest, one after another
orders-rising : (orders : List ActiveOrder) → EachPair Rises orders → EachPair ArrivesBefore (map (λ (a : ActiveOrder). a.order) orders)
orders-rising orders rising = EachPair-map ArrivesBefore (λ (a : ActiveOrder). a.order) orders rising

-- as an order's turn comes, it stands for itself
turn_stands : (h : Header) (S : State) (pair bank number : ℕ) (now : Resting) → IsSound h S → IsTurn h S pair bank number now → Standing S now.bank now.number now.left
unfolding Standing
turn_stands h S pair bank number now sound turn a there owner command =
    let rests : Among now (map (λ (b : ActiveOrder). b.order) S.orders)
    = subst (λ (o : Resting). Among o (map (λ (b : ActiveOrder). b.order) S.orders)) (sym turn.order) (among_map (λ (b : ActiveOrder). b.order) S.orders turn.active turn.rests) in
    ap (λ (o : Resting). o.left)
    (command_same (map (λ (b : ActiveOrder). b.order) S.orders) a.order now (orders-rising S.orders sound.rising)
    (among_map (λ (b : ActiveOrder). b.order) S.orders a there) rests owner command)

-- an order that rests has something left
left_some : (h : Header) (S : State) (pair : ℕ) (o : Resting) → IsSound h S → Among o (orders_in pair S.orders) → 1 ≤ o.left
left_some h S pair o sound there =
    let stands = orders_in-among pair S.orders o there in
    let kept = Each-among (IsKept h S.counts) S.orders stands.0 sound.kept stands.1 in
    omega (arith, kept.left.0, ap (λ (r : Resting). r.left) stands.3)

-- an order's own turn settles it
turn_settles : (h : Header) (S : State) (pair bank number : ℕ) (now : Resting) (own : List Fill) (left : ℕ) → 0 < weight_of h pair → IsSound h S → IsTurn h S pair bank number now → Swept h S (taker_of_resting pair now) own left → Settled h (filled_all S own) pair bank number
unfolding Settled Standing
turn_settles h S pair bank number now own left some sound turn swept o there owner command =
    let t : Taker = taker_of_resting pair now in
    let S' : State = filled_all S own in
    let sender = turn-sender h S pair bank number now turn in
    let later : IsSound h S' = (swept-sound h S t own left sound sender some swept).0 in
    let stands = orders_in-among pair S'.orders o there in
    let left_is : o.left ≡ left = ap (λ (r : Resting). r.left) stands.3
    ∙ swept_standing h S t own left sound sender some (turn_stands h S pair bank number now sound turn) swept stands.0 stands.1
    (sym (ap (λ (r : Resting). r.bank) stands.3) ∙ owner ∙ sym turn.owner) (sym (ap (λ (r : Resting). r.number) stands.3) ∙ command ∙ sym turn.command) in
    let found = was_there h S S' pair o (filled_all-follows h S own) there in
    let same : found.0 ≡ now = command_same (orders_in pair S.orders) found.0 now (orders_in-rising pair S.orders sound.rising) found.1 turn.among
    (sym (ap (λ (r : Resting). r.bank) found.2) ∙ owner ∙ sym turn.owner) (sym (ap (λ (r : Resting). r.number) found.2) ∙ command ∙ sym turn.command) in
    elim (swept_end h S t own left swept) [
      | inl none_left ↦ absurd (omega (arith, left_some h S' pair o later there, left_is, none_left))
      | inr none_open ↦ subst (Quiet h S' pair) (sym found.2)
          (subst (Quiet h S' pair) (sym same) (quiet_closed h S' pair now none_open))
    ]

-- what passes is found
not_gone : {X : Type 0} (test : X → Bool) (xs : List X) (x : X) → Among x xs → test x ≡ true → find test xs ≡ None → ⊥
not_gone test [] x there passes none = absurd there
not_gone {X = X} test (y ∷ xs) x there passes none =
    cond_both (test y) (Some y) (find test xs) (λ (o : Option X). o ≡ None → ⊥)
    (λ _ is. cc)
    (λ fails is. elim there [
      | inl same ↦ both_ways (test y) fails (ap test (sym same) ∙ passes)
      | inr later ↦ not_gone test xs x later passes is
    ])
    none

-- of an order that is not found nothing rests
gone_settled : (h : Header) (S : State) (pair bank number : ℕ) → order_of S pair bank number ≡ None → Settled h S pair bank number
unfolding Settled
gone_settled h S pair bank number gone o there owner command =
    absurd (not_gone (λ (q : Resting). is_order bank number q) (orders_in pair S.orders) o there
    (and_from (eqb o.bank bank) (eqb o.number number) (eq-eqb o.bank bank owner) (eq-eqb o.number number command)) gone)

-- After some orders' turns each of them is quiet.
turned-settled : (h : Header) (pair : ℕ) (S : State) (orders : List Resting) (fills : List Fill) → 0 < weight_of h pair → IsSound h S → Turned h pair S orders fills → (o : Resting) → Among o orders → Settled h (filled_all S fills) pair o.bank o.number
turned-settled h pair S [] fills some sound turned o there = absurd there
turned-settled h pair S (order ∷ orders) fills some sound turned o there =
    elim (match_cases (order_of S pair order.bank order.number) (Turned h pair S orders fills)
    (λ now. (own more : List Fill) × (left : ℕ) × Swept h S (taker_of_resting pair now) own left × (fills ≡ own ++ more) × Turned h pair (filled_all S own) orders more)
    turned) [
      | inl gone ↦
          elim there [
            | inl is ↦ subst (λ (q : Resting). Settled h (filled_all S fills) pair q.bank q.number) (sym is)
                (settled_follows h S (filled_all S fills) pair order.bank order.number some (filled_all-follows h S fills)
                (gone_settled h S pair order.bank order.number gone.0))
            | inr later ↦ turned-settled h pair S orders fills some sound gone.1 o later
          ]
      | inr here ↦
          let now : Resting = here.0 in
          let own : List Fill = here.2.0 in
          let more : List Fill = here.2.1 in
          let turn = turn_of h S pair order.bank order.number now sound here.1 in
          let next : IsSound h (filled_all S own) = (swept-sound h S (taker_of_resting pair now) own here.2.2 sound
          (turn-sender h S pair order.bank order.number now turn) some here.2.3).0 in
          subst (λ (T : State). Settled h T pair o.bank o.number) (sym (ap (filled_all S) here.2.4 ∙ filled_all-append S own more))
          (elim there [
            | inl is ↦ subst (λ (q : Resting). Settled h (filled_all (filled_all S own) more) pair q.bank q.number) (sym is)
                (settled_follows h (filled_all S own) (filled_all (filled_all S own) more) pair order.bank order.number some
                (filled_all-follows h (filled_all S own) more)
                (turn_settles h S pair order.bank order.number now own here.2.2 some sound turn here.2.3))
            | inr later ↦ turned-settled h pair (filled_all S own) orders more some next here.2.5 o later
          ])
    ]

-- each order of a pair is quiet
PairQuiet : Header → State → ℕ → Type 0
PairQuiet h S pair = (o : Resting) → Among o (orders_in pair S.orders) → Quiet h S pair o

pair_quiet_follows : (h : Header) (S S' : State) (pair : ℕ) → 0 < weight_of h pair → Follows h S S' → PairQuiet h S pair → PairQuiet h S' pair
unfolding PairQuiet
pair_quiet_follows h S S' pair some follows quiet o there =
    let found = was_there h S S' pair o follows there in
    subst (Quiet h S' pair) (sym found.2) (quiet_follows h S S' pair found.0 some follows (quiet found.0 found.1))

-- after a pair's turns nothing in it crosses
turned-quiet : (h : Header) (pair : ℕ) (S : State) (fills : List Fill) → 0 < weight_of h pair → IsSound h S → Turned h pair S (orders_in pair S.orders) fills → PairQuiet h (filled_all S fills) pair
unfolding PairQuiet Settled
turned-quiet h pair S fills some sound turned o there =
    let found = was_there h S (filled_all S fills) pair o (filled_all-follows h S fills) there in
    turned-settled h pair S (orders_in pair S.orders) fills some sound turned found.0 found.1 o there
    (ap (λ (r : Resting). r.bank) found.2) (ap (λ (r : Resting). r.number) found.2)

-- after the turns of some pairs nothing in any of them crosses
pairs_turned-quiet : (h : Header) (pairs pair : ℕ) (S : State) (fills : List Fill) → IsSession h → pair + pairs ≤ pair_count h → IsSound h S → PairsTurned h pairs pair S fills → (p : ℕ) → pair ≤ p → p < pair + pairs → PairQuiet h (filled_all S fills) p
pairs_turned-quiet h zero pair S fills session within sound turned p from below = absurd (omega arith)
pairs_turned-quiet h (suc pairs) pair S fills session within sound turned p from below =
    let own : List Fill = turned.0 in
    let more : List Fill = turned.1 in
    let some : 0 < weight_of h pair = weight_of-least h pair session (omega arith) in
    let next : IsSound h (filled_all S own) = turned-sound h pair S (orders_in pair S.orders) own some sound turned.2 in
    subst (λ (T : State). PairQuiet h T p) (sym (ap (filled_all S) turned.3 ∙ filled_all-append S own more))
    (elim (cases_eq p pair) [
      | inl is ↦ subst (PairQuiet h (filled_all (filled_all S own) more)) (sym is)
          (pair_quiet_follows h (filled_all S own) (filled_all (filled_all S own) more) pair some (filled_all-follows h (filled_all S own) more)
          (turned-quiet h pair S own some sound turned.2))
      | inr differ ↦ pairs_turned-quiet h pairs (pair + 1) (filled_all S own) more session (omega arith) next turned.4 p
          (omega (arith, differ)) (omega arith)
    ])

-- of a buy and a sell that rest, the later one is quiet: they do not cross
quiet_apart : (h : Header) (S : State) (pair : ℕ) (buy sell : Resting) → IsSound h S → PairQuiet h S pair → Among buy (orders_in pair S.orders) → Among sell (orders_in pair S.orders) → buy.side ≡ Buy → sell.side ≡ Sell → buy.bank ≢ sell.bank → 1 ≤ reach h S buy.bank sell.bank pair → buy.price < sell.price
unfolding PairQuiet
quiet_apart h S pair b s sound quiet b_rests s_rests buys sells others reached =
    elim (cases_order b.arrival s.arrival) [
      | inl same ↦ absurd (others (ap (λ (r : Resting). r.bank)
          (rising_same (orders_in pair S.orders) b s (orders_in-rising pair S.orders sound.rising) b_rests s_rests same)))
      | inr (inl b_first) ↦
          let opposite : is_opposite s.side b.side ≡ true = subst (λ x. is_opposite x b.side ≡ true) (sym sells) (subst (λ x. is_opposite Sell x ≡ true) (sym buys) refl) in
          let none : crosses s.side s.price b.price ≡ false = quiet s s_rests b b_rests opposite others b_first
          (omega (arith, reached, reach_swap h S b.bank s.bank pair)) in
          leb-false s.price b.price (subst (λ x. crosses x s.price b.price ≡ false) sells none)
      | inr (inr s_first) ↦
          let opposite : is_opposite b.side s.side ≡ true = subst (λ x. is_opposite x s.side ≡ true) (sym buys) (subst (λ x. is_opposite Buy x ≡ true) (sym sells) refl) in
          let none : crosses b.side b.price s.price ≡ false = quiet b b_rests s s_rests opposite (λ same. others (sym same)) s_first reached in
          leb-false s.price b.price (subst (λ x. crosses x b.price s.price ≡ false) buys none)
    ]

-- A credit change leaves nothing that crosses, whatever crossed before.
pub raised-uncrossed : (h : Header) (S : State) (fills : List Fill) → IsSession h → IsSound h S → IsSound h (filled_all S fills) → Raised h S fills → NoCross h (filled_all S fills)
raised-uncrossed h S fills session sound later raised pair b s b_rests s_rests buys sells others reached =
    let stands = orders_in-among pair (filled_all S fills).orders b b_rests in
    let kept = Each-among (IsKept h (filled_all S fills).counts) (filled_all S fills).orders stands.0 later.kept stands.1 in
    let within : pair < 0 + pair_count h = omega (arith, kept.pair, stands.2) in
    quiet_apart h (filled_all S fills) pair b s later
    (pairs_turned-quiet h (pair_count h) 0 S fills session (omega arith) sound raised pair (omega arith) within)
    b_rests s_rests buys sells others reached
