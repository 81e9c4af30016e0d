-- In no state of a legal history do orders rest crossed that can reach each other.
use Rattle.std.proofs.Common.{ℕ, ◌≡◌, ◌≢◌, ◌-◌, ◌≤◌, ◌<◌, Bool, not, ◌&&◌, eqb, ltb, true, false, List, [], ◌∷◌, ◌++◌, ◌⊎◌, inl, inr, refl, ap, sym, subst, ◌∙◌, arith}
use Rattle.std.specs.List.{filter}
use Rattle.std.proofs.lemmas.Bool.{cond_both, ltb-true, leb-false}
use Rattle.fx_amounts.specs.declared.side.Side.{Side}
use Rattle.fx_amounts.specs.declared.side.Side.TheVariants.{Buy, Sell}
use Rattle.fx_amounts.specs.Price.{crosses}
use Rattle.fx_rules.specs.declared.orders.ActiveOrder.{ActiveOrder}
use Rattle.fx_rules.specs.declared.orders.Resting.{Resting}
use Rattle.fx_rules.specs.declared.orders.Fill.{Fill}
use Rattle.fx_rules.specs.declared.command.Command.{Command}
use Rattle.fx_rules.specs.declared.command.Command.TheVariants.{Order, Cancel, Reduce, Pull, Line, Total, Settle, Show, Book, Bad}
use Rattle.fx_rules.specs.declared.command.Life.{Life}
use Rattle.fx_rules.specs.declared.command.Life.TheVariants.{Day, Ioc, Fok}
use Rattle.fx_rules.specs.declared.outcome.Outcome.{Outcome}
use Rattle.fx_rules.specs.declared.outcome.Outcome.TheVariants.{Ordered, Killed, Cancelled, Reduced, Pulled}
use Rattle.fx_rules.specs.declared.outcome.Entry.{Entry}
use Rattle.fx_rules.specs.Lists.{Among}
use Rattle.fx_rules.specs.Session.{Header, IsSession, weight_of}
use Rattle.fx_rules.specs.State.{State, opening, reach, orders_in}
use Rattle.fx_rules.specs.Sweep.{Taker, Swept, filled_all, is_order, is_opposite, open_orders, with_left, taker_of}
use Rattle.fx_rules.specs.Raise.{Raised}
use Rattle.fx_rules.specs.Step.{IsCommand, IsOrdered, IsOutcome, rested, reduced, counted, changed, after}
use Rattle.fx_rules.specs.History.{Steps, IsLegal, after_entry, after_all, state}
use Rattle.fx_rules.specs.Sound.{IsSound, IsKept}
use Rattle.fx_rules.specs.NoCross.{NoCross}
use Rattle.fx_rules.proofs.ListLemmas.{Each-among}
use Rattle.fx_rules.proofs.Opens.{orders_in-among}
use Rattle.fx_rules.proofs.Following.{Follows, filled_all-follows, fewer-follows, reduced-follows, among_orders_in, pair_known, reach_falls, swept_end, reach_swap, crosses_none}
use Rattle.fx_rules.proofs.RaiseSound.{raised-sound}
use Rattle.fx_rules.proofs.Settling.{raised-uncrossed}
use Rattle.fx_rules.proofs.Soundness.{IsNext, resting_of, swept-sound, next_same, counts-filled_all, taker_of-next, weight_of-least, after-line, after-total, after-settle, after-sound, opening-sound}

-- Where nothing rests crossed, nothing does in a state that came of it.
uncrossed-follows : (h : Header) (S S' : State) → IsSession h → IsSound h S → Follows h S S' → NoCross h S → NoCross h S'
uncrossed-follows h S S' session sound follows uncrossed pair b s b_rests s_rests buys sells others reached =
    let b_now = orders_in-among pair S'.orders b b_rests in
    let s_now = orders_in-among pair S'.orders s s_rests in
    let b_was = follows.orders b_now.0 b_now.1 in
    let s_was = follows.orders s_now.0 s_now.1 in
    let b_is : b ≡ (with_left b_was.0 b_now.0.order.left).order = b_now.3 ∙ ap (λ (q : ActiveOrder). q.order) b_was.2 in
    let s_is : s ≡ (with_left s_was.0 s_now.0.order.left).order = s_now.3 ∙ ap (λ (q : ActiveOrder). q.order) s_was.2 in
    let b_pair : b_was.0.pair ≡ pair = sym (ap (λ (q : ActiveOrder). q.pair) b_was.2) ∙ b_now.2 in
    let s_pair : s_was.0.pair ≡ pair = sym (ap (λ (q : ActiveOrder). q.pair) s_was.2) ∙ s_now.2 in
    let some : 0 < weight_of h pair = subst (λ p. 0 < weight_of h p) b_pair (pair_known h S b_was.0 session sound b_was.1) in
    let b_bank : b.bank ≡ b_was.0.order.bank = ap (λ (q : Resting). q.bank) b_is in
    let s_bank : s.bank ≡ s_was.0.order.bank = ap (λ (q : Resting). q.bank) s_is in
    let reached_now : 1 ≤ reach h S' b_was.0.order.bank s_was.0.order.bank pair =
    subst (λ j. 1 ≤ reach h S' b_was.0.order.bank j pair) s_bank (subst (λ i. 1 ≤ reach h S' i s.bank pair) b_bank reached) in
    let falls = reach_falls h S S' b_was.0.order.bank s_was.0.order.bank pair some (follows.lines b_was.0.order.bank s_was.0.order.bank) in
    let below : b_was.0.order.price < s_was.0.order.price = uncrossed pair b_was.0.order s_was.0.order
    (among_orders_in pair S.orders b_was.0 b_was.1 b_pair) (among_orders_in pair S.orders s_was.0 s_was.1 s_pair)
    (sym (ap (λ (q : Resting). q.side) b_is) ∙ buys) (sym (ap (λ (q : Resting). q.side) s_is) ∙ sells)
    (λ same. others (b_bank ∙ same ∙ sym s_bank)) (omega (arith, reached_now, falls)) in
    omega (arith, below, ap (λ (q : Resting). q.price) b_is, ap (λ (q : Resting). q.price) s_is)

among_push : {X : Type 0} (xs : List X) (y x : X) → Among x (xs ++ y ∷ []) → Among x xs ⊎ (x ≡ y)
among_push [] y x (inl is) = inr is
among_push [] y x (inr none) = absurd none
among_push (z ∷ xs) y x (inl is) = inl (inl is)
among_push (z ∷ xs) y x (inr there) = elim (among_push xs y x there) [
  | inl it ↦ inl (inr it)
  | inr is ↦ inr is
]

before_taker : (h : Header) (S : State) (t : Taker) (a : ActiveOrder) → IsSound h S → IsNext h S t → Among a S.orders → a.order.arrival < t.arrival
before_taker h S t a sound next there =
    let kept = Each-among (IsKept h S.counts) S.orders a sound.kept there in omega (arith, kept.arrival, next.arrival)

-- a buy that comes to rest
below_old_sell : (h : Header) (S : State) (t : Taker) (a : ActiveOrder) → IsSound h S → IsNext h S t → open_orders h S t ≡ [] → Among a S.orders → a.pair ≡ t.pair → t.side ≡ Buy → a.order.side ≡ Sell → a.order.bank ≢ t.bank → 1 ≤ reach h S t.bank a.order.bank t.pair → t.price < a.order.price
below_old_sell h S t a sound next none_open there of_pair buys sells other reached =
    let opposite : is_opposite t.side a.order.side ≡ true = subst (λ side. is_opposite t.side side ≡ true) (sym sells) (subst (λ side. is_opposite side Sell ≡ true) (sym buys) refl) in
    let none : crosses t.side t.price a.order.price ≡ false = crosses_none h S t a none_open there of_pair (before_taker h S t a sound next there) opposite other reached in
    leb-false a.order.price t.price (subst (λ side. crosses side t.price a.order.price ≡ false) buys none)

-- a sell that comes to rest
above_old_buy : (h : Header) (S : State) (t : Taker) (a : ActiveOrder) → IsSound h S → IsNext h S t → open_orders h S t ≡ [] → Among a S.orders → a.pair ≡ t.pair → t.side ≡ Sell → a.order.side ≡ Buy → a.order.bank ≢ t.bank → 1 ≤ reach h S t.bank a.order.bank t.pair → a.order.price < t.price
above_old_buy h S t a sound next none_open there of_pair sells buys other reached =
    let opposite : is_opposite t.side a.order.side ≡ true = subst (λ side. is_opposite t.side side ≡ true) (sym buys) (subst (λ side. is_opposite side Buy ≡ true) (sym sells) refl) in
    let none : crosses t.side t.price a.order.price ≡ false = crosses_none h S t a none_open there of_pair (before_taker h S t a sound next there) opposite other reached in
    leb-false t.price a.order.price (subst (λ side. crosses side t.price a.order.price ≡ false) sells none)

-- the book with an order that came to rest
abbrev pushed : State → ActiveOrder → State
pushed S o = record S { orders = S.orders ++ o ∷ [] }

-- Where nothing is open to a taker, nothing rests crossed with it.
uncrossed-pushed : (h : Header) (S : State) (t : Taker) (rests : ℕ) → IsSound h S → IsNext h S t → open_orders h S t ≡ [] → NoCross h S → NoCross h (pushed S (resting_of t rests))
unfolding resting_of
uncrossed-pushed h S t rests sound next none_open uncrossed pair b s b_rests s_rests buys sells others reached =
    let o = resting_of t rests in
    let b_now = orders_in-among pair (S.orders ++ o ∷ []) b b_rests in
    let s_now = orders_in-among pair (S.orders ++ o ∷ []) s s_rests in
    elim (among_push S.orders o b_now.0 b_now.1) [
      | inl b_old ↦ elim (among_push S.orders o s_now.0 s_now.1) [
        | inl s_old ↦ uncrossed pair b s
            (subst (λ (q : Resting). Among q (orders_in pair S.orders)) (sym b_now.3) (among_orders_in pair S.orders b_now.0 b_old b_now.2))
            (subst (λ (q : Resting). Among q (orders_in pair S.orders)) (sym s_now.3) (among_orders_in pair S.orders s_now.0 s_old s_now.2))
            buys sells others reached
        | inr s_new ↦
            let s_is : s ≡ o.order = s_now.3 ∙ ap (λ (q : ActiveOrder). q.order) s_new in
            let of_pair : pair ≡ t.pair = sym s_now.2 ∙ ap (λ (q : ActiveOrder). q.pair) s_new in
            let s_bank : s.bank ≡ t.bank = ap (λ (q : Resting). q.bank) s_is in
            let b_bank : b.bank ≡ b_now.0.order.bank = ap (λ (q : Resting). q.bank) b_now.3 in
            let reached_t : 1 ≤ reach h S b_now.0.order.bank t.bank t.pair =
            subst (λ p. 1 ≤ reach h S b_now.0.order.bank t.bank p) of_pair
            (subst (λ j. 1 ≤ reach h S b_now.0.order.bank j pair) s_bank (subst (λ i. 1 ≤ reach h S i s.bank pair) b_bank reached)) in
            let above : b_now.0.order.price < t.price = above_old_buy h S t b_now.0 sound next none_open b_old (b_now.2 ∙ of_pair)
            (sym (ap (λ (q : Resting). q.side) s_is) ∙ sells) (sym (ap (λ (q : Resting). q.side) b_now.3) ∙ buys)
            (λ same. others (b_bank ∙ same ∙ sym s_bank)) (omega (arith, reached_t, reach_swap h S b_now.0.order.bank t.bank t.pair)) in
            omega (arith, above, ap (λ (q : Resting). q.price) b_now.3, ap (λ (q : Resting). q.price) s_is)
      ]
      | inr b_new ↦
          let b_is : b ≡ o.order = b_now.3 ∙ ap (λ (q : ActiveOrder). q.order) b_new in
          let of_pair : pair ≡ t.pair = sym b_now.2 ∙ ap (λ (q : ActiveOrder). q.pair) b_new in
          let b_bank : b.bank ≡ t.bank = ap (λ (q : Resting). q.bank) b_is in
          elim (among_push S.orders o s_now.0 s_now.1) [
            | inl s_old ↦
                let s_bank : s.bank ≡ s_now.0.order.bank = ap (λ (q : Resting). q.bank) s_now.3 in
                let reached_t : 1 ≤ reach h S t.bank s_now.0.order.bank t.pair =
                subst (λ p. 1 ≤ reach h S t.bank s_now.0.order.bank p) of_pair
                (subst (λ j. 1 ≤ reach h S t.bank j pair) s_bank (subst (λ i. 1 ≤ reach h S i s.bank pair) b_bank reached)) in
                let below : t.price < s_now.0.order.price = below_old_sell h S t s_now.0 sound next none_open s_old (s_now.2 ∙ of_pair)
                (sym (ap (λ (q : Resting). q.side) b_is) ∙ buys) (sym (ap (λ (q : Resting). q.side) s_now.3) ∙ sells)
                (λ same. others (b_bank ∙ sym same ∙ sym s_bank)) reached_t in
                omega (arith, below, ap (λ (q : Resting). q.price) b_is, ap (λ (q : Resting). q.price) s_now.3)
            | inr s_new ↦ absurd (others (b_bank ∙ sym (ap (λ (q : Resting). q.bank) (s_now.3 ∙ ap (λ (q : ActiveOrder). q.order) s_new))))
          ]
    ]

-- what is left of a swept order rests uncrossed
uncrossed-rested : (h : Header) (S : State) (t : Taker) (rests : ℕ) → IsSound h S → IsNext h S t → (0 < rests → open_orders h S t ≡ []) → NoCross h S → NoCross h (counted t.bank (rested t rests S))
unfolding resting_of
uncrossed-rested h S t rests sound next none_open uncrossed =
    cond_both (ltb 0 rests) (record S { orders = S.orders ++ resting_of t rests ∷ [] }) S (λ T. NoCross h (counted t.bank T))
    (λ some. uncrossed-pushed h S t rests sound next (none_open (ltb-true 0 rests some)) uncrossed)
    (λ _. uncrossed)

uncrossed-swept : (h : Header) (S : State) (t : Taker) (fills : List Fill) (left rests : ℕ) → IsSession h → IsSound h S → IsNext h S t → Swept h S t fills left → (0 < rests → rests ≡ left) → NoCross h S → NoCross h (counted t.bank (rested t rests (filled_all S fills)))
uncrossed-swept h S t fills left rests session sound next swept is_left uncrossed =
    let later = filled_all S fills in
    uncrossed-rested h later t rests (swept-sound h S t fills left sound next.bank (weight_of-least h t.pair session next.pair) swept).0
    (next_same h S later t (counts-filled_all S fills) next)
    (λ some. elim (swept_end h S t fills left swept) [
      | inl none_left ↦ absurd (omega (arith, some, is_left some, none_left))
      | inr none_open ↦ none_open
    ])
    (uncrossed-follows h S later session sound (filled_all-follows h S fills) uncrossed)

uncrossed-ordered : (h : Header) (S : State) (bank : ℕ) (side : Side) (pair price lots : ℕ) (life : Life) (outcome : Outcome) → IsSession h → IsSound h S → IsCommand h bank (Order side pair price lots life) → IsOrdered h S (taker_of S bank side pair price lots) life outcome → NoCross h S → NoCross h (after S bank (Order side pair price lots life) outcome)
uncrossed-ordered h S bank side pair price lots Day (Ordered done rests fills) session sound command ordered uncrossed =
    uncrossed-swept h S (taker_of S bank side pair price lots) fills rests rests session sound (taker_of-next h S bank side pair price lots Day session command) ordered.0 (λ _. refl) uncrossed
uncrossed-ordered h S bank side pair price lots Ioc (Ordered done rests fills) session sound command ordered uncrossed =
    uncrossed-swept h S (taker_of S bank side pair price lots) fills (lots - done) rests session sound (taker_of-next h S bank side pair price lots Ioc session command) ordered.0 (λ some. absurd (omega (arith, some, ordered.2))) uncrossed
uncrossed-ordered h S bank side pair price lots Fok (Ordered done rests fills) session sound command ordered uncrossed =
    uncrossed-swept h S (taker_of S bank side pair price lots) fills 0 rests session sound (taker_of-next h S bank side pair price lots Fok session command) ordered.0 (λ some. absurd (omega (arith, some, ordered.2))) uncrossed
uncrossed-ordered h S bank side pair price lots Fok Killed session sound command ordered uncrossed = uncrossed
uncrossed-ordered h S bank side pair price lots life outcome session sound command ordered uncrossed = absurd ordered

uncrossed-cancel : (h : Header) (S : State) (bank pair number : ℕ) (outcome : Outcome) → IsSession h → IsSound h S → NoCross h S → NoCross h (changed S bank (Cancel pair number) outcome)
uncrossed-cancel h S bank pair number (Cancelled left) session sound uncrossed =
    let stays : ActiveOrder → Bool = λ active. not (is_order bank number active.order) in
    uncrossed-follows h S (record S { orders = filter stays S.orders }) session sound (fewer-follows h S stays) uncrossed
uncrossed-cancel h S bank pair number outcome session sound uncrossed = uncrossed

uncrossed-reduce : (h : Header) (S : State) (bank pair number lots : ℕ) (outcome : Outcome) → IsSession h → IsSound h S → NoCross h S → NoCross h (changed S bank (Reduce pair number lots) outcome)
uncrossed-reduce h S bank pair number lots (Reduced left) session sound uncrossed =
    uncrossed-follows h S (record S { orders = reduced bank number left S.orders }) session sound (reduced-follows h S bank number left) uncrossed
uncrossed-reduce h S bank pair number lots outcome session sound uncrossed = uncrossed

uncrossed-pull : (h : Header) (S : State) (bank pair : ℕ) (outcome : Outcome) → IsSession h → IsSound h S → NoCross h S → NoCross h (changed S bank (Pull pair) outcome)
uncrossed-pull h S bank pair (Pulled count) session sound uncrossed =
    let stays : ActiveOrder → Bool = λ active. not (eqb active.pair pair && eqb active.order.bank bank) in
    uncrossed-follows h S (record S { orders = filter stays S.orders }) session sound (fewer-follows h S stays) uncrossed
uncrossed-pull h S bank pair outcome session sound uncrossed = uncrossed

uncrossed-raised : (h : Header) → IsSession h → (T : State) (fills : List Fill) → IsSound h T → Raised h T fills → NoCross h (filled_all T fills)
uncrossed-raised h session T fills sound raised = raised-uncrossed h T fills session sound (raised-sound h T fills session sound raised) raised

uncrossed-after : (h : Header) (S : State) (bank : ℕ) (command : Command) (outcome : Outcome) → IsSession h → IsSound h S → IsCommand h bank command → IsOutcome h S bank command outcome → NoCross h S → NoCross h (after S bank command outcome)
uncrossed-after h S bank (Order side pair price lots life) outcome session sound valid is uncrossed = uncrossed-ordered h S bank side pair price lots life outcome session sound valid is uncrossed
uncrossed-after h S bank (Cancel pair number) outcome session sound valid is uncrossed = uncrossed-cancel h S bank pair number outcome session sound uncrossed
uncrossed-after h S bank (Reduce pair number lots) outcome session sound valid is uncrossed = uncrossed-reduce h S bank pair number lots outcome session sound uncrossed
uncrossed-after h S bank (Pull pair) outcome session sound valid is uncrossed = uncrossed-pull h S bank pair outcome session sound uncrossed
uncrossed-after h S bank (Line other asked) outcome session sound valid is uncrossed = after-line h (NoCross h) (uncrossed-raised h session) S bank other asked outcome sound valid is
uncrossed-after h S bank (Total asked) outcome session sound valid is uncrossed = after-total h (NoCross h) (uncrossed-raised h session) S bank asked outcome session sound valid is
uncrossed-after h S bank (Settle a b asked) outcome session sound valid is uncrossed = after-settle h (NoCross h) (uncrossed-raised h session) S bank a b asked outcome sound valid is
uncrossed-after h S bank (Show other) outcome session sound valid is uncrossed = uncrossed
uncrossed-after h S bank (Book pair) outcome session sound valid is uncrossed = uncrossed
uncrossed-after h S bank (Bad reason) outcome session sound valid is uncrossed = uncrossed

uncrossed-steps : (h : Header) (S : State) (entries : List Entry) → IsSession h → IsSound h S → NoCross h S → Steps h S entries → NoCross h (after_all S entries)
uncrossed-steps h S [] session sound uncrossed steps = uncrossed
uncrossed-steps h S (e ∷ es) session sound uncrossed steps =
    let step = steps.0 in
    uncrossed-steps h (after_entry S e) es session (after-sound h S e.bank e.command e.outcome session sound step.command step.outcome)
    (uncrossed-after h S e.bank e.command e.outcome session sound step.command step.outcome uncrossed) steps.1

pub legal-uncrossed : (h : Header) (entries : List Entry) → IsLegal h entries → NoCross h (state h entries)
legal-uncrossed h entries legal =
    uncrossed-steps h (opening h) entries legal.session (opening-sound h legal.session) (λ pair b s b_rests _ _ _ _ _. absurd b_rests) legal.steps
