-- The orders after a step are those that its fills leave, settled by its outcome.
use Rattle.std.proofs.Common.{ℕ, ◌≡◌, ◌+◌, ◌-◌, Bool, true, not, ◌&&◌, eqb, ltb, List, [], ◌∷◌, ◌++◌, inl, inr, refl, ap, sym, ◌∙◌, append-nil, Option, Some, None}
use Rattle.std.proofs.lemmas.Bool.{cases_Bool, cond_both, cond-true, cond-false, and_right, and_from, eq-eqb, not_from_true, not_from_false}
use Rattle.fx_amounts.specs.declared.side.Side.{Side}
use Rattle.fx_rules.specs.declared.orders.ActiveOrder.{ActiveOrder}
use Rattle.fx_rules.specs.declared.orders.Resting.{Resting}
use Rattle.fx_rules.specs.declared.command.Command.{Command}
use Rattle.fx_rules.specs.declared.command.Command.TheVariants.{Order, Cancel, Reduce, Pull, Line, Total, Settle, Show, Book, Bad}
use Rattle.fx_rules.specs.declared.command.Life.{Life}
use Rattle.fx_rules.specs.declared.command.Life.TheVariants.{Day, Ioc, Fok}
use Rattle.fx_rules.specs.declared.outcome.Outcome.{Outcome}
use Rattle.fx_rules.specs.declared.outcome.Outcome.TheVariants.{Ordered, Killed, Cancelled, Reduced, Pulled, LineSet, TotalSet, Settled, Depth}
use Rattle.fx_rules.specs.Lists.{Among, EachPair}
use Rattle.fx_rules.specs.Session.{Header, IsSession}
use Rattle.fx_rules.specs.State.{State, orders_in, count_of}
use Rattle.fx_rules.specs.Sweep.{Taker, is_order, filled_all, at_rest, taker_of}
use Rattle.fx_rules.specs.Raise.{limited, totalled, order_of}
use Rattle.fx_rules.specs.Raise as raise
use Rattle.fx_rules.specs.Step.{IsCommand, IsOrdered, IsOutcome, fills_of, rested, changed, cancel_answer, without_order, reduced, without_orders}
use Rattle.fx_rules.specs.Sound.{IsSound, Rises}
use Rattle.fx_rules.proofs.ListLemmas.{Each-among, filter_agree_on, filter_cons_true, filter_cons_false}
use Rattle.fx_rules.proofs.Opens.{orders_in-among}
use Rattle.fx_rules.proofs.Lowering.{is_order-says, is_order-from}
use Rattle.fx_rules.proofs.Falling.{cancel_fills, reduce_fills}
use Rattle.fx_rules.proofs.RaiseSound.{find-says}
use Rattle.client_desk.specs.Draws.{drawn_all, coming_in, entered, taken_out, settled, StepsSettle}
use Rattle.client_desk.proofs.Draws.{NoneIs, tail, ordered-to, comes-in, filled_all-drawn, none-next, none-filled}

-- what no order is is not taken out
pub out-none : (pair bank number : ℕ) (orders : List ActiveOrder) → NoneIs bank number orders → taken_out pair bank number orders ≡ orders
out-none pair bank number [] none = refl
out-none pair bank number (a ∷ orders) none =
    filter_cons_true (λ (b : ActiveOrder). not (eqb b.pair pair && is_order bank number b.order)) a orders
    (not_from_false (eqb a.pair pair && is_order bank number a.order) (and_right (eqb a.pair pair) (is_order bank number a.order) none.0))
    ∙ ap (λ (os : List ActiveOrder). a ∷ os) (out-none pair bank number orders none.1)

out-append : (pair bank number : ℕ) (orders more : List ActiveOrder) → taken_out pair bank number (orders ++ more) ≡ taken_out pair bank number orders ++ taken_out pair bank number more
out-append pair bank number [] more = refl
out-append pair bank number (a ∷ orders) more =
    let keep : ActiveOrder → Bool = λ (b : ActiveOrder). not (eqb b.pair pair && is_order bank number b.order) in
    elim (cases_Bool (keep a)) [
      | inl kept ↦ filter_cons_true keep a (orders ++ more) kept ∙ ap (λ (os : List ActiveOrder). a ∷ os) (out-append pair bank number orders more)
          ∙ ap (λ (os : List ActiveOrder). os ++ taken_out pair bank number more) (sym (filter_cons_true keep a orders kept))
      | inr gone ↦ filter_cons_false keep a (orders ++ more) gone ∙ out-append pair bank number orders more
          ∙ ap (λ (os : List ActiveOrder). os ++ taken_out pair bank number more) (sym (filter_cons_false keep a orders gone))
    ]

-- a taker's rest taken out
out-tail : (t : Taker) (left : ℕ) → taken_out t.pair t.bank t.number (tail t left) ≡ []
out-tail t left =
    cond_both (ltb 0 left) (at_rest t left ∷ []) [] (λ (os : List ActiveOrder). taken_out t.pair t.bank t.number os ≡ [])
    (λ _. filter_cons_false (λ (b : ActiveOrder). not (eqb b.pair t.pair && is_order t.bank t.number b.order)) (at_rest t left) []
    (not_from_true (eqb t.pair t.pair && is_order t.bank t.number (at_rest t left).order)
    (and_from (eqb t.pair t.pair) (is_order t.bank t.number (at_rest t left).order) (eq-eqb t.pair t.pair refl) (is_order-from t.bank t.number (at_rest t left).order refl refl))))
    (λ _. refl)

append-none : (orders : List ActiveOrder) (t : Taker) → orders ++ tail t 0 ≡ orders
append-none orders t = append-nil orders

rest-out : (t : Taker) (left : ℕ) (orders : List ActiveOrder) → NoneIs t.bank t.number orders → taken_out t.pair t.bank t.number (orders ++ tail t left) ≡ orders
rest-out t left orders none =
    out-append t.pair t.bank t.number orders (tail t left)
    ∙ ap (λ (os : List ActiveOrder). taken_out t.pair t.bank t.number orders ++ os) (out-tail t left) ∙ append-nil (taken_out t.pair t.bank t.number orders)
    ∙ out-none t.pair t.bank t.number orders none

rested-orders : (t : Taker) (rests : ℕ) (S : State) → (rested t rests S).orders ≡ S.orders ++ tail t rests
rested-orders t rests S =
    elim (cases_Bool (ltb 0 rests)) [
      | inl some ↦ ap (λ (T : State). T.orders) (cond-true (ltb 0 rests) (record S { orders = S.orders ++ at_rest t rests ∷ [] }) S some)
          ∙ ap (λ (os : List ActiveOrder). S.orders ++ os) (sym (cond-true (ltb 0 rests) (at_rest t rests ∷ []) [] some))
      | inr none ↦ ap (λ (T : State). T.orders) (cond-false (ltb 0 rests) (record S { orders = S.orders ++ at_rest t rests ∷ [] }) S none)
          ∙ sym (append-nil S.orders) ∙ ap (λ (os : List ActiveOrder). S.orders ++ os) (sym (cond-false (ltb 0 rests) (at_rest t rests ∷ []) [] none))
    ]

ordered-settles : (h : Header) (S : State) (bank : ℕ) (side : Side) (pair price lots : ℕ) (life : Life) (outcome : Outcome) → IsSession h → IsSound h S → IsCommand h bank (Order side pair price lots life) → IsOrdered h S (taker_of S bank side pair price lots) life outcome → (changed S bank (Order side pair price lots life) outcome).orders ≡ settled bank (count_of S bank + 1) (Order side pair price lots life) outcome (drawn_all (S.orders ++ at_rest (taker_of S bank side pair price lots) lots ∷ []) (fills_of outcome))
ordered-settles h S bank side pair price lots Day (Ordered done rests fills) session sound command ordered =
    let t : Taker = taker_of S bank side pair price lots in
    rested-orders t rests (filled_all S fills) ∙ sym (ordered-to h S bank side pair price lots Day fills rests session sound command ordered.0).leaves
    ∙ ap (λ (os : List ActiveOrder). drawn_all os fills) (comes-in S bank side pair price lots command.values.2.0)
ordered-settles h S bank side pair price lots Ioc (Ordered done rests fills) session sound command ordered =
    let t : Taker = taker_of S bank side pair price lots in
    rested-orders t rests (filled_all S fills) ∙ ap (λ n. (filled_all S fills).orders ++ tail t n) ordered.2 ∙ append-none (filled_all S fills).orders t
    ∙ sym (rest-out t (lots - done) (filled_all S fills).orders (none-filled bank (count_of S bank + 1) fills S (none-next h S bank sound)))
    ∙ ap (taken_out pair bank (count_of S bank + 1))
    (sym (ordered-to h S bank side pair price lots Ioc fills (lots - done) session sound command ordered.0).leaves
    ∙ ap (λ (os : List ActiveOrder). drawn_all os fills) (comes-in S bank side pair price lots command.values.2.0))
ordered-settles h S bank side pair price lots Fok (Ordered done rests fills) session sound command ordered =
    let t : Taker = taker_of S bank side pair price lots in
    rested-orders t rests (filled_all S fills) ∙ ap (λ n. (filled_all S fills).orders ++ tail t n) ordered.2 ∙ append-none (filled_all S fills).orders t
    ∙ sym (rest-out t 0 (filled_all S fills).orders (none-filled bank (count_of S bank + 1) fills S (none-next h S bank sound)))
    ∙ ap (taken_out pair bank (count_of S bank + 1))
    (sym (ordered-to h S bank side pair price lots Fok fills 0 session sound command ordered.0).leaves
    ∙ ap (λ (os : List ActiveOrder). drawn_all os fills) (comes-in S bank side pair price lots command.values.2.0))
ordered-settles h S bank side pair price lots Fok Killed session sound command ordered =
    let t : Taker = taker_of S bank side pair price lots in
    sym (rest-out t lots S.orders (none-next h S bank sound))
    ∙ ap (taken_out pair bank (count_of S bank + 1)) (comes-in S bank side pair price lots command.values.2.0)
ordered-settles h S bank side pair price lots life outcome session sound command ordered = absurd ordered

-- two orders of one bank and number are one
one-order : (bank number : ℕ) (orders : List ActiveOrder) (a b : ActiveOrder) → EachPair Rises orders → Among a orders → Among b orders → is_order bank number a.order ≡ true → is_order bank number b.order ≡ true → a ≡ b
one-order bank number [] a b rising there other is also = absurd there
one-order bank number (c ∷ orders) a b rising (inl one) (inl two) is also = one ∙ sym two
one-order bank number (c ∷ orders) a b rising (inl one) (inr two) is also =
    let before : Rises c b = Each-among (Rises c) orders b rising.0 two in
    let first = is_order-says bank number a.order is in
    let second = is_order-says bank number b.order also in
    absurd (before.number (sym (ap (λ (x : ActiveOrder). x.order.bank) one) ∙ first.0 ∙ sym second.0) (sym (ap (λ (x : ActiveOrder). x.order.number) one) ∙ first.1 ∙ sym second.1))
one-order bank number (c ∷ orders) a b rising (inr one) (inl two) is also =
    let before : Rises c a = Each-among (Rises c) orders a rising.0 one in
    let first = is_order-says bank number a.order is in
    let second = is_order-says bank number b.order also in
    absurd (before.number (sym (ap (λ (x : ActiveOrder). x.order.bank) two) ∙ second.0 ∙ sym first.0) (sym (ap (λ (x : ActiveOrder). x.order.number) two) ∙ second.1 ∙ sym first.1))
one-order bank number (c ∷ orders) a b rising (inr one) (inr two) is also = one-order bank number orders a b rising.1 one two is also

-- an order that was found is the only one of its bank and number
only-found : (S : State) (pair bank number : ℕ) (o : Resting) → EachPair Rises S.orders → order_of S pair bank number ≡ Some o → (a : ActiveOrder) → Among a S.orders → is_order bank number a.order ≡ true → a.pair ≡ pair
only-found S pair bank number o rising found a there is =
    let says = find-says (λ (p : Resting). is_order bank number p) (orders_in pair S.orders) o found in
    let stands = orders_in-among pair S.orders o says.0 in
    let also : is_order bank number stands.0.order ≡ true = ap (is_order bank number) (sym stands.3) ∙ says.1 in
    ap (λ (b : ActiveOrder). b.pair) (one-order bank number S.orders a stands.0 rising there stands.1 is also) ∙ stands.2

cancel-settles : (S : State) (pair bank number left : ℕ) (o : Option Resting) → EachPair Rises S.orders → order_of S pair bank number ≡ o → Cancelled left ≡ cancel_answer o → without_order bank number S.orders ≡ taken_out pair bank number S.orders
cancel-settles S pair bank number left None rising found is = cc
cancel-settles S pair bank number left (Some o) rising found is =
    filter_agree_on (λ (a : ActiveOrder). not (is_order bank number a.order)) (λ (a : ActiveOrder). not (eqb a.pair pair && is_order bank number a.order)) S.orders
    (λ a there.
    elim (cases_Bool (is_order bank number a.order)) [
      | inl same ↦ ap not (same ∙ sym (and_from (eqb a.pair pair) (is_order bank number a.order) (eq-eqb a.pair pair (only-found S pair bank number o rising found a there same)) same))
      | inr other ↦ ap not (other ∙ sym (and_right (eqb a.pair pair) (is_order bank number a.order) other))
    ])

nothing-made : (S : State) (outcome : Outcome) → fills_of outcome ≡ [] → S.orders ≡ drawn_all (S.orders ++ []) (fills_of outcome)
nothing-made S outcome none = sym (append-nil S.orders) ∙ ap (drawn_all (S.orders ++ [])) (sym none)

pub outcome-settles : (h : Header) (S : State) (bank : ℕ) (command : Command) (outcome : Outcome) → IsSession h → IsSound h S → IsCommand h bank command → IsOutcome h S bank command outcome → (changed S bank command outcome).orders ≡ settled bank (count_of S bank + 1) command outcome (drawn_all (S.orders ++ coming_in S bank command) (fills_of outcome))
outcome-settles h S bank (Order side pair price lots life) outcome session sound command is = ordered-settles h S bank side pair price lots life outcome session sound command is
outcome-settles h S bank (Cancel pair number) (Cancelled left) session sound command is =
    cancel-settles S pair bank number left (order_of S pair bank number) sound.rising refl is ∙ ap (taken_out pair bank number) (sym (append-nil S.orders))
outcome-settles h S bank (Cancel pair number) outcome session sound command is = nothing-made S outcome (ap fills_of is ∙ cancel_fills (order_of S pair bank number))
outcome-settles h S bank (Reduce pair number lots) (Reduced left) session sound command is = ap (reduced bank number left) (sym (append-nil S.orders))
outcome-settles h S bank (Reduce pair number lots) outcome session sound command is = nothing-made S outcome (ap fills_of is ∙ reduce_fills lots (order_of S pair bank number))
outcome-settles h S bank (Pull pair) (Pulled count) session sound command is = ap (without_orders pair bank) (sym (append-nil S.orders))
outcome-settles h S bank (Pull pair) outcome session sound command is = nothing-made S outcome (ap fills_of is)
outcome-settles h S bank (Line other asked) (LineSet limit fills) session sound command is =
    filled_all-drawn (limited bank other limit S) fills ∙ ap (λ (os : List ActiveOrder). drawn_all os fills) (sym (append-nil S.orders))
outcome-settles h S bank (Line other asked) outcome session sound command is = absurd is
outcome-settles h S bank (Total asked) (TotalSet most fills) session sound command is =
    filled_all-drawn (totalled bank most S) fills ∙ ap (λ (os : List ActiveOrder). drawn_all os fills) (sym (append-nil S.orders))
outcome-settles h S bank (Total asked) outcome session sound command is = absurd is
outcome-settles h S bank (Settle a b asked) (Settled given fills) session sound command is =
    filled_all-drawn (raise.settled a b given S) fills ∙ ap (λ (os : List ActiveOrder). drawn_all os fills) (sym (append-nil S.orders))
outcome-settles h S bank (Settle a b asked) outcome session sound command is = absurd is
outcome-settles h S bank (Show other) outcome session sound command is = nothing-made S outcome (ap fills_of is)
outcome-settles h S bank (Book pair) (Depth bids asks) session sound command is = sym (append-nil S.orders)
outcome-settles h S bank (Book pair) outcome session sound command is = absurd is
outcome-settles h S bank (Bad reason) outcome session sound command is = nothing-made S outcome (ap fills_of is)

pub steps-settle : StepsSettle
steps-settle h S e session sound step =
    outcome-settles h S e.bank e.command e.outcome session sound step.command step.outcome
    ∙ ap (λ n. settled e.bank n e.command e.outcome (drawn_all (entered S e) (fills_of e.outcome))) (sym step.number)
