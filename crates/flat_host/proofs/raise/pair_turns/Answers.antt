-- Each turn goes on with the turns behind it.
use Rattle.std.proofs.Common.{ℕ, zero, suc, ◌≡◌, ◌+◌, ◌≤◌, ◌<◌, true, false, eqb, List, [], ◌∷◌, ◌++◌, Option, map, arith, refl, sym, ap, subst, ◌∙◌, inl, inr, drop, find, length, get_or, add-one, append_assoc, append-nil, Vec, Global}
use Rattle.std.proofs.Math.Seq.{drop-cons}
use Rattle.fx_rules.specs.declared.orders.ActiveOrder.{ActiveOrder}
use Rattle.fx_rules.specs.declared.orders.Resting.{Resting}
use Rattle.fx_rules.specs.declared.orders.Fill.{Fill}
use Rattle.fx_rules.specs.State.{orders_in}
use Rattle.fx_rules.specs.Sweep.{is_order}
use Rattle.fx_rules.specs.Raise.{taker_of_resting}
use Rattle.fx_rules.proofs.ListLemmas.{filter_cons_true, filter_cons_false}
use Rattle.fx_rules.proofs.RaiseSound.{match_cases}
use Rattle.flat_host.specs.FlatState.{FlatCredit}
use Rattle.flat_host.specs.Parts.{PlannedBy, both_lowered, credit_after}
use Rattle.fx_rules.specs.inside.Orders.{in_pair}
use Rattle.flat_host.specs.Turns.{TurnedIn}
use Rattle.flat_host.specs.inside.Turns.{TurnOf}
use Rattle.flat_host.proofs.Carrying.{credit_after-append}
use Rattle.flat_host.proofs.Market.{match_none, match_some}
use Rattle.flat_host.proofs.raise.pair_turns.Goals as goal
use Rattle.flat_host.proofs.raise.pair_turns.Goals.{then-eq+in_ok-own+in_ok-extend_from_slice, else-eq}

kept : (pair : ℕ) (a : ActiveOrder) (orders : List ActiveOrder) → eqb a.pair pair ≡ true → orders_in pair (a ∷ orders) ≡ a.order ∷ orders_in pair orders
kept pair a orders here = ap (map (λ (b : ActiveOrder). b.order)) (filter_cons_true (λ (b : ActiveOrder). eqb b.pair pair) a orders here)

passed : (pair : ℕ) (a : ActiveOrder) (orders : List ActiveOrder) → eqb a.pair pair ≡ false → orders_in pair (a ∷ orders) ≡ orders_in pair orders
passed pair a orders there = ap (map (λ (b : ActiveOrder). b.order)) (filter_cons_false (λ (b : ActiveOrder). eqb b.pair pair) a orders there)

dropped : (orders : List ActiveOrder) (i : ℕ) (a : ActiveOrder) → i < length orders → a ≡ get_or orders i a → drop i orders ≡ a ∷ drop (i + 1) orders
dropped orders i a within is =
    drop-cons orders i a within ∙ ap (λ (b : ActiveOrder). b ∷ drop (suc i) orders) (sym is) ∙ ap (λ n. a ∷ drop n orders) (sym (add-one i))

drop_past : (i : ℕ) (orders : List ActiveOrder) → length orders ≤ i → drop i orders ≡ []
drop_past zero [] past = refl
drop_past zero (a ∷ orders) past = absurd (omega arith)
drop_past (suc i) [] past = refl
drop_past (suc i) (a ∷ orders) past = drop_past i orders (omega arith)

-- an order's turn, and the turns behind it
turned_more : (weights : List ℕ) (pair : ℕ) (book : List ActiveOrder) (credit : FlatCredit) (order : Resting) (turns : List Resting) (own more : List Fill) → TurnOf weights pair book credit order own → TurnedIn weights pair (both_lowered book own) (credit_after weights credit own) turns more → TurnedIn weights pair book credit (order ∷ turns) (own ++ more)
turned_more weights pair book credit order turns own more turn rest =
    let Then : Resting → Type 0 = λ now. (mine others : List Fill) × (left : ℕ)
    × PlannedBy (get_or weights pair 0) credit (orders_in pair book) (taker_of_resting pair now) mine left
    × (own ++ more ≡ mine ++ others)
    × TurnedIn weights pair (both_lowered book mine) (credit_after weights credit mine) turns others in
    let found : Option Resting = find (λ o. is_order order.bank order.number o) (orders_in pair book) in
    elim (match_cases found (own ≡ []) (λ now. (left : ℕ) × PlannedBy (get_or weights pair 0) credit (orders_in pair book) (taker_of_resting pair now) own left) turn) [
      | inl gone ↦ match_none found (TurnedIn weights pair book credit turns (own ++ more)) Then gone.0
          (subst (λ (fs : List Fill). TurnedIn weights pair book credit turns (fs ++ more)) (sym gone.1)
          (subst (λ (fs : List Fill). TurnedIn weights pair (both_lowered book fs) (credit_after weights credit fs) turns more) gone.1 rest))
      | inr here ↦ match_some found here.0 (TurnedIn weights pair book credit turns (own ++ more)) Then here.1
          (own, more, here.2.0, here.2.1, refl, rest)
    ]

pub loop-active-preserved : goal.loop-active-preserved
loop-active-preserved c =
    let weights : List ℕ = c.args.weights.now in
    let pair : ℕ = c.args.pair in
    let i : ℕ = c.loop-active.active-index in
    let a : ActiveOrder = c.active-item.result in
    let orders : List ActiveOrder = c.args.orders.now in
    let Goes : List ActiveOrder → FlatCredit → List Resting → List Fill → Type 0 = TurnedIn weights pair in
    let Whole : List Fill → Type 0 = TurnedIn weights pair (in_pair pair orders) c.args.credit.now (orders_in pair orders) in
    elim c.if-eq.branch [
      | then-eq+in_ok-own+in_ok-extend_from_slice w ↦
          let own : List Fill = w.in_ok-own.own in
          let turns : orders_in pair (drop i orders) ≡ a.order ∷ orders_in pair (drop (i + 1) orders) =
          ap (orders_in pair) (dropped orders i a c.loop-active-test.true c.active-item.is) ∙ kept pair a (drop (i + 1) orders) (sym c.eq.ensures ∙ w.if-eq.true) in
          let fills : c.if-eq.fills.items ≡ c.loop-active.fills.items ++ own =
          ap (λ (v : Vec Fill Global). v.items) w.fills-is ∙ w.in_ok-extend_from_slice.ensures.items
          ∙ ap (λ (fs : List Fill). c.loop-active.fills.items ++ fs) w.as_slice.ensures.items in
          let credit : c.if-eq.credit ≡ credit_after weights c.loop-active.credit own = w.credit-is ∙ w.in_ok-own.ensures.credit in
          let book : c.if-eq.book.items ≡ both_lowered c.loop-active.book.items own = ap (λ (v : Vec ActiveOrder Global). v.items) w.book-is ∙ w.in_ok-own.ensures.book in
          record {
            goes_on = λ more rest.
                subst Whole (sym (ap (λ (fs : List Fill). fs ++ more) fills ∙ append_assoc c.loop-active.fills.items own more))
                (c.loop-active.invariant.goes_on (own ++ more)
                (subst (λ (os : List Resting). Goes c.loop-active.book.items c.loop-active.credit os (own ++ more)) (sym turns)
                (turned_more weights pair c.loop-active.book.items c.loop-active.credit a.order (orders_in pair (drop (i + 1) orders)) own more w.in_ok-own.ensures.turn
                (subst (λ (after : FlatCredit). Goes (both_lowered c.loop-active.book.items own) after (orders_in pair (drop (i + 1) orders)) more) credit
                (subst (λ (os : List ActiveOrder). Goes os c.if-eq.credit (orders_in pair (drop (i + 1) orders)) more) book rest)))));
            credit = credit ∙ ap (λ (before : FlatCredit). credit_after weights before own) c.loop-active.invariant.credit
                ∙ sym (credit_after-append weights c.args.credit.now c.loop-active.fills.items own)
                ∙ ap (credit_after weights c.args.credit.now) (sym fills);
          }
      | else-eq w ↦
          let turns : orders_in pair (drop i orders) ≡ orders_in pair (drop (i + 1) orders) =
          ap (orders_in pair) (dropped orders i a c.loop-active-test.true c.active-item.is) ∙ passed pair a (drop (i + 1) orders) (sym c.eq.ensures ∙ w.if-eq.false) in
          let fills : c.if-eq.fills.items ≡ c.loop-active.fills.items = ap (λ (v : Vec Fill Global). v.items) w.fills-is in
          let book : c.if-eq.book.items ≡ c.loop-active.book.items = ap (λ (v : Vec ActiveOrder Global). v.items) w.book-is in
          record {
            goes_on = λ more rest.
                subst Whole (sym (ap (λ (fs : List Fill). fs ++ more) fills))
                (c.loop-active.invariant.goes_on more
                (subst (λ (os : List Resting). Goes c.loop-active.book.items c.loop-active.credit os more) (sym turns)
                (subst (λ (after : FlatCredit). Goes c.loop-active.book.items after (orders_in pair (drop (i + 1) orders)) more) w.credit-is
                (subst (λ (os : List ActiveOrder). Goes os c.if-eq.credit (orders_in pair (drop (i + 1) orders)) more) book rest))));
            credit = w.credit-is ∙ c.loop-active.invariant.credit ∙ ap (credit_after weights c.args.credit.now) (sym fills);
          }
    ]

pub returns-clause-turned : goal.returns-clause-turned
returns-clause-turned c =
    let pair : ℕ = c.args.pair in
    let none : orders_in pair (drop c.loop-active.active-index c.args.orders.now) ≡ [] =
    ap (orders_in pair) (drop_past c.loop-active.active-index c.args.orders.now c.loop-active-test.false) in
    subst (TurnedIn c.args.weights.now pair (in_pair pair c.args.orders.now) c.args.credit.now (orders_in pair c.args.orders.now))
    (append-nil c.loop-active.fills.items)
    (c.loop-active.invariant.goes_on []
    (subst (λ (os : List Resting). TurnedIn c.args.weights.now pair c.loop-active.book.items c.loop-active.credit os []) (sym none) refl))
