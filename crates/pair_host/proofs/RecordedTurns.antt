-- The fills of a credit change that are of one pair make all that it brings about there.
use Rattle.std.proofs.Common.{ℕ, zero, suc, ◌≡◌, ◌≢◌, ◌+◌, ◌-◌, ◌<◌, ◌≤◌, eqb, List, [], ◌∷◌, ◌++◌, inl, inr, refl, ap, sym, subst, ◌∙◌, arith, length, take, drop, get_or, append-nil, drop-cons}
use Rattle.std.proofs.lemmas.Bool.{cases_eq, eq-eqb, ne_eqb}
use Rattle.std.proofs.lemmas.List.{take_more}
use Rattle.std.proofs.lemmas.List.Elements.{filter-append}
use Rattle.fx_rules.specs.declared.orders.Resting.{Resting}
use Rattle.fx_rules.specs.declared.orders.Fill.{Fill}
use Rattle.fx_rules.specs.Lists.{Each}
use Rattle.fx_rules.specs.Session.{Header, IsSession, pair_count, weight_of}
use Rattle.fx_rules.specs.State.{State, orders_in}
use Rattle.fx_rules.specs.Sweep.{Taker, Swept, filled, filled_all, less}
use Rattle.fx_rules.specs.Raise.{order_of, taker_of_resting, Turned, PairsTurned}
use Rattle.fx_rules.specs.Sound.{IsSound}
use Rattle.fx_rules.proofs.ListLemmas.{Each-append, filter_cons_true, filter_cons_false}
use Rattle.fx_rules.proofs.RaiseSound.{match_cases, turned-sound}
use Rattle.fx_rules.proofs.SweepSound.{filled_all-append, weight_of-least}
use Rattle.global_book.specs.Book.{Book}
use Rattle.match_sweep.specs.Carries.{filled_in, carried}
use Rattle.match_sweep.proofs.Lowering.{carried-market}
use Rattle.fx_rules.proofs.Staying.{turned-stays}
use Rattle.pair_host.specs.Turns.{fills_in, FollowsRaise}

abbrev IsOf : ℕ → Fill → Type 0
IsOf pair fill = fill.pair ≡ pair

-- the fills of a pair's turns are of the pair
swept-pair : (h : Header) (S : State) (t : Taker) (fills : List Fill) (left : ℕ) → Swept h S t fills left → Each (IsOf t.pair) fills
swept-pair h S t [] left swept = tt
swept-pair h S t (f ∷ fills) left swept =
    (ap (λ (g : Fill). g.pair) swept.3, swept-pair h (filled S f) (less t f.lots) fills left swept.4)

turned-pair : (h : Header) (pair : ℕ) (S : State) (orders : List Resting) (fills : List Fill) → Turned h pair S orders fills → Each (IsOf pair) fills
turned-pair h pair S [] fills turned = subst (Each (IsOf pair)) (sym turned) tt
turned-pair h pair S (order ∷ orders) fills turned =
    elim (match_cases (order_of S pair order.bank order.number) (Turned h pair S orders fills)
    (λ now. (own more : List Fill) × (left : ℕ) × Swept h S (taker_of_resting pair now) own left × (fills ≡ own ++ more) × Turned h pair (filled_all S own) orders more)
    turned) [
      | inl gone ↦ turned-pair h pair S orders fills gone.1
      | inr here ↦
          let own : List Fill = here.2.0 in
          let more : List Fill = here.2.1 in
          subst (Each (IsOf pair)) (sym here.2.4)
          (Each-append (IsOf pair) own more
          (swept-pair h S (taker_of_resting pair here.0) own here.2.2 here.2.3)
          (turned-pair h pair (filled_all S own) orders more here.2.5))
    ]

all_in : (pair : ℕ) (fills : List Fill) → Each (IsOf pair) fills → fills_in pair fills ≡ fills
all_in pair [] all = refl
all_in pair (f ∷ fills) all =
    filter_cons_true (λ (g : Fill). eqb g.pair pair) f fills (eq-eqb f.pair pair all.0) ∙ ap (λ (fs : List Fill). f ∷ fs) (all_in pair fills all.1)

none_in : (pair other : ℕ) (fills : List Fill) → pair ≢ other → Each (IsOf pair) fills → fills_in other fills ≡ []
none_in pair other [] differ all = refl
none_in pair other (f ∷ fills) differ all =
    filter_cons_false (λ (g : Fill). eqb g.pair other) f fills (ne_eqb f.pair other (λ is. differ (sym all.0 ∙ is))) ∙ none_in pair other fills differ all.1

pub carried-append : (orders : List Resting) (xs ys : List Fill) → carried orders (xs ++ ys) ≡ carried (carried orders xs) ys
carried-append orders [] ys = refl
carried-append orders (x ∷ xs) ys = carried-append (filled_in orders x) xs ys

-- one pair's own turns, and those of the pairs behind it
pairs-own : (h : Header) (pairs pair other : ℕ) (S : State) (fills : List Fill) → IsSession h → pair + pairs ≤ pair_count h → IsSound h S → PairsTurned h pairs pair S fills
    → carried (orders_in other S.orders) (fills_in other fills) ≡ orders_in other (filled_all S fills).orders
pairs-own h zero pair other S fills session within sound turned =
    ap (λ (fs : List Fill). carried (orders_in other S.orders) (fills_in other fs)) turned ∙ ap (λ (fs : List Fill). orders_in other (filled_all S fs).orders) (sym turned)
pairs-own h (suc pairs) pair other S fills session within sound turned =
    let own : List Fill = turned.0 in
    let more : List Fill = turned.1 in
    let T : State = filled_all S own in
    let some : 0 < weight_of h pair = weight_of-least h pair session (omega (arith, within)) in
    let its : Each (IsOf pair) own = turned-pair h pair S (orders_in pair S.orders) own turned.2 in
    let after : IsSound h T = turned-sound h pair S (orders_in pair S.orders) own some sound turned.2 in
    let rest : carried (orders_in other T.orders) (fills_in other more) ≡ orders_in other (filled_all T more).orders =
    pairs-own h pairs (pair + 1) other T more session (omega (arith, within)) after turned.4 in
    let first : carried (orders_in other S.orders) (fills_in other own) ≡ orders_in other T.orders =
    elim (cases_eq pair other) [
      | inl same ↦
          ap (carried (orders_in other S.orders)) (all_in other own (subst (λ p. Each (IsOf p) own) same its)) ∙ carried-market other S own sound.rising
      | inr differ ↦
          ap (carried (orders_in other S.orders)) (none_in pair other own differ its)
          ∙ sym (turned-stays h pair S (orders_in pair S.orders) own other differ some sound turned.2)
    ] in
    ap (λ (fs : List Fill). carried (orders_in other S.orders) (fills_in other fs)) turned.3
    ∙ ap (carried (orders_in other S.orders)) (filter-append (λ (g : Fill). eqb g.pair other) own more)
    ∙ carried-append (orders_in other S.orders) (fills_in other own) (fills_in other more)
    ∙ ap (λ (os : List Resting). carried os (fills_in other more)) first
    ∙ rest
    ∙ ap (λ (U : State). orders_in other U.orders) (sym (filled_all-append S own more))
    ∙ ap (λ (fs : List Fill). orders_in other (filled_all S fs).orders) (sym turned.3)

pub raised-own : (old new : Book) (fills : List Fill) → new.pair ≡ old.pair → new.orders ≡ carried old.orders (fills_in old.pair fills) → FollowsRaise old new fills
raised-own old new fills same made h S session sound raised is =
    made ∙ ap (λ (os : List Resting). carried os (fills_in old.pair fills)) is
    ∙ pairs-own h (pair_count h) 0 old.pair S fills session (omega arith) sound raised
    ∙ ap (λ p. orders_in p (filled_all S fills).orders) (sym same)

-- ---- one fill more

pub own-next : (pair at : ℕ) (orders : List Resting) (fills : List Fill) (f : Fill) → at < length fills → f ≡ get_or fills at f → f.pair ≡ pair
    → carried orders (fills_in pair (take (at + 1) fills)) ≡ carried (carried orders (fills_in pair (take at fills))) (f ∷ [])
own-next pair at orders fills f within is its =
    ap (λ (fs : List Fill). carried orders (fills_in pair fs)) (take_more fills at f within ∙ ap (λ (g : Fill). take at fills ++ g ∷ []) (sym is))
    ∙ ap (carried orders) (filter-append (λ (g : Fill). eqb g.pair pair) (take at fills) (f ∷ [])
    ∙ ap (λ (fs : List Fill). fills_in pair (take at fills) ++ fs) (filter_cons_true (λ (g : Fill). eqb g.pair pair) f [] (eq-eqb f.pair pair its)))
    ∙ carried-append orders (fills_in pair (take at fills)) (f ∷ [])

pub other-next : (pair at : ℕ) (fills : List Fill) (f : Fill) → at < length fills → f ≡ get_or fills at f → f.pair ≢ pair → fills_in pair (take (at + 1) fills) ≡ fills_in pair (take at fills)
other-next pair at fills f within is other =
    ap (fills_in pair) (take_more fills at f within ∙ ap (λ (g : Fill). take at fills ++ g ∷ []) (sym is))
    ∙ filter-append (λ (g : Fill). eqb g.pair pair) (take at fills) (f ∷ [])
    ∙ ap (λ (fs : List Fill). fills_in pair (take at fills) ++ fs) (filter_cons_false (λ (g : Fill). eqb g.pair pair) f [] (ne_eqb f.pair pair other))
    ∙ append-nil (fills_in pair (take at fills))

-- a fill cut out by itself
pub one-piece : (at : ℕ) (fills : List Fill) (f : Fill) → at < length fills → f ≡ get_or fills at f → take (at + 1 - at) (drop at fills) ≡ f ∷ []
one-piece at fills f within is =
    let one : at + 1 - at ≡ 1 = omega arith in
    ap (λ n. take n (drop at fills)) one ∙ ap (take 1) (drop-cons fills at f within) ∙ ap (λ (g : Fill). g ∷ []) (sym is)
