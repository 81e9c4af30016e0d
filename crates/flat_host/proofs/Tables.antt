-- The tables of credit that stand for a state, after its fills.
use Rattle.std.proofs.Common.{ℕ, zero, suc, ◌≡◌, ◌≢◌, ◌+◌, ◌-◌, ◌*◌, ◌≤◌, ◌<◌, min, true, ◌&&◌, eqb, leb, List, [], ◌∷◌, ◌++◌, inl, inr, ap, sym, subst, ◌∙◌, arith, length, get_or}
use Rattle.std.proofs.lemmas.Bool.{cases_Bool, cond-true, le-leb, eq-eqb, and_from, or_left, or_right, both_ways}
use Rattle.std.specs.Option.{option_map}
use Rattle.fx_rules.specs.Lists.{total}
use Rattle.fx_rules.specs.declared.orders.Resting.{Resting}
use Rattle.fx_rules.specs.declared.orders.Fill.{Fill}
use Rattle.fx_rules.specs.Session.{Header, IsSession, bank_count, pair_count, weight_of}
use Rattle.fx_rules.specs.State.{State, orders_in, line, left_of_limits, at_most, used, others, spent, headroom, cost, cost_between, is_between}
use Rattle.fx_rules.specs.Sweep.{Taker, Swept, less, filled, filled_all}
use Rattle.fx_rules.specs.Raise.{order_of, taker_of_resting, Turned, PairsTurned}
use Rattle.fx_rules.specs.Sound.{IsSound, IsCovered}
use Rattle.fx_rules.proofs.Credit.{IsAllowed, used-filled, cost_between-one, cost_between-other, between_cases}
use Rattle.fx_rules.proofs.Opens.{allowed-open}
use Rattle.fx_rules.proofs.SweepSound.{filled-sound, swept-sound, filled_all-append, weight_of-least}
use Rattle.fx_rules.proofs.RaiseSound.{match_cases, turn_of, turn-sender, turned-sound}
use Rattle.flat_host.specs.FlatState.{FlatCredit, FlatState, use_place, limit_in, use_in, total_in, others_of, spent_in, room_in, left_in, line_in, StandsFor}
use Rattle.flat_host.specs.inside.FlatState.{TablesFor}
use Rattle.flat_host.specs.Parts.{use_raised, credit_after}
use Rattle.flat_host.proofs.Carrying.{use_place-swap, places_same, use_place-same, raised, raised_here, raised_there, length-raised, length-credit_after, credit_after-append}
use Rattle.flat_host.proofs.Spending.{others-in, total_same}

pub tables_of : (h : Header) (S : State) (l : FlatState) → StandsFor h S l → TablesFor h S l.weights l.credit
tables_of h S l stands = record {
  banks = stands.banks;
  weighs = stands.weights;
  limit = stands.limits;
  uses = stands.uses;
  totals = stands.totals;
}

-- what a bank has spent by the tables, and what its total leaves, are the state's
pub spent-same : (h : Header) (S : State) (weights : List ℕ) (credit : FlatCredit) (i : ℕ) → TablesFor h S weights credit → i < bank_count h → spent_in credit i ≡ spent h S i
spent-same h S weights credit i tables i_in =
    ap (λ n. total (use_in credit.uses i) (others_of n i)) tables.banks
    ∙ total_same (use_in credit.uses i) (used h S i) (others h i)
    (λ k there. let is = others-in (bank_count h) i k there in tables.uses i k i_in is.0 (λ same. is.1 (sym same)))

pub room-same : (h : Header) (S : State) (weights : List ℕ) (credit : FlatCredit) (i : ℕ) → TablesFor h S weights credit → i < bank_count h → room_in credit i ≡ headroom h S i
room-same h S weights credit i tables i_in =
    ap (λ n. option_map (λ most. most - n) (total_in credit i)) (spent-same h S weights credit i tables i_in)
    ∙ ap (option_map (λ most. most - spent h S i)) (tables.totals i i_in)

lines_of_two : (a b u a' b' u' : ℕ) → a ≡ a' → b ≡ b' → u ≡ u' → min a b - u ≡ min a' b' - u'
lines_of_two a b u a' b' u' p q r = cc

left-same : (h : Header) (S : State) (weights : List ℕ) (credit : FlatCredit) (i j : ℕ) → TablesFor h S weights credit → i < bank_count h → j < bank_count h → i ≢ j → left_in credit i j ≡ left_of_limits h S i j
left-same h S weights credit i j tables i_in j_in differ =
    lines_of_two (limit_in credit.limits i j) (limit_in credit.limits j i) (use_in credit.uses i j) (S.limits i j) (S.limits j i) (used h S i j)
    (tables.limit i j i_in j_in differ) (tables.limit j i j_in i_in (λ e. differ (sym e))) (tables.uses i j i_in j_in differ)

-- the line that the tables tell is the state's
pub line-same : (h : Header) (S : State) (weights : List ℕ) (credit : FlatCredit) (i j : ℕ) → TablesFor h S weights credit → i < bank_count h → j < bank_count h → i ≢ j → line_in credit i j ≡ line h S i j
line-same h S weights credit i j tables i_in j_in differ =
    ap (λ room. at_most room (at_most (room_in credit j) (left_in credit i j))) (room-same h S weights credit i tables i_in)
    ∙ ap (λ room. at_most (headroom h S i) (at_most room (left_in credit i j))) (room-same h S weights credit j tables j_in)
    ∙ ap (λ n. at_most (headroom h S i) (at_most (headroom h S j) n)) (left-same h S weights credit i j tables i_in j_in differ)

-- a fill is between two banks exactly where it stands at their place
between_place : (i j : ℕ) (fill : Fill) → is_between i j fill ≡ true → use_place i j ≡ use_place fill.taker fill.maker
between_place i j fill is =
    elim (between_cases i j fill is) [
      | inl same ↦ places_same i j fill.taker fill.maker (sym same.0) (sym same.1)
      | inr same ↦ use_place-swap i j ∙ places_same j i fill.taker fill.maker (sym same.0) (sym same.1)
    ]

place_between : (i j : ℕ) (fill : Fill) → i < 65 → j < 65 → fill.taker < 65 → fill.maker < 65 → use_place i j ≡ use_place fill.taker fill.maker → is_between i j fill ≡ true
place_between i j fill i_in j_in t_in m_in same =
    elim (use_place-same i j fill.taker fill.maker i_in j_in t_in m_in same) [
      | inl is ↦ or_left (eqb fill.taker i && eqb fill.maker j) (eqb fill.taker j && eqb fill.maker i)
          (and_from (eqb fill.taker i) (eqb fill.maker j) (eq-eqb fill.taker i (sym is.0)) (eq-eqb fill.maker j (sym is.1)))
      | inr is ↦ or_right (eqb fill.taker i && eqb fill.maker j) (eqb fill.taker j && eqb fill.maker i)
          (and_from (eqb fill.taker j) (eqb fill.maker i) (eq-eqb fill.taker j (sym is.1)) (eq-eqb fill.maker i (sym is.0)))
    ]

-- the use of each two banks after a fill
use_raised_by : (h : Header) (uses : List ℕ) (i j : ℕ) (f : Fill) → length uses ≡ 4225 → i < 65 → j < 65 → f.taker < 65 → f.maker < 65 → use_in (raised uses f.taker f.maker (cost h f)) i j ≡ use_in uses i j + cost_between h i j (f ∷ [])
use_raised_by h uses i j f full i_in j_in t_in m_in =
    elim (cases_Bool (is_between i j f)) [
      | inl is ↦
          let now : use_in (raised uses f.taker f.maker (cost h f)) i j ≡ use_in uses i j + cost h f =
          raised_here uses i j f.taker f.maker (cost h f) full t_in m_in (between_place i j f is) in
          let one : cost_between h i j (f ∷ []) ≡ cost h f = cost_between-one h i j f is in
          omega arith
      | inr is_not ↦
          let now : use_in (raised uses f.taker f.maker (cost h f)) i j ≡ use_in uses i j =
          raised_there uses i j f.taker f.maker (cost h f) (λ same. both_ways (is_between i j f) is_not (place_between i j f i_in j_in t_in m_in same)) in
          let none : cost_between h i j (f ∷ []) ≡ 0 = cost_between-other h i j f is_not in
          omega arith
    ]

-- a fill that is allowed is added to the uses
added_is : (h : Header) (S : State) (weights : List ℕ) (credit : FlatCredit) (f : Fill) → TablesFor h S weights credit → IsAllowed h S f → use_raised credit f.taker f.maker (f.lots * get_or weights f.pair 0) ≡ record credit { uses = raised credit.uses f.taker f.maker (cost h f) }
added_is h S weights credit f tables allowed =
    let weight : get_or weights f.pair 0 ≡ weight_of h f.pair = ap (λ (ws : List ℕ). get_or ws f.pair 0) tables.weighs in
    let costs : f.lots * get_or weights f.pair 0 ≡ cost h f = ap (λ w. f.lots * w) weight in
    let pays : line_in credit f.taker f.maker ≡ line h S f.taker f.maker =
    line-same h S weights credit f.taker f.maker tables allowed.taker allowed.maker allowed.differ in
    let allows : cost h f ≤ line h S f.taker f.maker = allowed.credit in
    let fits : f.lots * get_or weights f.pair 0 ≤ line_in credit f.taker f.maker =
    subst (λ n. n ≤ line_in credit f.taker f.maker) (sym costs) (subst (λ n. cost h f ≤ n) (sym pays) allows) in
    cond-true (leb (f.lots * get_or weights f.pair 0) (line_in credit f.taker f.maker)) (record credit { uses = raised credit.uses f.taker f.maker (f.lots * get_or weights f.pair 0) }) credit
    (le-leb (f.lots * get_or weights f.pair 0) (line_in credit f.taker f.maker) fits)
    ∙ ap (λ n. record credit { uses = raised credit.uses f.taker f.maker n }) costs

pub tables-filled : (h : Header) (S : State) (weights : List ℕ) (credit : FlatCredit) (f : Fill) → bank_count h ≤ 64 → length credit.uses ≡ 4225 → IsCovered h S → TablesFor h S weights credit → IsAllowed h S f → TablesFor h (filled S f) weights (use_raised credit f.taker f.maker (f.lots * get_or weights f.pair 0))
tables-filled h S weights credit f few full covered tables allowed =
    subst (TablesFor h (filled S f) weights) (sym (added_is h S weights credit f tables allowed)) (record {
      banks = tables.banks;
      weighs = tables.weighs;
      limit = tables.limit;
      uses = λ i j i_in j_in differ.
          use_raised_by h credit.uses i j f full (omega (arith, i_in, few)) (omega (arith, j_in, few)) (omega (arith, allowed.taker, few)) (omega (arith, allowed.maker, few))
          ∙ ap (λ n. n + cost_between h i j (f ∷ [])) (tables.uses i j i_in j_in differ)
          ∙ sym (used-filled h S f i j covered);
      totals = tables.totals;
    })

pub tables-swept : (h : Header) (S : State) (weights : List ℕ) (credit : FlatCredit) (t : Taker) (fills : List Fill) (left : ℕ) → bank_count h ≤ 64 → length credit.uses ≡ 4225 → IsSound h S → t.bank < bank_count h → 0 < weight_of h t.pair → TablesFor h S weights credit → Swept h S t fills left → TablesFor h (filled_all S fills) weights (credit_after weights credit fills)
tables-swept h S weights credit t [] left banks full sound bank some tables swept = tables
tables-swept h S weights credit t (f ∷ fills) left banks full sound bank some tables swept =
    let best : Resting = swept.0 in
    let allowed : IsAllowed h S f = subst (IsAllowed h S) (sym swept.3) (allowed-open h S t best sound bank some swept.1 swept.2.there) in
    tables-swept h (filled S f) weights (use_raised credit f.taker f.maker (f.lots * get_or weights f.pair 0)) (less t f.lots) fills left banks
    (length-raised credit f.taker f.maker (f.lots * get_or weights f.pair 0) ∙ full) (filled-sound h S f sound allowed) bank some
    (tables-filled h S weights credit f banks full sound.covered tables allowed) swept.4

pub tables-turned : (h : Header) (pair : ℕ) (S : State) (weights : List ℕ) (credit : FlatCredit) (orders : List Resting) (fills : List Fill) → bank_count h ≤ 64 → length credit.uses ≡ 4225 → IsSound h S → 0 < weight_of h pair → TablesFor h S weights credit → Turned h pair S orders fills → TablesFor h (filled_all S fills) weights (credit_after weights credit fills)
tables-turned h pair S weights credit [] fills banks full sound some tables turned =
    subst (λ (fs : List Fill). TablesFor h (filled_all S fs) weights (credit_after weights credit fs)) (sym turned) tables
tables-turned h pair S weights credit (order ∷ orders) fills banks full sound some tables turned =
    elim (match_cases (order_of S pair order.bank order.number) (Turned h pair S orders fills)
    (λ now. (own more : List Fill) × (left : ℕ) × Swept h S (taker_of_resting pair now) own left × (fills ≡ own ++ more) × Turned h pair (filled_all S own) orders more)
    turned) [
      | inl gone ↦ tables-turned h pair S weights credit orders fills banks full sound some tables gone.1
      | inr here ↦
          let now : Resting = here.0 in
          let own : List Fill = here.2.0 in
          let more : List Fill = here.2.1 in
          let sender = turn-sender h S pair order.bank order.number now (turn_of h S pair order.bank order.number now sound here.1) in
          let next : IsSound h (filled_all S own) = (swept-sound h S (taker_of_resting pair now) own here.2.2 sound sender some here.2.3).0 in
          let first = tables-swept h S weights credit (taker_of_resting pair now) own here.2.2 banks full sound sender some tables here.2.3 in
          subst (λ (fs : List Fill). TablesFor h (filled_all S fs) weights (credit_after weights credit fs)) (sym here.2.4)
          (subst (λ (T : State). TablesFor h T weights (credit_after weights credit (own ++ more))) (sym (filled_all-append S own more))
          (subst (TablesFor h (filled_all (filled_all S own) more) weights) (sym (credit_after-append weights credit own more))
          (tables-turned h pair (filled_all S own) weights (credit_after weights credit own) orders more banks
          (length-credit_after weights credit own ∙ full) next some first here.2.5)))
    ]

pub tables-pairs : (h : Header) (pairs pair : ℕ) (S : State) (weights : List ℕ) (credit : FlatCredit) (fills : List Fill) → IsSession h → pair + pairs ≤ pair_count h → length credit.uses ≡ 4225 → IsSound h S → TablesFor h S weights credit → PairsTurned h pairs pair S fills → TablesFor h (filled_all S fills) weights (credit_after weights credit fills)
tables-pairs h zero pair S weights credit fills session within full sound tables turned =
    subst (λ (fs : List Fill). TablesFor h (filled_all S fs) weights (credit_after weights credit fs)) (sym turned) tables
tables-pairs h (suc pairs) pair S weights credit fills session within full sound tables turned =
    let own : List Fill = turned.0 in
    let more : List Fill = turned.1 in
    let some : 0 < weight_of h pair = weight_of-least h pair session (omega arith) in
    let next : IsSound h (filled_all S own) = turned-sound h pair S (orders_in pair S.orders) own some sound turned.2 in
    let first = tables-turned h pair S weights credit (orders_in pair S.orders) own session.banks_most full sound some tables turned.2 in
    subst (λ (fs : List Fill). TablesFor h (filled_all S fs) weights (credit_after weights credit fs)) (sym turned.3)
    (subst (λ (T : State). TablesFor h T weights (credit_after weights credit (own ++ more))) (sym (filled_all-append S own more))
    (subst (TablesFor h (filled_all (filled_all S own) more) weights) (sym (credit_after-append weights credit own more))
    (tables-pairs h pairs (pair + 1) (filled_all S own) weights (credit_after weights credit own) more session (omega arith)
    (length-credit_after weights credit own ∙ full) next first turned.4)))
