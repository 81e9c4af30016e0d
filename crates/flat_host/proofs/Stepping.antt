-- What the host answers and makes of a command, in each state that it stands for.
use Rattle.std.proofs.Common.{ℕ, ◌≡◌, ◌≢◌, ◌+◌, ◌-◌, ◌≤◌, ◌<◌, ◌^◌, min, max, true, ◌&&◌, eqb, ltb, cond, List, [], ◌∷◌, ◌++◌, inl, inr, refl, ap, sym, subst, ◌∙◌, arith, length, get_or, find, Some}
use Rattle.std.proofs.Math.ListN.{set, length-set}
use Rattle.std.proofs.lemmas.Bool.{cases_Bool, cond-true, cond-false, cond_both, and_from, or_left, or_right, eq-eqb, both_ways}
use Rattle.std.specs.List.{filter}
use Rattle.fx_amounts.specs.declared.side.Side.{Side}
use Rattle.fx_amounts.specs.declared.side.Side.TheVariants.{Buy, Sell}
use Rattle.fx_rules.specs.declared.orders.ActiveOrder.{ActiveOrder}
use Rattle.fx_rules.specs.declared.orders.Fill.{Fill}
use Rattle.fx_rules.specs.declared.orders.Level.{Level}
use Rattle.fx_rules.specs.declared.command.Command.{Command}
use Rattle.fx_rules.specs.declared.command.Command.TheVariants.{Order, Cancel, Reduce, Pull, Line, Total, Settle, Show, Book, Bad}
use Rattle.fx_rules.specs.declared.command.Reject.{Reject}
use Rattle.fx_rules.specs.declared.command.Life.{Life}
use Rattle.fx_rules.specs.declared.command.Life.TheVariants.{Day, Ioc, Fok}
use Rattle.fx_rules.specs.declared.outcome.Outcome.{Outcome}
use Rattle.fx_rules.specs.declared.outcome.Outcome.TheVariants.{Ordered, Killed, Pulled, LineSet, TotalSet, Settled, Shown, Depth, Rejected}
use Rattle.fx_rules.specs.Lists.{total}
use Rattle.fx_rules.specs.Session.{Header, IsSession, bank_count, pair_count}
use Rattle.fx_rules.specs.State.{State, Settlement, orders_in, line, used, cost_between, settles, settled_between}
use Rattle.fx_rules.specs.Sweep.{Taker, Swept, is_order, at_rest, filled, filled_all, taker_of}
use Rattle.fx_rules.specs.Raise.{limit_set, limited, total_set, totalled, given_back, settled, Raised}
use Rattle.fx_rules.specs.Step.{IsCommand, IsOrdered, IsOutcome, cancel_answer, reduce_answer, rested, changed, fills_of}
use Rattle.fx_rules.specs.Sound.{IsSound}
use Rattle.fx_rules.proofs.SweepSound.{weight_of-least, counts-filled_all}
use Rattle.fx_rules.proofs.RaiseSound.{limited-sound, totalled-sound, settled-sound}
use Rattle.fx_rules.proofs.Credit.{settles_cases, settled_between-append, settled_between-one, settled_between-other}
use Rattle.fx_rules.proofs.Falling.{Terms, terms}
use Rattle.flat_host.specs.FlatState.{FlatCredit, FlatState, StandsFor, use_place, limit_in, use_in, spent_in, line_in}
use Rattle.flat_host.specs.inside.FlatState.{IsCredit, TablesFor}
use Rattle.flat_host.specs.Parts.{PlannedBy, both_lowered, credit_after, rests_of}
use Rattle.flat_host.specs.inside.Parts.{PlannedIn, OrderedIn, taker_from, with_rest, order_carried, shown_in, limited_in, totalled_in, settled_in}
use Rattle.fx_rules.specs.inside.Orders.{in_pair, orders_by}
use Rattle.flat_host.specs.Turns.{RaisedIn}
use Rattle.flat_host.specs.inside.Turns.{MadeIn, LineSetIn, TotalSetIn, SettledIn, raised_in, line_raised_in, total_raised_in, settled_raised_in}
use Rattle.flat_host.specs.inside.Levels.{ProbedIn}
use Rattle.flat_host.specs.Steps.{IsCommandOf, AnswersEach, StepsEach, ShowsEach}
use Rattle.flat_host.specs.inside.Steps.{ChangesEach, FollowsEach}
use Rattle.flat_host.proofs.Carrying.{use_place-swap, use_place-same, places_same}
use Rattle.flat_host.proofs.Within.{limits-set, totals-set, given_at, given_apart}
use Rattle.flat_host.proofs.Tables.{tables_of, spent-same, line-same, tables-swept, tables-pairs}
use Rattle.flat_host.proofs.Market.{swept-planned, raised-market}
use Rattle.flat_host.proofs.Probing.{shows-probed}
use Rattle.flat_host.proofs.Pulling.{pulled-most}
use Rattle.flat_host.proofs.Sendable.{sendable, pairs_of}

pub pair_within : (h : Header) (S : State) (l : FlatState) (pair : ℕ) → StandsFor h S l → pair < length l.weights → pair < pair_count h
pair_within h S l pair stands within = omega (arith, pairs_of h l stands.weights, within)

orders-filled_all : (S : State) (fills : List Fill) → (filled_all S fills).orders ≡ both_lowered S.orders fills
orders-filled_all S [] = refl
orders-filled_all S (f ∷ fills) = orders-filled_all (filled S f) fills

-- Orders.

-- what it changes of a state that a rest stands
rested-orders : (t : Taker) (rests : ℕ) (S : State) → (rested t rests S).orders ≡ with_rest t rests S.orders
rested-orders t rests S =
    elim (cases_Bool (ltb 0 rests)) [
      | inl some ↦ ap (λ (T : State). T.orders) (cond-true (ltb 0 rests) (record S { orders = S.orders ++ at_rest t rests ∷ [] }) S some)
          ∙ sym (cond-true (ltb 0 rests) (S.orders ++ at_rest t rests ∷ []) S.orders some)
      | inr none ↦ ap (λ (T : State). T.orders) (cond-false (ltb 0 rests) (record S { orders = S.orders ++ at_rest t rests ∷ [] }) S none)
          ∙ sym (cond-false (ltb 0 rests) (S.orders ++ at_rest t rests ∷ []) S.orders none)
    ]

-- and what it leaves
record SameBut (S T : State) : Type 0 where
  pub terms : terms T ≡ terms S
  pub fills : T.fills ≡ S.fills
  pub counts : T.counts ≡ S.counts

rested-same : (t : Taker) (rests : ℕ) (S : State) → SameBut S (rested t rests S)
rested-same t rests S =
    cond_both (ltb 0 rests) (record S { orders = S.orders ++ at_rest t rests ∷ [] }) S (SameBut S)
    (λ _. record { terms = refl; fills = refl; counts = refl }) (λ _. record { terms = refl; fills = refl; counts = refl })

-- the taker as the flat state and as the state tell it
taker-same : (S : State) (l : FlatState) (bank : ℕ) (side : Side) (pair price lots : ℕ) → l.counts ≡ S.counts → taker_from l bank side pair price lots ≡ taker_of S bank side pair price lots
taker-same S l bank side pair price lots same =
    let made : List ℕ → Taker = λ (counts : List ℕ). record {
      bank = bank;
      number = get_or counts bank 0 + 1;
      pair = pair;
      side = side;
      price = price;
      left = lots;
      arrival = total (λ c. c) counts;
    } in
    ap made same

-- a sweep carried out stands for the state with its fills and its rest
stands-ordered : (h : Header) (S : State) (old : FlatState) (t : Taker) (rests : ℕ) (fills : List Fill) (left : ℕ) → IsSession h → IsSound h S → StandsFor h S old → length old.credit.uses ≡ 4225 → t.bank < bank_count h → t.pair < pair_count h → Swept h S t fills left → StandsFor h (rested t rests (filled_all S fills)) (order_carried old t rests fills)
stands-ordered h S old t rests fills left session sound stands full bank pair swept =
    let T : State = filled_all S fills in
    let rest : SameBut T (rested t rests T) = rested-same t rests T in
    let tables : TablesFor h T old.weights (credit_after old.weights old.credit fills) =
    tables-swept h S old.weights old.credit t fills left session.banks_most full sound bank (weight_of-least h t.pair session pair) (tables_of h S old stands) swept in
    record {
      banks = tables.banks;
      orders =
          ap (λ (os : List ActiveOrder). with_rest t rests (both_lowered os fills)) stands.orders
          ∙ ap (with_rest t rests) (sym (orders-filled_all S fills))
          ∙ sym (rested-orders t rests T);
      counts = stands.counts ∙ sym (counts-filled_all S fills) ∙ sym rest.counts;
      weights = stands.weights;
      limits = λ i j i_in j_in differ. tables.limit i j i_in j_in differ ∙ ap (λ (set : Terms). set.0 i j) (sym rest.terms);
      uses = λ i j i_in j_in differ. tables.uses i j i_in j_in differ
          ∙ ap (λ (past : List Fill). cost_between h i j past - settled_between i j T.settlements) (sym rest.fills)
          ∙ ap (λ (set : Terms). cost_between h i j (rested t rests T).fills - settled_between i j set.2) (sym rest.terms);
      totals = λ b b_in. tables.totals b b_in ∙ ap (λ (set : Terms). set.1 b) (sym rest.terms);
    }

planned-market : (h : Header) (S : State) (l : FlatState) (t : Taker) (fills : List Fill) (left : ℕ) → IsSession h → IsSound h S → StandsFor h S l → t.bank < bank_count h → t.pair < pair_count h → PlannedIn l t fills left → Swept h S t fills left
planned-market h S l t fills left session sound stands bank pair planned =
    swept-planned h S l.weights l.credit t fills left session sound (tables_of h S l stands) bank pair
    (subst (λ (os : List ActiveOrder). PlannedBy (get_or l.weights t.pair 0) l.credit (orders_in t.pair os) t fills left) stands.orders planned)

ordered-market : (h : Header) (S : State) (l : FlatState) (t : Taker) (life : Life) (outcome : Outcome) → IsSession h → IsSound h S → StandsFor h S l → t.bank < bank_count h → t.pair < pair_count h → OrderedIn l t life outcome → IsOrdered h S t life outcome
ordered-market h S l t Day (Ordered done rests fills) session sound stands bank pair is =
    (planned-market h S l t fills rests session sound stands bank pair is.0, is.1, is.2)
ordered-market h S l t Ioc (Ordered done rests fills) session sound stands bank pair is =
    (planned-market h S l t fills (t.left - done) session sound stands bank pair is.0, is.1, is.2)
ordered-market h S l t Fok (Ordered done rests fills) session sound stands bank pair is =
    (planned-market h S l t fills 0 session sound stands bank pair is.0, is.1, is.2)
ordered-market h S l t Fok Killed session sound stands bank pair is =
    (is.0, is.1, planned-market h S l t is.0 is.1 session sound stands bank pair is.2, is.3)
ordered-market h S l t life outcome session sound stands bank pair is = absurd is

pub order-answers : (l : FlatState) (bank : ℕ) (side : Side) (pair price lots : ℕ) (life : Life) (command : Command) (t : Taker) (outcome : Outcome) → command ≡ Order side pair price lots life → t ≡ taker_from l bank side pair price lots → IsCommandOf l bank command → OrderedIn l t life outcome → AnswersEach l bank command outcome
order-answers l bank side pair price lots life command t outcome command_is taker_is valid is h S session sound stands =
    let asked : IsCommand h bank (Order side pair price lots life) = subst (IsCommand h bank) command_is (sendable h S l bank command session sound stands valid) in
    subst (λ (c : Command). IsOutcome h S bank c outcome) (sym command_is)
    (ordered-market h S l (taker_of S bank side pair price lots) life outcome session sound stands
    asked.sends asked.values.0
    (subst (λ (u : Taker). OrderedIn l u life outcome) (taker_is ∙ taker-same S l bank side pair price lots stands.counts) is))

order-changed : (h : Header) (S : State) (old : FlatState) (bank : ℕ) (side : Side) (pair price lots : ℕ) (life : Life) (outcome : Outcome) → IsSession h → IsSound h S → StandsFor h S old → length old.credit.uses ≡ 4225 → bank < bank_count h → pair < pair_count h → lots ≤ 10 ^ 6 → IsOrdered h S (taker_of S bank side pair price lots) life outcome → (rests_of outcome ≤ 10 ^ 6) × StandsFor h (changed S bank (Order side pair price lots life) outcome) (order_carried old (taker_of S bank side pair price lots) (rests_of outcome) (fills_of outcome))
order-changed h S old bank side pair price lots Day (Ordered done rests fills) session sound stands full bank_in pair_in most is =
    (omega (arith, is.2), stands-ordered h S old (taker_of S bank side pair price lots) rests fills rests session sound stands full bank_in pair_in is.0)
order-changed h S old bank side pair price lots Ioc (Ordered done rests fills) session sound stands full bank_in pair_in most is =
    (omega (arith, is.2), stands-ordered h S old (taker_of S bank side pair price lots) rests fills (lots - done) session sound stands full bank_in pair_in is.0)
order-changed h S old bank side pair price lots Fok (Ordered done rests fills) session sound stands full bank_in pair_in most is =
    (omega (arith, is.2), stands-ordered h S old (taker_of S bank side pair price lots) rests fills 0 session sound stands full bank_in pair_in is.0)
order-changed h S old bank side pair price lots Fok Killed session sound stands full bank_in pair_in most is = (omega arith, stands)
order-changed h S old bank side pair price lots life outcome session sound stands full bank_in pair_in most is = absurd is

pub order-changes : (old new : FlatState) (bank : ℕ) (side : Side) (pair price lots : ℕ) (life : Life) (command : Command) (t : Taker) (outcome : Outcome) → length old.credit.uses ≡ 4225 → command ≡ Order side pair price lots life → t ≡ taker_from old bank side pair price lots → IsCommandOf old bank command → (rests_of outcome ≤ 10 ^ 6 → new ≡ order_carried old t (rests_of outcome) (fills_of outcome)) → ChangesEach old new bank command outcome
order-changes old new bank side pair price lots life command t outcome full command_is taker_is valid made h S session sound stands is =
    let asked : IsCommand h bank (Order side pair price lots life) = subst (IsCommand h bank) command_is (sendable h S old bank command session sound stands valid) in
    let T : Taker = taker_of S bank side pair price lots in
    let done = order-changed h S old bank side pair price lots life outcome session sound stands full
    asked.sends asked.values.0 asked.values.2.1
    (subst (λ (c : Command). IsOutcome h S bank c outcome) command_is is) in
    subst (λ (c : Command). StandsFor h (changed S bank c outcome) new) (sym command_is)
    (subst (StandsFor h (changed S bank (Order side pair price lots life) outcome))
    (ap (λ (u : Taker). order_carried old u (rests_of outcome) (fills_of outcome)) (sym (taker_is ∙ taker-same S old bank side pair price lots stands.counts)) ∙ sym (made done.0))
    done.1)

-- Cancels, reductions and pulls.

pub cancel-answers : (l : FlatState) (bank pair number : ℕ) (command : Command) (outcome : Outcome) → command ≡ Cancel pair number → outcome ≡ cancel_answer (find (λ o. is_order bank number o) (orders_in pair l.orders)) → AnswersEach l bank command outcome
cancel-answers l bank pair number command outcome command_is is h S session sound stands =
    subst (λ (c : Command). IsOutcome h S bank c outcome) (sym command_is)
    (is ∙ ap (λ (os : List ActiveOrder). cancel_answer (find (λ o. is_order bank number o) (orders_in pair os))) stands.orders)

pub reduce-answers : (l : FlatState) (bank pair number lots : ℕ) (command : Command) (outcome : Outcome) → command ≡ Reduce pair number lots → outcome ≡ reduce_answer lots (find (λ o. is_order bank number o) (orders_in pair l.orders)) → AnswersEach l bank command outcome
reduce-answers l bank pair number lots command outcome command_is is h S session sound stands =
    subst (λ (c : Command). IsOutcome h S bank c outcome) (sym command_is)
    (is ∙ ap (λ (os : List ActiveOrder). reduce_answer lots (find (λ o. is_order bank number o) (orders_in pair os))) stands.orders)

least_of : (n most : ℕ) → n ≤ most → min n most ≡ n
least_of n most within = omega arith

pub pull-answers : (l : FlatState) (bank pair count : ℕ) (command : Command) → command ≡ Pull pair → get_or l.counts bank 0 < 2 ^ 32 - 1 → count ≡ min (length (filter (λ order. eqb order.bank bank) (orders_in pair l.orders))) (2 ^ 32 - 1) → AnswersEach l bank command (Pulled count)
pull-answers l bank pair count command command_is below is h S session sound stands =
    let most : length (orders_by S pair bank) ≤ 2 ^ 32 - 1 =
    omega (arith, pulled-most h S pair bank sound, ap (λ (cs : List ℕ). get_or cs bank 0) stands.counts) in
    subst (λ (c : Command). IsOutcome h S bank c (Pulled count)) (sym command_is)
    (ap Pulled (is
    ∙ ap (λ (os : List ActiveOrder). min (length (filter (λ order. eqb order.bank bank) (orders_in pair os))) (2 ^ 32 - 1)) stands.orders
    ∙ least_of (length (orders_by S pair bank)) (2 ^ 32 - 1) most))

-- Credit changes.

-- the tables with the limit are those of the state with it,
tables-limited : (h : Header) (S : State) (weights : List ℕ) (credit : FlatCredit) (bank other limit : ℕ) → bank_count h ≤ 64 → length credit.limits ≡ 4225 → bank < bank_count h → other < bank_count h → TablesFor h S weights credit → TablesFor h (limited bank other limit S) weights (limited_in credit bank other limit)
tables-limited h S weights credit bank other limit few full bank_in other_in tables = record {
  banks = tables.banks;
  weighs = tables.weighs;
  limit = λ i j i_in j_in differ.
      limits-set credit.limits i j bank other limit full (omega (arith, i_in, few)) (omega (arith, j_in, few)) (omega (arith, bank_in, few)) (omega (arith, other_in, few))
      ∙ ap (cond (eqb i bank && eqb j other) limit) (tables.limit i j i_in j_in differ);
  uses = tables.uses;
  totals = tables.totals;
}

-- those with the total are those of the state with it,
tables-totalled : (h : Header) (S : State) (weights : List ℕ) (credit : FlatCredit) (bank most : ℕ) → bank_count h ≤ 64 → length credit.totals ≡ 65 → bank < bank_count h → TablesFor h S weights credit → TablesFor h (totalled bank most S) weights (totalled_in credit bank most)
tables-totalled h S weights credit bank most few full bank_in tables = record {
  banks = tables.banks;
  weighs = tables.weighs;
  limit = tables.limit;
  uses = tables.uses;
  totals = λ i i_in. totals-set credit.totals i bank most full (omega (arith, bank_in, few)) ∙ ap (cond (eqb i bank) (Some most)) (tables.totals i i_in);
}

used_less : (cost settled more given used : ℕ) → used ≡ cost - settled → more ≡ given → used - given ≡ cost - (settled + more)
used_less cost settled more given used is same = omega arith

used_still : (cost settled more used : ℕ) → used ≡ cost - settled → more ≡ 0 → used ≡ cost - (settled + more)
used_still cost settled more used is none = omega arith

settles_place : (i j : ℕ) (s : Settlement) → settles i j s ≡ true → use_place i j ≡ use_place s.a s.b
settles_place i j s is = elim (settles_cases i j s is) [
  | inl same ↦ places_same i j s.a s.b (sym same.0) (sym same.1)
  | inr same ↦ use_place-swap i j ∙ places_same j i s.a s.b (sym same.0) (sym same.1)
]

place_settles : (i j : ℕ) (s : Settlement) → i < 65 → j < 65 → s.a < 65 → s.b < 65 → use_place i j ≡ use_place s.a s.b → settles i j s ≡ true
place_settles i j s i_in j_in a_in b_in same = elim (use_place-same i j s.a s.b i_in j_in a_in b_in same) [
  | inl is ↦ or_left (eqb s.a i && eqb s.b j) (eqb s.a j && eqb s.b i)
      (and_from (eqb s.a i) (eqb s.b j) (eq-eqb s.a i (sym is.0)) (eq-eqb s.b j (sym is.1)))
  | inr is ↦ or_right (eqb s.a i && eqb s.b j) (eqb s.a j && eqb s.b i)
      (and_from (eqb s.a j) (eqb s.b i) (eq-eqb s.a j (sym is.1)) (eq-eqb s.b i (sym is.0)))
]

-- and those with units given back are those of the state with the settlement
tables-settled : (h : Header) (S : State) (weights : List ℕ) (credit : FlatCredit) (a b units : ℕ) → bank_count h ≤ 64 → length credit.uses ≡ 4225 → a < bank_count h → b < bank_count h → TablesFor h S weights credit → TablesFor h (settled a b units S) weights (settled_in credit a b units)
tables-settled h S weights credit a b units few full a_in b_in tables = record {
  banks = tables.banks;
  weighs = tables.weighs;
  limit = tables.limit;
  uses = λ i j i_in j_in differ.
      let s : Settlement = record { a = a; b = b; units = units } in
      let more = settled_between-append i j S.settlements (s ∷ []) in
      let all : used h S i j ≡ cost_between h i j S.fills - settled_between i j S.settlements = refl in
      elim (cases_Bool (settles i j s)) [
        | inl is ↦
            given_at credit.uses i j a b units full (omega (arith, a_in, few)) (omega (arith, b_in, few)) (settles_place i j s is)
            ∙ used_less (cost_between h i j S.fills) (settled_between i j S.settlements) (settled_between i j (s ∷ [])) units (use_in credit.uses i j)
            (tables.uses i j i_in j_in differ) (settled_between-one i j s is)
            ∙ ap (λ n. cost_between h i j S.fills - n) (sym more)
        | inr isnt ↦
            given_apart credit.uses i j a b units
            (λ same. both_ways (settles i j s) isnt (place_settles i j s (omega (arith, i_in, few)) (omega (arith, j_in, few)) (omega (arith, a_in, few)) (omega (arith, b_in, few)) same))
            ∙ used_still (cost_between h i j S.fills) (settled_between i j S.settlements) (settled_between i j (s ∷ [])) (use_in credit.uses i j)
            (tables.uses i j i_in j_in differ) (settled_between-other i j s isnt)
            ∙ ap (λ n. cost_between h i j S.fills - n) (sym more)
      ];
  totals = tables.totals;
}

-- the fills that are found over the changed tables are the market's in the changed state
made-market : (h : Header) (S T : State) (l : FlatState) (credit : FlatCredit) (fills : List Fill) → IsSession h → IsSound h T → StandsFor h S l → T.orders ≡ S.orders → length credit.uses ≡ 4225 → TablesFor h T l.weights credit → MadeIn l credit fills → Raised h T fills
made-market h S T l credit fills session sound stands orders full tables made =
    raised-market h (pair_count h) 0 l.orders T l.weights credit fills session (omega arith) sound full tables
    (λ pair _. ap (in_pair pair) (orders ∙ sym stands.orders))
    (subst (λ n. RaisedIn l.weights l.orders n 0 credit fills) (pairs_of h l stands.weights) made)

-- and once they are made the host stands for the state with them
stands-raised : (h : Header) (S T : State) (old : FlatState) (credit : FlatCredit) (fills : List Fill) → IsSession h → IsSound h T → StandsFor h S old → T.orders ≡ S.orders → T.counts ≡ S.counts → length credit.uses ≡ 4225 → TablesFor h T old.weights credit → Raised h T fills → StandsFor h (filled_all T fills) (raised_in old credit fills)
stands-raised h S T old credit fills session sound stands orders counts full tables raised =
    let made : TablesFor h (filled_all T fills) old.weights (credit_after old.weights credit fills) =
    tables-pairs h (pair_count h) 0 T old.weights credit fills session (omega arith) full sound tables raised in
    record {
      banks = made.banks;
      orders = ap (λ (os : List ActiveOrder). both_lowered os fills) (stands.orders ∙ sym orders) ∙ sym (orders-filled_all T fills);
      counts = stands.counts ∙ sym counts ∙ sym (counts-filled_all T fills);
      weights = stands.weights;
      limits = made.limit;
      uses = made.uses;
      totals = made.totals;
    }

-- Limits.

used_now : (h : Header) (S : State) (l : FlatState) (bank other asked : ℕ) → StandsFor h S l → IsCommand h bank (Line other asked) → max asked (use_in l.credit.uses bank other) ≡ limit_set h S bank other asked
used_now h S l bank other asked stands valid = ap (max asked) (stands.uses bank other valid.sends valid.values.0 (λ same. valid.values.1 (sym same)))

line-answered : (h : Header) (S : State) (l : FlatState) (bank other asked : ℕ) (outcome : Outcome) → IsSession h → IsSound h S → StandsFor h S l → IsCredit l.credit → IsCommand h bank (Line other asked) → LineSetIn l bank other asked outcome → IsOutcome h S bank (Line other asked) outcome
line-answered h S l bank other asked (LineSet limit fills) session sound stands credit valid is =
    let limit_is : limit ≡ limit_set h S bank other asked = is.0 ∙ used_now h S l bank other asked stands valid in (
      limit_is,
      made-market h S (limited bank other limit S) l (limited_in l.credit bank other limit) fills session
          (limited-sound h S bank other asked limit sound valid.sends valid.values.0 valid.values.1 valid.values.2 limit_is) stands refl credit.uses_full
          (tables-limited h S l.weights l.credit bank other limit session.banks_most credit.limits_full valid.sends valid.values.0 (tables_of h S l stands)) is.1,
    )
line-answered h S l bank other asked outcome session sound stands credit valid is = absurd is

pub line-answers : (l : FlatState) (bank other asked : ℕ) (command : Command) (outcome : Outcome) → IsCredit l.credit → command ≡ Line other asked → IsCommandOf l bank command → LineSetIn l bank other asked outcome → AnswersEach l bank command outcome
line-answers l bank other asked command outcome credit command_is valid is h S session sound stands =
    subst (λ (c : Command). IsOutcome h S bank c outcome) (sym command_is)
    (line-answered h S l bank other asked outcome session sound stands credit
    (subst (IsCommand h bank) command_is (sendable h S l bank command session sound stands valid)) is)

line-changed : (h : Header) (S : State) (old : FlatState) (bank other asked : ℕ) (outcome : Outcome) → IsSession h → IsSound h S → StandsFor h S old → IsCredit old.credit → IsCommand h bank (Line other asked) → IsOutcome h S bank (Line other asked) outcome → StandsFor h (changed S bank (Line other asked) outcome) (line_raised_in old bank other asked (fills_of outcome))
line-changed h S old bank other asked (LineSet limit fills) session sound stands credit valid is =
    let T : State = limited bank other limit S in
    subst (λ n. StandsFor h (filled_all T fills) (raised_in old (limited_in old.credit bank other n) fills)) (sym (used_now h S old bank other asked stands valid ∙ sym is.0))
    (stands-raised h S T old (limited_in old.credit bank other limit) fills session
    (limited-sound h S bank other asked limit sound valid.sends valid.values.0 valid.values.1 valid.values.2 is.0) stands refl refl credit.uses_full
    (tables-limited h S old.weights old.credit bank other limit session.banks_most credit.limits_full valid.sends valid.values.0 (tables_of h S old stands)) is.1)
line-changed h S old bank other asked outcome session sound stands credit valid is = absurd is

pub line-changes : (old new : FlatState) (bank other asked : ℕ) (command : Command) (outcome : Outcome) → IsCredit old.credit → command ≡ Line other asked → IsCommandOf old bank command → new ≡ line_raised_in old bank other asked (fills_of outcome) → ChangesEach old new bank command outcome
line-changes old new bank other asked command outcome credit command_is valid made h S session sound stands is =
    subst (λ (c : Command). StandsFor h (changed S bank c outcome) new) (sym command_is)
    (subst (StandsFor h (changed S bank (Line other asked) outcome)) (sym made)
    (line-changed h S old bank other asked outcome session sound stands credit
    (subst (IsCommand h bank) command_is (sendable h S old bank command session sound stands valid))
    (subst (λ (c : Command). IsOutcome h S bank c outcome) command_is is)))

-- Totals.

spent_now : (h : Header) (S : State) (l : FlatState) (bank asked : ℕ) → StandsFor h S l → bank < bank_count h → max asked (spent_in l.credit bank) ≡ total_set h S bank asked
spent_now h S l bank asked stands bank_in = ap (max asked) (spent-same h S l.weights l.credit bank (tables_of h S l stands) bank_in)

total-answered : (h : Header) (S : State) (l : FlatState) (bank asked : ℕ) (outcome : Outcome) → IsSession h → IsSound h S → StandsFor h S l → IsCredit l.credit → IsCommand h bank (Total asked) → TotalSetIn l bank asked outcome → IsOutcome h S bank (Total asked) outcome
total-answered h S l bank asked (TotalSet most fills) session sound stands credit valid is =
    let most_is : most ≡ total_set h S bank asked = is.0 ∙ spent_now h S l bank asked stands valid.sends.1 in (
      most_is,
      made-market h S (totalled bank most S) l (totalled_in l.credit bank most) fills session
          (totalled-sound h S bank asked most session sound valid.sends.0 valid.sends.1 valid.values most_is) stands refl credit.uses_full
          (tables-totalled h S l.weights l.credit bank most session.banks_most credit.totals_full valid.sends.1 (tables_of h S l stands)) is.1,
    )
total-answered h S l bank asked outcome session sound stands credit valid is = absurd is

pub total-answers : (l : FlatState) (bank asked : ℕ) (command : Command) (outcome : Outcome) → IsCredit l.credit → command ≡ Total asked → IsCommandOf l bank command → TotalSetIn l bank asked outcome → AnswersEach l bank command outcome
total-answers l bank asked command outcome credit command_is valid is h S session sound stands =
    subst (λ (c : Command). IsOutcome h S bank c outcome) (sym command_is)
    (total-answered h S l bank asked outcome session sound stands credit
    (subst (IsCommand h bank) command_is (sendable h S l bank command session sound stands valid)) is)

total-changed : (h : Header) (S : State) (old : FlatState) (bank asked : ℕ) (outcome : Outcome) → IsSession h → IsSound h S → StandsFor h S old → IsCredit old.credit → IsCommand h bank (Total asked) → IsOutcome h S bank (Total asked) outcome → StandsFor h (changed S bank (Total asked) outcome) (total_raised_in old bank asked (fills_of outcome))
total-changed h S old bank asked (TotalSet most fills) session sound stands credit valid is =
    let T : State = totalled bank most S in
    subst (λ n. StandsFor h (filled_all T fills) (raised_in old (totalled_in old.credit bank n) fills)) (sym (spent_now h S old bank asked stands valid.sends.1 ∙ sym is.0))
    (stands-raised h S T old (totalled_in old.credit bank most) fills session
    (totalled-sound h S bank asked most session sound valid.sends.0 valid.sends.1 valid.values is.0) stands refl refl credit.uses_full
    (tables-totalled h S old.weights old.credit bank most session.banks_most credit.totals_full valid.sends.1 (tables_of h S old stands)) is.1)
total-changed h S old bank asked outcome session sound stands credit valid is = absurd is

pub total-changes : (old new : FlatState) (bank asked : ℕ) (command : Command) (outcome : Outcome) → IsCredit old.credit → command ≡ Total asked → IsCommandOf old bank command → new ≡ total_raised_in old bank asked (fills_of outcome) → ChangesEach old new bank command outcome
total-changes old new bank asked command outcome credit command_is valid made h S session sound stands is =
    subst (λ (c : Command). StandsFor h (changed S bank c outcome) new) (sym command_is)
    (subst (StandsFor h (changed S bank (Total asked) outcome)) (sym made)
    (total-changed h S old bank asked outcome session sound stands credit
    (subst (IsCommand h bank) command_is (sendable h S old bank command session sound stands valid))
    (subst (λ (c : Command). IsOutcome h S bank c outcome) command_is is)))

-- Settlements.

given_now : (h : Header) (S : State) (l : FlatState) (sender a b asked : ℕ) → StandsFor h S l → IsCommand h sender (Settle a b asked) → min asked (use_in l.credit.uses a b) ≡ given_back h S a b asked
given_now h S l sender a b asked stands valid = ap (min asked) (stands.uses a b valid.values.0 valid.values.1 valid.values.2)

settle-answered : (h : Header) (S : State) (l : FlatState) (sender a b asked : ℕ) (outcome : Outcome) → IsSession h → IsSound h S → StandsFor h S l → IsCredit l.credit → IsCommand h sender (Settle a b asked) → SettledIn l a b asked outcome → IsOutcome h S sender (Settle a b asked) outcome
settle-answered h S l sender a b asked (Settled given fills) session sound stands credit valid is =
    let given_is : given ≡ given_back h S a b asked = is.0 ∙ given_now h S l sender a b asked stands valid in (
      given_is,
      made-market h S (settled a b given S) l (settled_in l.credit a b given) fills session
          (settled-sound h S a b asked given sound valid.sends.0 given_is) stands refl
          (length-set l.credit.uses (use_place a b) (use_in l.credit.uses a b - given) ∙ credit.uses_full)
          (tables-settled h S l.weights l.credit a b given session.banks_most credit.uses_full valid.values.0 valid.values.1 (tables_of h S l stands)) is.1,
    )
settle-answered h S l sender a b asked outcome session sound stands credit valid is = absurd is

pub settle-answers : (l : FlatState) (sender a b asked : ℕ) (command : Command) (outcome : Outcome) → IsCredit l.credit → command ≡ Settle a b asked → IsCommandOf l sender command → SettledIn l a b asked outcome → AnswersEach l sender command outcome
settle-answers l sender a b asked command outcome credit command_is valid is h S session sound stands =
    subst (λ (c : Command). IsOutcome h S sender c outcome) (sym command_is)
    (settle-answered h S l sender a b asked outcome session sound stands credit
    (subst (IsCommand h sender) command_is (sendable h S l sender command session sound stands valid)) is)

settle-changed : (h : Header) (S : State) (old : FlatState) (sender a b asked : ℕ) (outcome : Outcome) → IsSession h → IsSound h S → StandsFor h S old → IsCredit old.credit → IsCommand h sender (Settle a b asked) → IsOutcome h S sender (Settle a b asked) outcome → StandsFor h (changed S sender (Settle a b asked) outcome) (settled_raised_in old a b asked (fills_of outcome))
settle-changed h S old sender a b asked (Settled given fills) session sound stands credit valid is =
    let T : State = settled a b given S in
    subst (λ n. StandsFor h (filled_all T fills) (raised_in old (settled_in old.credit a b n) fills)) (sym (given_now h S old sender a b asked stands valid ∙ sym is.0))
    (stands-raised h S T old (settled_in old.credit a b given) fills session
    (settled-sound h S a b asked given sound valid.sends.0 is.0) stands refl refl
    (length-set old.credit.uses (use_place a b) (use_in old.credit.uses a b - given) ∙ credit.uses_full)
    (tables-settled h S old.weights old.credit a b given session.banks_most credit.uses_full valid.values.0 valid.values.1 (tables_of h S old stands)) is.1)
settle-changed h S old sender a b asked outcome session sound stands credit valid is = absurd is

pub settle-changes : (old new : FlatState) (sender a b asked : ℕ) (command : Command) (outcome : Outcome) → IsCredit old.credit → command ≡ Settle a b asked → IsCommandOf old sender command → new ≡ settled_raised_in old a b asked (fills_of outcome) → ChangesEach old new sender command outcome
settle-changes old new sender a b asked command outcome credit command_is valid made h S session sound stands is =
    subst (λ (c : Command). StandsFor h (changed S sender c outcome) new) (sym command_is)
    (subst (StandsFor h (changed S sender (Settle a b asked) outcome)) (sym made)
    (settle-changed h S old sender a b asked outcome session sound stands credit
    (subst (IsCommand h sender) command_is (sendable h S old sender command session sound stands valid))
    (subst (λ (c : Command). IsOutcome h S sender c outcome) command_is is)))

-- Shows, local books, and lines that could not be read.

shown_same : (a b c a' b' c' : ℕ) → a ≡ a' → b ≡ b' → c ≡ c' → Shown a b c ≡ Shown a' b' c'
shown_same a b c a' b' c' p q r = cc

pub show-answers : (l : FlatState) (bank other : ℕ) (command : Command) (outcome : Outcome) → command ≡ Show other → IsCommandOf l bank command → outcome ≡ shown_in l bank other → AnswersEach l bank command outcome
show-answers l bank other command outcome command_is valid is h S session sound stands =
    let asked : IsCommand h bank (Show other) =
    subst (IsCommand h bank) command_is (sendable h S l bank command session sound stands valid) in
    let bank_in : bank < bank_count h = asked.sends in
    let differ : bank ≢ other = λ same. asked.values.1 (sym same) in
    subst (λ (c : Command). IsOutcome h S bank c outcome) (sym command_is)
    (is ∙ shown_same (limit_in l.credit.limits bank other) (use_in l.credit.uses bank other) (line_in l.credit bank other) (S.limits bank other) (used h S bank other) (line h S bank other)
    (stands.limits bank other bank_in asked.values.0 differ) (stands.uses bank other bank_in asked.values.0 differ)
    (line-same h S l.weights l.credit bank other (tables_of h S l stands) bank_in asked.values.0 differ))

pub shows : (l : FlatState) (bank pair : ℕ) (bids asks : List Level) → bank < l.credit.banks → pair < length l.weights → ProbedIn l bank pair Sell bids → ProbedIn l bank pair Buy asks → ShowsEach l bank pair (Depth bids asks)
shows l bank pair bids asks sender pair_in sells buys h S session sound stands =
    let bank_within' : bank < bank_count h = omega (arith, stands.banks, sender) in
    let pair_within' = pair_within h S l pair stands pair_in in record {
      sells = shows-probed h S l bank pair Sell bids session sound stands bank_within' pair_within' sells;
      buys = shows-probed h S l bank pair Buy asks session sound stands bank_within' pair_within' buys;
    }

book-answered : (l : FlatState) (bank pair : ℕ) (outcome : Outcome) → ShowsEach l bank pair outcome → AnswersEach l bank (Book pair) outcome
book-answered l bank pair (Depth bids asks) is h S session sound stands = is h S session sound stands
book-answered l bank pair outcome is h S session sound stands = absurd is

pub book-answers : (l : FlatState) (bank pair : ℕ) (command : Command) (outcome : Outcome) → command ≡ Book pair → ShowsEach l bank pair outcome → AnswersEach l bank command outcome
book-answers l bank pair command outcome command_is is =
    subst (λ (c : Command). AnswersEach l bank c outcome) (sym command_is) (book-answered l bank pair outcome is)

pub bad-answers : (l : FlatState) (bank : ℕ) (reason : Reject) (command : Command) → command ≡ Bad reason → AnswersEach l bank command (Rejected reason)
bad-answers l bank reason command command_is h S session sound stands =
    subst (λ (c : Command). IsOutcome h S bank c (Rejected reason)) (sym command_is) refl

-- The count, and both together.

pub steps-each : (old new : FlatState) (bank : ℕ) (command : Command) (outcome : Outcome) → AnswersEach old bank command outcome → FollowsEach old new bank command outcome → StepsEach old new bank command outcome
steps-each old new bank command outcome answers follows h S session sound stands =
    let is : IsOutcome h S bank command outcome = answers h S session sound stands in
    (is, follows h S session sound stands is)
