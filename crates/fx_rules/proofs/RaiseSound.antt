-- A credit change keeps a state sound: a limit falls to no less than what is used, a total to no less than what is spent, no more
-- than what is used is given back, and each turn is a sweep.
use Rattle.std.proofs.Common.{ℕ, zero, suc, ◌≡◌, ◌≢◌, ◌+◌, ◌*◌, ◌^◌, ◌≤◌, ◌<◌, Bool, true, ◌&&◌, eqb, List, [], ◌∷◌, ◌++◌, ◌⊎◌, inl, inr, refl, ap, sym, subst, ◌∙◌, arith, Option, Some, None, MatchOption, find}
use Rattle.std.proofs.lemmas.Bool.{cases_Bool, cases_eq, cond_both, cond-true, cond-false, and_parts, eqb-true, eq-eqb, ne_eqb}
use Rattle.fx_amounts.specs.Quantity.{IsUnits}
use Rattle.fx_rules.specs.declared.orders.ActiveOrder.{ActiveOrder}
use Rattle.fx_rules.specs.declared.orders.Resting.{Resting}
use Rattle.fx_rules.specs.declared.orders.Fill.{Fill}
use Rattle.fx_rules.specs.Lists.{Among}
use Rattle.fx_rules.specs.Session.{Header, IsSession, bank_count, pair_count, weight_of}
use Rattle.fx_rules.specs.State.{State, Settlement, used, spent, others, settles, settled_between, orders_in}
use Rattle.fx_rules.specs.Sweep.{Taker, Swept, is_order, filled_all}
use Rattle.fx_rules.specs.Raise.{limit_set, limited, total_set, totalled, given_back, settled, order_of, taker_of_resting, Turned, PairsTurned, Raised}
use Rattle.fx_rules.specs.Sound.{IsSound, IsKept}
use Rattle.fx_rules.proofs.ListLemmas.{Each-among}
use Rattle.fx_rules.proofs.Totals.{total_rises, total_others-most}
use Rattle.fx_rules.proofs.Credit.{used-swap, settled_between-append, settled_between-one, settled_between-other, settles_cases}
use Rattle.fx_rules.proofs.Opens.{orders_in-among}
use Rattle.fx_rules.proofs.SweepSound.{swept-sound, filled_all-append, weight_of-least}

-- what is found is one of the items, and passes
pub find-says : {X : Type 0} (test : X → Bool) (xs : List X) (x : X) → find test xs ≡ Some x → Among x xs × (test x ≡ true)
find-says test [] x found = cc
find-says {X = X} test (y ∷ xs) x found =
    cond_both (test y) (Some y) (find test xs) (λ (o : Option X). o ≡ Some x → Among x (y ∷ xs) × (test x ≡ true))
    (λ passes is. let same : y ≡ x = cc in (inl (sym same), ap test (sym same) ∙ passes))
    (λ _ is. let later = find-says test xs x is in (inr later.0, later.1))
    found

pub match_cases : {X : Type 0} (o : Option X) (P : Type 0) (Q : X → Type 0) → MatchOption o P Q → ((o ≡ None) × P) ⊎ ((x : X) × (o ≡ Some x) × Q x)
match_cases None P Q holds = inl (refl, holds)
match_cases (Some x) P Q holds = inr (x, refl, holds)

-- what is known of an order whose turn comes: it rests in the pair, and is of the bank and the number
pub record IsTurn (h : Header) (S : State) (pair bank number : ℕ) (now : Resting) : Type 0 where
  pub among : Among now (orders_in pair S.orders)
  pub owner : now.bank ≡ bank
  pub command : now.number ≡ number
  pub active : ActiveOrder
  pub rests : Among active S.orders
  pub of_pair : active.pair ≡ pair
  pub order : now ≡ active.order
  pub kept : IsKept h S.counts active

pub turn_of : (h : Header) (S : State) (pair bank number : ℕ) (now : Resting) → IsSound h S → order_of S pair bank number ≡ Some now → IsTurn h S pair bank number now
turn_of h S pair bank number now sound found =
    let says = find-says (λ (o : Resting). is_order bank number o) (orders_in pair S.orders) now found in
    let both = and_parts (eqb now.bank bank) (eqb now.number number) says.1 in
    let stands = orders_in-among pair S.orders now says.0 in
    record {
      among = says.0;
      owner = eqb-true now.bank bank both.0;
      command = eqb-true now.number number both.1;
      active = stands.0;
      rests = stands.1;
      of_pair = stands.2;
      order = stands.3;
      kept = Each-among (IsKept h S.counts) S.orders stands.0 sound.kept stands.1;
    }

pub turn-sender : (h : Header) (S : State) (pair bank number : ℕ) (now : Resting) → IsTurn h S pair bank number now → now.bank < bank_count h
turn-sender h S pair bank number now turn =
    let owner : now.bank ≡ turn.active.order.bank = ap (λ (o : Resting). o.bank) turn.order in
    omega (arith, turn.kept.bank)

-- What holds of no fills and of the fills of each turn, and of two lists of fills together where it holds of each, the second
-- in the state that the first leaves, holds of the fills of orders that are swept in turn.
module _ (h : Header) (pair : ℕ) (P : State → List Fill → Type 0) (none : (S : State) → IsSound h S → P S []) (join : (S : State) (own more : List Fill) → P S own → P (filled_all S own) more → P S (own ++ more)) (one : (S : State) (bank number : ℕ) (now : Resting) (fills : List Fill) (left : ℕ) → IsSound h S → IsTurn h S pair bank number now → 0 < weight_of h pair → Swept h S (taker_of_resting pair now) fills left → P S fills) where
  pub turns-walk : (S : State) (orders : List Resting) (fills : List Fill) → 0 < weight_of h pair → IsSound h S → Turned h pair S orders fills → P S fills
  turns-walk S [] fills some sound turned = subst (P S) (sym turned) (none S sound)
  turns-walk S (order ∷ orders) fills some sound turned =
      elim (match_cases (order_of S pair order.bank order.number) (Turned h pair S orders fills)
      (λ now. (own more : List Fill) × (left : ℕ) × Swept h S (taker_of_resting pair now) own left × (fills ≡ own ++ more) × Turned h pair (filled_all S own) orders more)
      turned) [
        | inl gone ↦ turns-walk S orders fills some sound gone.1
        | inr here ↦
            let now : Resting = here.0 in
            let own : List Fill = here.2.0 in
            let more : List Fill = here.2.1 in
            let turn : IsTurn h S pair order.bank order.number now = turn_of h S pair order.bank order.number now sound here.1 in
            let sender = turn-sender h S pair order.bank order.number now turn in
            let next : IsSound h (filled_all S own) = (swept-sound h S (taker_of_resting pair now) own here.2.2 sound sender some here.2.3).0 in
            subst (P S) (sym here.2.4)
            (join S own more (one S order.bank order.number now own here.2.2 sound turn some here.2.3)
            (turns-walk (filled_all S own) orders more some next here.2.5))
      ]

-- The like of what holds of the fills of each sweep.
module _ (h : Header) (P : State → List Fill → Type 0) (none : (S : State) → IsSound h S → P S []) (join : (S : State) (own more : List Fill) → P S own → P (filled_all S own) more → P S (own ++ more)) (one : (S : State) (t : Taker) (fills : List Fill) (left : ℕ) → IsSound h S → t.bank < bank_count h → 0 < weight_of h t.pair → Swept h S t fills left → P S fills) where
  pub turned-walk : (pair : ℕ) (S : State) (orders : List Resting) (fills : List Fill) → 0 < weight_of h pair → IsSound h S → Turned h pair S orders fills → P S fills
  turned-walk pair =
      turns-walk h pair P none join
      (λ S bank number now fills left sound turn some swept.
      one S (taker_of_resting pair now) fills left sound (turn-sender h S pair bank number now turn) some swept)

sound_joined : (h : Header) (S : State) (own more : List Fill) → IsSound h (filled_all (filled_all S own) more) → IsSound h (filled_all S (own ++ more))
sound_joined h S own more sound = subst (IsSound h) (sym (filled_all-append S own more)) sound

pub turned-sound : (h : Header) (pair : ℕ) (S : State) (orders : List Resting) (fills : List Fill) → 0 < weight_of h pair → IsSound h S → Turned h pair S orders fills → IsSound h (filled_all S fills)
turned-sound h =
    turned-walk h (λ S fills. IsSound h (filled_all S fills)) (λ S sound. sound) (λ S own more _. sound_joined h S own more)
    (λ S t fills left sound sender some swept. (swept-sound h S t fills left sound sender some swept).0)

-- the same of the fills of pairs that are gone through
module _ (h : Header) (P : State → List Fill → Type 0) (none : (S : State) → IsSound h S → P S []) (join : (S : State) (own more : List Fill) → P S own → P (filled_all S own) more → P S (own ++ more)) (one : (S : State) (t : Taker) (fills : List Fill) (left : ℕ) → IsSound h S → t.bank < bank_count h → 0 < weight_of h t.pair → Swept h S t fills left → P S fills) where
  pub pairs-walk : (pairs pair : ℕ) (S : State) (fills : List Fill) → IsSession h → pair + pairs ≤ pair_count h → IsSound h S → PairsTurned h pairs pair S fills → P S fills
  pairs-walk zero pair S fills session within sound turned = subst (P S) (sym turned) (none S sound)
  pairs-walk (suc pairs) pair S fills session within sound turned =
      let own : List Fill = turned.0 in
      let more : List Fill = turned.1 in
      let some : 0 < weight_of h pair = weight_of-least h pair session (omega arith) in
      let next : IsSound h (filled_all S own) = turned-sound h pair S (orders_in pair S.orders) own some sound turned.2 in
      subst (P S) (sym turned.3)
      (join S own more (turned-walk h P none join one pair S (orders_in pair S.orders) own some sound turned.2)
      (pairs-walk pairs (pair + 1) (filled_all S own) more session (omega arith) next turned.4))

pub pairs_turned-sound : (h : Header) (pairs pair : ℕ) (S : State) (fills : List Fill) → IsSession h → pair + pairs ≤ pair_count h → IsSound h S → PairsTurned h pairs pair S fills → IsSound h (filled_all S fills)
pairs_turned-sound h =
    pairs-walk h (λ S fills. IsSound h (filled_all S fills)) (λ S sound. sound) (λ S own more _. sound_joined h S own more)
    (λ S t fills left sound sender some swept. (swept-sound h S t fills left sound sender some swept).0)

-- what is used is in range
used_most : (h : Header) (S : State) (i j : ℕ) → IsSound h S → i < bank_count h → j < bank_count h → i ≢ j → IsUnits (used h S i j)
used_most h S i j sound i_in j_in differ = omega (arith, sound.within.lines i j i_in j_in differ, sound.limits i j i_in j_in differ)

-- the limits of a state in which a bank set one
limit_cases : (h : Header) (S : State) (bank other limit i j : ℕ) (P : ℕ → ℕ → ℕ → Type 0) → P bank other limit → P i j (S.limits i j) → P i j ((limited bank other limit S).limits i j)
limit_cases h S bank other limit i j P here there =
    cond_both (eqb i bank && eqb j other) limit (S.limits i j) (P i j)
    (λ same. let both = and_parts (eqb i bank) (eqb j other) same in
    subst (λ a. P a j limit) (sym (eqb-true i bank both.0)) (subst (λ b. P bank b limit) (sym (eqb-true j other both.1)) here))
    (λ _. there)

-- A limit may be set to what is asked or what is used, whichever is more.
pub limited-sound : (h : Header) (S : State) (bank other asked limit : ℕ) → IsSound h S → bank < bank_count h → other < bank_count h → other ≢ bank → IsUnits asked → limit ≡ limit_set h S bank other asked → IsSound h (limited bank other limit S)
limited-sound h S bank other asked limit sound sender other_in differ most is_limit = record {
  counts = sound.counts;
  kept = sound.kept;
  rising = sound.rising;
  within = record {
    lines = λ i j i_in j_in apart. limit_cases h S bank other limit i j (λ a b l. used h S a b ≤ l)
        (omega (arith, is_limit)) (sound.within.lines i j i_in j_in apart);
    totals = sound.within.totals;
  };
  limits = λ i j i_in j_in apart. limit_cases h S bank other limit i j (λ _ _ l. IsUnits l)
      (omega (arith, is_limit, most, used_most h S bank other sound sender other_in (λ same. differ (sym same)))) (sound.limits i j i_in j_in apart);
  totals = sound.totals;
  covered = sound.covered;
  version_least = sound.version_least;
  version_most = sound.version_most;
  plain = λ first. let plain = sound.plain first in record { totals = plain.totals; settlements = plain.settlements };
}

-- what a bank has spent is at most the sum of its largest limits
spent_most : (h : Header) (S : State) (i : ℕ) → IsSession h → IsSound h S → i < bank_count h → spent h S i ≤ 64 * 10 ^ 15
spent_most h S i session sound i_in =
    omega (
      arith,
      session.banks_most,
      total_others-most h i 1000000000000000 (used h S i)
          (λ k k_in differ. used_most h S i k sound i_in k_in (λ same. differ (sym same))),
    )

some_same : (a b : ℕ) → Some a ≡ Some b → a ≡ b
some_same a b same = cc

-- the totals of a state in which a bank set one
total_cases : (S : State) (bank most i total : ℕ) (P : ℕ → ℕ → Type 0) → P bank most → (S.totals i ≡ Some total → P i total) → (totalled bank most S).totals i ≡ Some total → P i total
total_cases S bank most i total P here there has =
    elim (cases_eq i bank) [
      | inl own ↦
          let same : most ≡ total = some_same most total (sym (cond-true (eqb i bank) (Some most) (S.totals i) (eq-eqb i bank own)) ∙ has) in
          subst (λ k. P k total) (sym own) (subst (P bank) same here)
      | inr other ↦ there (sym (cond-false (eqb i bank) (Some most) (S.totals i) (ne_eqb i bank other)) ∙ has)
    ]

-- A total may be set to what is asked or what is spent, whichever is more.
pub totalled-sound : (h : Header) (S : State) (bank asked most : ℕ) → IsSession h → IsSound h S → h.version ≡ 2 → bank < bank_count h → IsUnits asked → most ≡ total_set h S bank asked → IsSound h (totalled bank most S)
totalled-sound h S bank asked most session sound second sender units is_total = record {
  counts = sound.counts;
  kept = sound.kept;
  rising = sound.rising;
  within = record {
    lines = sound.within.lines;
    totals = λ i total i_in has. total_cases S bank most i total (λ k m. spent h S k ≤ m)
        (omega (arith, is_total)) (sound.within.totals i total i_in) has;
  };
  limits = sound.limits;
  totals = λ i total i_in has. total_cases S bank most i total (λ _ m. m ≤ 64 * 10 ^ 15)
      (omega (arith, is_total, units, spent_most h S bank session sound sender)) (sound.totals i total i_in) has;
  covered = sound.covered;
  version_least = sound.version_least;
  version_most = sound.version_most;
  plain = λ first. absurd (omega (arith, first, second));
}

-- more that is given back leaves less used
settled_more : (S : State) (a b units i j : ℕ) → settled_between i j (settled a b units S).settlements ≡ settled_between i j S.settlements + settled_between i j (record { a = a; b = b; units = units } ∷ [])
settled_more S a b units i j = settled_between-append i j S.settlements (record { a = a; b = b; units = units } ∷ [])

settled_less : (h : Header) (S : State) (a b units i j : ℕ) → used h (settled a b units S) i j ≤ used h S i j
settled_less h S a b units i j = omega (arith, settled_more S a b units i j)

-- what is given back between two banks is at most what they have used
pub given_within : (h : Header) (S : State) (a b units i j : ℕ) → units ≤ used h S a b → settled_between i j (record { a = a; b = b; units = units } ∷ []) ≤ used h S i j
given_within h S a b units i j within =
    let s : Settlement = record { a = a; b = b; units = units } in
    elim (cases_Bool (settles i j s)) [
      | inl is ↦
          let has : units ≤ used h S i j = elim (settles_cases i j s is) [
            | inl same ↦ subst (λ k. units ≤ used h S k j) same.0 (subst (λ k. units ≤ used h S a k) same.1 within)
            | inr same ↦ omega (arith, used-swap h S j i, subst (λ k. units ≤ used h S k i) same.0 (subst (λ k. units ≤ used h S a k) same.1 within))
          ] in
          omega (arith, has, settled_between-one i j s is)
      | inr isnt ↦ omega (arith, settled_between-other i j s isnt)
    ]

-- No more may be given back between two banks than they have used.
pub settled-sound : (h : Header) (S : State) (a b asked given : ℕ) → IsSound h S → h.version ≡ 2 → given ≡ given_back h S a b asked → IsSound h (settled a b given S)
settled-sound h S a b asked given sound second is_given = record {
  counts = sound.counts;
  kept = sound.kept;
  rising = sound.rising;
  within = record {
    lines = λ i j i_in j_in apart. omega (arith, settled_less h S a b given i j, sound.within.lines i j i_in j_in apart);
    totals = λ i most i_in has. omega (
      arith,
      total_rises (used h (settled a b given S) i) (used h S i) (others h i) (settled_less h S a b given i),
      sound.within.totals i most i_in has,
    );
  };
  limits = sound.limits;
  totals = sound.totals;
  covered = λ i j. omega (arith, settled_more S a b given i j, given_within h S a b given i j (omega (arith, is_given)), sound.covered i j);
  version_least = sound.version_least;
  version_most = sound.version_most;
  plain = λ first. absurd (omega (arith, first, second));
}

pub raised-sound : (h : Header) (S : State) (fills : List Fill) → IsSession h → IsSound h S → Raised h S fills → IsSound h (filled_all S fills)
raised-sound h S fills session sound raised = pairs_turned-sound h (pair_count h) 0 S fills session (omega arith) sound raised
