-- Credit and states of the market: that the credit of a state stays that of the next one.
use Rattle.std.proofs.Common.{ℕ, ◌≡◌, ◌≢◌, ◌+◌, ◌-◌, ◌*◌, ◌<◌, Some, true, ◌&&◌, cond, eqb, List, length, [], ◌∷◌, inl, inr, refl, ap, sym, subst, ◌∙◌, arith}
use Rattle.std.specs.Option.{option_map}
use Rattle.std.proofs.lemmas.Bool.{cases_Bool, cases_eq, and_parts, cond-true, cond-false, eq-eqb, ne_eqb, eqb-true, false≢true}
use Rattle.std.proofs.lemmas.Bool.Decides.{nat_tests}
use Rattle.fx_rules.specs.declared.orders.Fill.{Fill}
use Rattle.fx_rules.specs.Lists.{total}
use Rattle.fx_rules.specs.Session.{Header, bank_count}
use Rattle.fx_rules.specs.State.{State, Settlement, opening, is_between, cost, cost_between, settles, settled_between, used, spent, headroom, at_most, left_of_limits, line}
use Rattle.fx_rules.specs.Sound.{IsCovered}
use Rattle.fx_rules.specs.Sweep.{filled}
use Rattle.fx_rules.specs.Raise as raise
use Rattle.fx_rules.proofs.Falling.{Terms, terms}
use Rattle.fx_rules.proofs.Credit.{used-filled, cost_between-one, cost_between-other, between_cases, is_between-swap, settles_cases, settled_between-append, settled_between-one, settled_between-other}
use Rattle.credit_lines.specs.Credit.{Credit, shared_place, limit_in, used_in, total_in, spent_in, room_in, left_in, line_in, others_of, opened, given_back, limited, totalled, IsCredit}
use Rattle.credit_lines.specs.Market.{StandsFor, taken_by}
use Rattle.credit_lines.specs.inside.Market.{IsBetweenBanks}
use Rattle.credit_lines.proofs.Sums.{others-agree}
use Rattle.credit_lines.proofs.CreditLemmas.{same_two, same_banks, used_in-swap, used_in-here, used_in-back, used_in-other, limit_in-limited_same, limit_in-limited_other, total_in-totalled_same, total_in-totalled_other}
use Rattle.credit_lines.proofs.OpeningLemmas.{used_in-opened, total_in-opened}

pub StandsFor-opened : (h : Header) → StandsFor h (opening h) (opened h)
StandsFor-opened h = record {
  banks = refl;
  limits = λ i j p q differ. refl;
  uses = λ i j p q differ. used_in-opened h i j p q;
  totals = λ i p. total_in-opened h i p;
}

-- use is of fills and settlements alone
used_same : (h : Header) (S T : State) (i j : ℕ) → terms T ≡ terms S → T.fills ≡ S.fills → used h S i j ≡ used h T i j
used_same h S T i j same fills =
    ap (λ (fs : List Fill). cost_between h i j fs - settled_between i j S.settlements) (sym fills)
    ∙ ap (λ (t : Terms). cost_between h i j T.fills - settled_between i j t.2) (sym same)

-- orders and counts have nothing to do with credit
pub StandsFor-same : (h : Header) (S T : State) (c : Credit) → terms T ≡ terms S → T.fills ≡ S.fills → StandsFor h S c → StandsFor h T c
StandsFor-same h S T c same fills stands = record {
  banks = stands.banks;
  limits = λ i j p q differ. stands.limits i j p q differ ∙ sym (ap (λ (t : Terms). t.0 i j) same);
  uses = λ i j p q differ. stands.uses i j p q differ ∙ used_same h S T i j same fills;
  totals = λ i p. stands.totals i p ∙ sym (ap (λ (t : Terms). t.1 i) same);
}

-- the reading calls give what the market has: what a bank has spent, what its total leaves, the line and the reach
pub spent_in-spent : (h : Header) (S : State) (c : Credit) (i : ℕ) → StandsFor h S c → i < bank_count h → spent_in c i ≡ spent h S i
spent_in-spent h S c i stands p =
    others-agree (used_in c i) (used h S i) c.banks i (λ k k_in apart. stands.uses i k p (omega (arith, k_in, stands.banks)) (λ same. apart (sym same)))
    ∙ ap (λ n. total (used h S i) (others_of n i)) stands.banks

pub room_in-headroom : (h : Header) (S : State) (c : Credit) (i : ℕ) → StandsFor h S c → i < bank_count h → room_in c i ≡ headroom h S i
room_in-headroom h S c i stands p =
    ap (λ n. option_map (λ most. most - n) (total_in c i)) (spent_in-spent h S c i stands p)
    ∙ ap (option_map (λ most. most - spent h S i)) (stands.totals i p)

pub line_in-line : (h : Header) (S : State) (c : Credit) (i j : ℕ) → StandsFor h S c → i < bank_count h → j < bank_count h → i ≢ j → line_in c i j ≡ line h S i j
line_in-line h S c i j stands p q differ =
    let here : limit_in c i j ≡ S.limits i j = stands.limits i j p q differ in
    let there : limit_in c j i ≡ S.limits j i = stands.limits j i q p (λ same. differ (sym same)) in
    let both : used_in c i j ≡ used h S i j = stands.uses i j p q differ in
    let left : left_in c i j ≡ left_of_limits h S i j = omega arith in
    ap (λ o. at_most o (at_most (room_in c j) (left_in c i j))) (room_in-headroom h S c i stands p)
    ∙ ap (λ o. at_most (headroom h S i) (at_most o (left_in c i j))) (room_in-headroom h S c j stands q)
    ∙ ap (λ n. at_most (headroom h S i) (at_most (headroom h S j) n)) left

is_between_banks : (i j : ℕ) (f : Fill) → f.taker ≡ i → f.maker ≡ j → is_between i j f ≡ true
is_between_banks i j f first second = grind (arith, nat_tests)

-- a fill uses the credit between its two banks alone
used_in-taken_by : (h : Header) (c : Credit) (f : Fill) (i j : ℕ) → length c.uses ≡ c.banks * c.banks → c.banks ≡ bank_count h → IsBetweenBanks h f → i < bank_count h → j < bank_count h
    → used_in (taken_by h c f) i j ≡ used_in c i j + cost_between h i j (f ∷ [])
used_in-taken_by h c f i j full banks between p q =
    let taker : f.taker < c.banks = omega (arith, between.taker) in
    let maker : f.maker < c.banks = omega (arith, between.maker) in
    elim (cases_Bool (is_between i j f)) [
      | inl is ↦
          let P : ℕ → ℕ → Type 0 = λ x y. used_in (taken_by h c f) x y ≡ used_in c x y + cost h f in
          let here : P f.taker f.maker = used_in-here c f.taker f.maker (used_in c f.taker f.maker + cost h f) full taker maker in
          let back : P f.maker f.taker = used_in-back c f.taker f.maker (used_in c f.taker f.maker + cost h f) full taker maker ∙ ap (λ u. u + cost h f) (used_in-swap c f.taker f.maker) in
          let there : P i j =
          elim (between_cases i j f is) [
            | inl same ↦ subst (λ x. P x j) same.0 (subst (P f.taker) same.1 here)
            | inr turned ↦ subst (λ x. P x j) turned.1 (subst (P f.maker) turned.0 back)
          ] in
          there ∙ ap (λ u. used_in c i j + u) (sym (cost_between-one h i j f is))
      | inr other ↦
          let none : cost_between h i j (f ∷ []) ≡ 0 = cost_between-other h i j f other in
          let apart : shared_place c.banks i j ≢ shared_place c.banks f.taker f.maker = λ same.
          elim (same_two c.banks f.taker f.maker i j taker maker (omega arith) (omega arith) same) [
            | inl named ↦ false≢true (sym other ∙ is_between_banks i j f (sym named.0) (sym named.1))
            | inr turned ↦ false≢true (sym other ∙ is_between-swap i j f ∙ is_between_banks j i f (sym turned.1) (sym turned.0))
          ] in
          let same : used_in (taken_by h c f) i j ≡ used_in c i j = used_in-other c f.taker f.maker (used_in c f.taker f.maker + cost h f) i j apart in
          omega arith
    ]

-- A fill: the credit of the state, with the fill's cost used between its two banks, is that of the state with the fill.
pub StandsFor-taken_by : (h : Header) (S : State) (c : Credit) (f : Fill) → length c.uses ≡ c.banks * c.banks → IsCovered h S → IsBetweenBanks h f → StandsFor h S c → StandsFor h (filled S f) (taken_by h c f)
StandsFor-taken_by h S c f full covered between stands = record {
  banks = stands.banks;
  limits = stands.limits;
  uses = λ i j p q differ.
      used_in-taken_by h c f i j full stands.banks between p q
      ∙ ap (λ u. u + cost_between h i j (f ∷ [])) (stands.uses i j p q differ) ∙ sym (used-filled h S f i j covered);
  totals = stands.totals;
}

-- the limit as it was set, and another as it was
limit_set-same : (S : State) (i j limit : ℕ) → (raise.limited i j limit S).limits i j ≡ limit
limit_set-same S i j limit =
    let both : (eqb i i && eqb j j) ≡ true = grind (arith, nat_tests) in ap (λ b. cond b limit (S.limits i j)) both

limit_set-other : (S : State) (i j limit a b : ℕ) → (a ≡ i → b ≡ j → ⊥) → (raise.limited i j limit S).limits a b ≡ S.limits a b
limit_set-other S i j limit a b differ =
    elim (cases_Bool (eqb a i && eqb b j)) [
      | inl same ↦ let parts = and_parts (eqb a i) (eqb b j) same in absurd (differ (eqb-true a i parts.0) (eqb-true b j parts.1))
      | inr other ↦ ap (λ t. cond t limit (S.limits a b)) other
    ]

-- A new limit: the credit of the state, with this limit set, is that of the state with it.
pub StandsFor-limited : (h : Header) (S : State) (c : Credit) (i j limit : ℕ) → IsCredit c → StandsFor h S c → i < bank_count h → j < bank_count h → StandsFor h (raise.limited i j limit S) (limited c i j limit)
StandsFor-limited h S c i j limit valid stands first second =
    let setter : i < c.banks = omega (arith, stands.banks) in
    let other : j < c.banks = omega (arith, stands.banks) in
    record {
      banks = stands.banks;
      limits = λ a b p q differ.
          elim (same_banks i j a b) [
            | inl same ↦
                let P : ℕ → ℕ → Type 0 = λ x y. limit_in (limited c i j limit) x y ≡ (raise.limited i j limit S).limits x y in
                let set : P i j = limit_in-limited_same c i j limit valid setter other ∙ sym (limit_set-same S i j limit) in
                subst (λ x. P x b) (sym same.0) (subst (P i) (sym same.1) set)
            | inr apart ↦
                limit_in-limited_other c i j limit a b other (omega (arith, stands.banks)) apart ∙ stands.limits a b p q differ ∙ sym (limit_set-other S i j limit a b apart)
          ];
      uses = stands.uses;
      totals = stands.totals;
    }

-- A new total.
pub StandsFor-totalled : (h : Header) (S : State) (c : Credit) (i most : ℕ) → IsCredit c → StandsFor h S c → i < bank_count h → StandsFor h (raise.totalled i most S) (totalled c i most)
StandsFor-totalled h S c i most valid stands setter = record {
  banks = stands.banks;
  limits = stands.limits;
  uses = stands.uses;
  totals = λ a p. elim (cases_eq a i) [
    | inl own ↦
        ap (total_in (totalled c i most)) own ∙ total_in-totalled_same c i most valid (omega (arith, setter, stands.banks))
        ∙ sym (cond-true (eqb a i) (Some most) (S.totals a) (eq-eqb a i own))
    | inr other ↦
        total_in-totalled_other c i most a other ∙ stands.totals a p ∙ sym (cond-false (eqb a i) (Some most) (S.totals a) (ne_eqb a i other))
  ];
}

-- Units that are given back: less is used between the two banks that the settlement names, and no less between others.

used-settled : (h : Header) (S : State) (a b units i j : ℕ) → used h (raise.settled a b units S) i j ≡ used h S i j - settled_between i j (record { a = a; b = b; units = units } ∷ [])
used-settled h S a b units i j = omega (arith, settled_between-append i j S.settlements (record { a = a; b = b; units = units } ∷ []))

settles_banks : (a b units : ℕ) → settles a b (record { a = a; b = b; units = units }) ≡ true
settles_banks a b units = grind (arith, nat_tests)

settles_turned : (a b units : ℕ) → settles b a (record { a = a; b = b; units = units }) ≡ true
settles_turned a b units = grind (arith, nat_tests)

pub StandsFor-settled : (h : Header) (S : State) (c : Credit) (a b units : ℕ) → length c.uses ≡ c.banks * c.banks → StandsFor h S c → a < bank_count h → b < bank_count h → StandsFor h (raise.settled a b units S) (given_back c a b units)
StandsFor-settled h S c a b units full stands first second =
    let s : Settlement = record { a = a; b = b; units = units } in
    let p : a < c.banks = omega (arith, first, stands.banks) in
    let q : b < c.banks = omega (arith, second, stands.banks) in
    let now : ℕ = used_in c a b - units in
    record {
      banks = stands.banks;
      limits = stands.limits;
      uses = λ i j i_in j_in differ. elim (cases_Bool (settles i j s)) [
        | inl is ↦
            let P : ℕ → ℕ → Type 0 = λ x y. used_in (given_back c a b units) x y ≡ used_in c x y - units in
            let there : P i j = elim (settles_cases i j s is) [
              | inl same ↦ subst (λ x. P x j) same.0 (subst (P a) same.1 (used_in-here c a b now full p q))
              | inr turned ↦ subst (λ x. P x j) turned.1 (subst (P b) turned.0 (used_in-back c a b now full p q ∙ ap (λ u. u - units) (used_in-swap c a b)))
            ] in
            omega (arith, there, stands.uses i j i_in j_in differ, used-settled h S a b units i j, settled_between-one i j s is)
        | inr isnt ↦
            let apart : shared_place c.banks i j ≢ shared_place c.banks a b = λ same.
            elim (same_two c.banks a b i j p q (omega (arith, i_in, stands.banks)) (omega (arith, j_in, stands.banks)) same) [
              | inl named ↦ false≢true (sym isnt ∙ ap (λ x. settles x j s) named.0 ∙ ap (λ y. settles a y s) named.1 ∙ settles_banks a b units)
              | inr turned ↦ false≢true (sym isnt ∙ ap (λ x. settles x j s) turned.0 ∙ ap (λ y. settles b y s) turned.1 ∙ settles_turned a b units)
            ] in
            omega (arith, used_in-other c a b now i j apart, stands.uses i j i_in j_in differ, used-settled h S a b units i j, settled_between-other i j s isnt)
      ];
      totals = stands.totals;
    }
