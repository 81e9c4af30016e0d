-- Each order that was filled was sent by one entry of the history.
use Rattle.std.proofs.Common.{ℕ, zero, suc, ◌≡◌, ◌≢◌, ◌+◌, ◌≤◌, ◌<◌, false, ◌&&◌, eqb, List, [], ◌∷◌, inl, inr, refl, ap, subst, ◌∙◌, arith, get_or, length, replicate}
use Rattle.std.proofs.lemmas.Bool.{cases_Bool, and_parts, eqb-true, eqb-false, false_from_ne_true, and_from, eq-eqb, both_ways}
use Rattle.fx_rules.specs.declared.outcome.Entry.{Entry}
use Rattle.fx_rules.specs.Lists.{Each}
use Rattle.fx_rules.specs.Session.{Header, IsSession, sender_places}
use Rattle.fx_rules.specs.State.{State, count_of, opening}
use Rattle.fx_rules.specs.History.{IsStep, Steps, IsLegal, after_entry, after_all, state}
use Rattle.fx_rules.specs.Sound.{IsSound}
use Rattle.fx_rules.proofs.ListLemmas.{Each-among, filter_cons_true, filter_cons_false}
use Rattle.fx_rules.proofs.Staying.{other_counts-stay}
use Rattle.fx_rules.proofs.Soundness.{after-sound, opening-sound}
use Rattle.client_desk.specs.Clients.{entries_at, SidesHaveOneEntry}
use Rattle.client_desk.proofs.Owners.{IsKnown, step-one, step-more}
use Rattle.client_desk.proofs.Within.{SidesKnown, step-known}

-- no entry has a number that was given before
none-before : (h : Header) (S : State) (es : List Entry) (bank number : ℕ) → IsSession h → IsSound h S → Steps h S es → number ≤ count_of S bank → length (entries_at bank number es) ≡ 0
none-before h S [] bank number session sound steps most = refl
none-before h S (e ∷ es) bank number session sound steps most =
    let step : IsStep h S e = steps.0 in
    let other : (eqb e.bank bank && eqb e.number number) ≡ false = false_from_ne_true (eqb e.bank bank && eqb e.number number)
    (λ is.
    let both = and_parts (eqb e.bank bank) (eqb e.number number) is in
    let same : count_of S e.bank ≡ count_of S bank = ap (count_of S) (eqb-true e.bank bank both.0) in
    omega (arith, step.number, eqb-true e.number number both.1)) in
    ap (λ (xs : List Entry). length xs) (filter_cons_false (λ (x : Entry). eqb x.bank bank && eqb x.number number) e es other)
    ∙ none-before h (after_entry S e) es bank number session (after-sound h S e.bank e.command e.outcome session sound step.command step.outcome) steps.1 (omega (arith, step-more S e bank))

-- a number that is not this entry's is given later
still : (h : Header) (S : State) (e : Entry) (bank number : ℕ) → IsSession h → IsSound h S → IsStep h S e → count_of S bank < number → (eqb e.bank bank && eqb e.number number) ≡ false → count_of (after_entry S e) bank < number
still h S e bank number session sound step least other =
    elim (cases_Bool (eqb e.bank bank)) [
      | inl is ↦
          let counts : count_of (after_entry S e) bank ≡ count_of S bank + 1 = subst (λ b. count_of (after_entry S e) b ≡ count_of S b + 1) (eqb-true e.bank bank is) (step-one h S e session sound step) in
          let given : e.number ≡ count_of S bank + 1 = subst (λ b. e.number ≡ count_of S b + 1) (eqb-true e.bank bank is) step.number in
          let apart : e.number ≢ number = λ same. both_ways (eqb e.bank bank && eqb e.number number) other (and_from (eqb e.bank bank) (eqb e.number number) is (eq-eqb e.number number same)) in
          omega arith
      | inr differ ↦
          let stays : count_of (after_entry S e) bank ≡ count_of S bank = other_counts-stay S e bank (eqb-false e.bank bank differ) in
          omega arith
    ]

-- one entry has a number that is given
one-given : (h : Header) (S : State) (es : List Entry) (bank number : ℕ) → IsSession h → IsSound h S → Steps h S es → count_of S bank < number → number ≤ count_of (after_all S es) bank → length (entries_at bank number es) ≡ 1
one-given h S [] bank number session sound steps least most = absurd (omega arith)
one-given h S (e ∷ es) bank number session sound steps least most =
    let step : IsStep h S e = steps.0 in
    let next : IsSound h (after_entry S e) = after-sound h S e.bank e.command e.outcome session sound step.command step.outcome in
    elim (cases_Bool (eqb e.bank bank && eqb e.number number)) [
      | inl is ↦
          let both = and_parts (eqb e.bank bank) (eqb e.number number) is in
          let counts : count_of (after_entry S e) bank ≡ count_of S bank + 1 = subst (λ b. count_of (after_entry S e) b ≡ count_of S b + 1) (eqb-true e.bank bank both.0) (step-one h S e session sound step) in
          let given : e.number ≡ count_of S bank + 1 = subst (λ b. e.number ≡ count_of S b + 1) (eqb-true e.bank bank both.0) step.number in
          let rest : length (entries_at bank number es) ≡ 0 = none-before h (after_entry S e) es bank number session next steps.1 (omega (arith, eqb-true e.number number both.1)) in
          ap (λ (xs : List Entry). length xs) (filter_cons_true (λ (x : Entry). eqb x.bank bank && eqb x.number number) e es is) ∙ omega arith
      | inr other ↦
          ap (λ (xs : List Entry). length xs) (filter_cons_false (λ (x : Entry). eqb x.bank bank && eqb x.number number) e es other)
          ∙ one-given h (after_entry S e) es bank number session next steps.1 (still h S e bank number session sound step least other) most
    ]

steps-sides : (h : Header) (S : State) (es : List Entry) → IsSession h → IsSound h S → Steps h S es → Each (SidesKnown h S.counts) S.fills → Each (SidesKnown h (after_all S es).counts) (after_all S es).fills
steps-sides h S [] session sound steps known = known
steps-sides h S (e ∷ es) session sound steps known =
    let step : IsStep h S e = steps.0 in
    steps-sides h (after_entry S e) es session (after-sound h S e.bank e.command e.outcome session sound step.command step.outcome) steps.1 (step-known h S e session sound step known)

opening-count : (n bank : ℕ) → get_or (replicate {A = ℕ} n 0) bank 0 ≡ 0
opening-count zero bank = refl
opening-count (suc n) zero = refl
opening-count (suc n) (suc bank) = opening-count n bank

known-one : (h : Header) (es : List Entry) (bank number : ℕ) → IsLegal h es → IsKnown h (state h es).counts bank number → length (entries_at bank number es) ≡ 1
known-one h es bank number legal known =
    one-given h (opening h) es bank number legal.session (opening-sound h legal.session) legal.steps (omega (arith, opening-count (sender_places h) bank, known.least)) known.most

pub sides-have-one : SidesHaveOneEntry
sides-have-one h es fill legal among =
    let known : SidesKnown h (state h es).counts fill =
    Each-among (SidesKnown h (state h es).counts) (state h es).fills fill (steps-sides h (opening h) es legal.session (opening-sound h legal.session) legal.steps tt) among in
    (known-one h es fill.taker fill.taker_number legal known.taker, known-one h es fill.maker fill.maker_number legal known.maker)
