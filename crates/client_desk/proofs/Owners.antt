-- The owners of a tagged history: each entry has a number of its own, from 1 to its sender's count.
use Rattle.std.proofs.Common.{ℕ, zero, suc, ◌≡◌, ◌+◌, ◌≤◌, ◌<◌, true, false, ◌&&◌, eqb, List, [], ◌∷◌, ◌++◌, inl, inr, refl, ap, sym, subst, ◌∙◌, arith, get_or, length, None}
use Rattle.std.proofs.Math.ListN.{set}
use Rattle.std.proofs.lemmas.Bool.{cases_Bool, cond-true, cond-false, and_parts, and_from, eqb-true, eq-eqb, false_from_ne_true}
use Rattle.fx_rules.specs.declared.outcome.Entry.{Entry}
use Rattle.fx_rules.specs.Lists.{Each}
use Rattle.fx_rules.specs.Session.{Header, IsSession}
use Rattle.fx_rules.specs.State.{State, count_of, opening}
use Rattle.fx_rules.specs.History.{IsStep, Steps, IsLegal, after_entry, after_all, state}
use Rattle.fx_rules.specs.Sound.{IsSound}
use Rattle.fx_rules.proofs.Staying.{changed-counts}
use Rattle.fx_rules.proofs.Senders.{command-place}
use Rattle.fx_rules.proofs.Soundness.{after-sound, opening-sound, after_all-push}
pub use Rattle.client_desk.specs.inside.Numbers.{IsKnown}
use Rattle.client_desk.specs.Clients.{Tagged, entries_of, owner_in, state_of}

set_more : (counts : List ℕ) (i j : ℕ) → get_or counts j 0 ≤ get_or (set counts i (get_or counts i 0 + 1)) j 0
set_more [] i j = omega arith
set_more (c ∷ counts) zero zero = omega arith
set_more (c ∷ counts) zero (suc j) = omega arith
set_more (c ∷ counts) (suc i) zero = omega arith
set_more (c ∷ counts) (suc i) (suc j) = set_more counts i j

set_one : (counts : List ℕ) (i : ℕ) → i < length counts → get_or (set counts i (get_or counts i 0 + 1)) i 0 ≡ get_or counts i 0 + 1
set_one [] i within = absurd (omega arith)
set_one (c ∷ counts) zero within = refl
set_one (c ∷ counts) (suc i) within = set_one counts i (omega arith)

-- the counts after a step
pub step-counts : (S : State) (e : Entry) → (after_entry S e).counts ≡ set S.counts e.bank (get_or S.counts e.bank 0 + 1)
step-counts S e =
    ap (λ (counts : List ℕ). set counts e.bank (get_or counts e.bank 0 + 1)) (changed-counts S e.bank e.command e.outcome)

pub step-more : (S : State) (e : Entry) (bank : ℕ) → count_of S bank ≤ count_of (after_entry S e) bank
step-more S e bank = subst (λ (counts : List ℕ). get_or S.counts bank 0 ≤ get_or counts bank 0) (sym (step-counts S e)) (set_more S.counts e.bank bank)

pub step-one : (h : Header) (S : State) (e : Entry) → IsSession h → IsSound h S → IsStep h S e → count_of (after_entry S e) e.bank ≡ count_of S e.bank + 1
step-one h S e session sound step =
    ap (λ (counts : List ℕ). get_or counts e.bank 0) (step-counts S e)
    ∙ set_one S.counts e.bank (omega (arith, sound.counts, command-place h e.bank e.command session step.command))

steps-more : (S : State) (entries : List Entry) (bank : ℕ) → count_of S bank ≤ count_of (after_all S entries) bank
steps-more S [] bank = omega arith
steps-more S (e ∷ es) bank = omega (arith, step-more S e bank, steps-more (after_entry S e) es bank)

steps-known : (h : Header) (S : State) (entries : List Entry) → IsSession h → IsSound h S → Steps h S entries → Each (λ (e : Entry). IsKnown h (after_all S entries).counts e.bank e.number) entries
steps-known h S [] session sound steps = tt
steps-known h S (e ∷ es) session sound steps =
    let step : IsStep h S e = steps.0 in
    let one : count_of (after_entry S e) e.bank ≡ count_of S e.bank + 1 = step-one h S e session sound step in (
      record {
        sender = command-place h e.bank e.command session step.command;
        least = omega (arith, step.number);
        most = omega (arith, step.number, one, steps-more (after_entry S e) es e.bank);
      },
      steps-known h (after_entry S e) es session (after-sound h S e.bank e.command e.outcome session sound step.command step.outcome) steps.1,
    )

-- each entry has a number that was given
pub legal-known : (h : Header) (entries : List Entry) → IsLegal h entries → Each (λ (e : Entry). IsKnown h (state h entries).counts e.bank e.number) entries
legal-known h entries legal = steps-known h (opening h) entries legal.session (opening-sound h legal.session) legal.steps

-- the owner, entry by entry
pub owner-here : (t : Tagged) (ts : List Tagged) (bank number : ℕ) → (eqb t.entry.bank bank && eqb t.entry.number number) ≡ true → owner_in (t ∷ ts) bank number ≡ t.who
owner-here t ts bank number is = cond-true (eqb t.entry.bank bank && eqb t.entry.number number) t.who (owner_in ts bank number) is

pub owner-later : (t : Tagged) (ts : List Tagged) (bank number : ℕ) → (eqb t.entry.bank bank && eqb t.entry.number number) ≡ false → owner_in (t ∷ ts) bank number ≡ owner_in ts bank number
owner-later t ts bank number is = cond-false (eqb t.entry.bank bank && eqb t.entry.number number) t.who (owner_in ts bank number) is

owner-unknown : (h : Header) (counts : List ℕ) (tagged : List Tagged) (bank number : ℕ) → Each (λ (e : Entry). IsKnown h counts e.bank e.number) (entries_of tagged) → ¬ (IsKnown h counts bank number) → owner_in tagged bank number ≡ None
owner-unknown h counts [] bank number known none = refl
owner-unknown h counts (t ∷ ts) bank number known none =
    owner-later t ts bank number
    (false_from_ne_true (eqb t.entry.bank bank && eqb t.entry.number number)
    (λ is.
    let both = and_parts (eqb t.entry.bank bank) (eqb t.entry.number number) is in
    none (subst (λ b. IsKnown h counts b number) (eqb-true t.entry.bank bank both.0)
    (subst (λ n. IsKnown h counts t.entry.bank n) (eqb-true t.entry.number number both.1) known.0))))
    ∙ owner-unknown h counts ts bank number known.1 none

-- a number that was not given has no owner
pub owner-none : (h : Header) (tagged : List Tagged) (bank number : ℕ) → IsLegal h (entries_of tagged) → ¬ (IsKnown h (state_of h tagged).counts bank number) → owner_in tagged bank number ≡ None
owner-none h tagged bank number legal none = owner-unknown h (state_of h tagged).counts tagged bank number (legal-known h (entries_of tagged) legal) none

-- ---- one entry more

pub entries-push : (ts : List Tagged) (t : Tagged) → entries_of (ts ++ t ∷ []) ≡ entries_of ts ++ t.entry ∷ []
entries-push [] t = refl
entries-push (x ∷ ts) t = ap (λ (es : List Entry). x.entry ∷ es) (entries-push ts t)

pub entries-append : (ts us : List Tagged) → entries_of (ts ++ us) ≡ entries_of ts ++ entries_of us
entries-append [] us = refl
entries-append (x ∷ ts) us = ap (λ (es : List Entry). x.entry ∷ es) (entries-append ts us)

pub state-push : (h : Header) (ts : List Tagged) (t : Tagged) → state_of h (ts ++ t ∷ []) ≡ after_entry (state_of h ts) t.entry
state-push h ts t = ap (state h) (entries-push ts t) ∙ after_all-push (opening h) (entries_of ts) t.entry

-- another order has the owner that it had
pub owner-push-other : (ts : List Tagged) (t : Tagged) (bank number : ℕ) → (eqb t.entry.bank bank && eqb t.entry.number number) ≡ false → owner_in (ts ++ t ∷ []) bank number ≡ owner_in ts bank number
owner-push-other [] t bank number other = owner-later t [] bank number other
owner-push-other (x ∷ ts) t bank number other =
    elim (cases_Bool (eqb x.entry.bank bank && eqb x.entry.number number)) [
      | inl is ↦ owner-here x (ts ++ t ∷ []) bank number is ∙ sym (owner-here x ts bank number is)
      | inr is_not ↦ owner-later x (ts ++ t ∷ []) bank number is_not ∙ owner-push-other ts t bank number other ∙ sym (owner-later x ts bank number is_not)
    ]

owner-push-new : (h : Header) (counts : List ℕ) (ts : List Tagged) (t : Tagged) → Each (λ (e : Entry). IsKnown h counts e.bank e.number) (entries_of ts) → get_or counts t.entry.bank 0 < t.entry.number → owner_in (ts ++ t ∷ []) t.entry.bank t.entry.number ≡ t.who
owner-push-new h counts [] t known new = owner-here t [] t.entry.bank t.entry.number (and_from (eqb t.entry.bank t.entry.bank) (eqb t.entry.number t.entry.number) (eq-eqb t.entry.bank t.entry.bank refl) (eq-eqb t.entry.number t.entry.number refl))
owner-push-new h counts (x ∷ ts) t known new =
    owner-later x (ts ++ t ∷ []) t.entry.bank t.entry.number
    (false_from_ne_true (eqb x.entry.bank t.entry.bank && eqb x.entry.number t.entry.number)
    (λ is.
    let both = and_parts (eqb x.entry.bank t.entry.bank) (eqb x.entry.number t.entry.number) is in
    let most : x.entry.number ≤ get_or counts t.entry.bank 0 = subst (λ b. x.entry.number ≤ get_or counts b 0) (eqb-true x.entry.bank t.entry.bank both.0) known.0.most in
    omega (arith, eqb-true x.entry.number t.entry.number both.1)))
    ∙ owner-push-new h counts ts t known.1 new

-- and the new one has the entry's client
pub owner-push : (h : Header) (ts : List Tagged) (t : Tagged) → IsLegal h (entries_of ts) → t.entry.number ≡ count_of (state_of h ts) t.entry.bank + 1 → owner_in (ts ++ t ∷ []) t.entry.bank t.entry.number ≡ t.who
owner-push h ts t legal next = owner-push-new h (state_of h ts).counts ts t (legal-known h (entries_of ts) legal) (omega arith)
