-- How many commands lead to the state of a legal history: each sender's count is the number of its entries, and all of them
-- are far below 2^64.
use Rattle.std.proofs.Common.{get_or-set_same as get_or_set_here, ℕ, zero, suc, ◌≡◌, ◌+◌, ◌*◌, ◌≤◌, ◌<◌, ◌^◌, eqb, List, [], ◌∷◌, inl, inr, refl, ap, sym, subst, ◌∙◌, arith, length, get_or, replicate}
use Rattle.std.proofs.Math.ListN.{set}
use Rattle.std.proofs.lemmas.Bool.{cases_eq, eq-eqb, ne_eqb}
use Rattle.fx_rules.specs.declared.outcome.Entry.{Entry}
use Rattle.fx_rules.specs.Lists.{Each, total}
use Rattle.fx_rules.specs.Session.{Header, IsSession, sender_places}
use Rattle.fx_rules.specs.State.{State, opening, arrivals, count_of}
use Rattle.fx_rules.specs.Step.{changed}
use Rattle.fx_rules.specs.History.{IsStep, Steps, IsLegal, after_entry, after_all, state, own}
use Rattle.fx_rules.specs.Sound.{IsSound}
use Rattle.fx_rules.proofs.ListLemmas.{filter_cons_true, filter_cons_false}
use Rattle.fx_rules.proofs.Senders.{command-place, places-most}
use Rattle.fx_rules.proofs.Soundness.{after-sound, opening-sound, legal-sound}
use Rattle.fx_rules.proofs.Staying.{changed-counts, other_counts-stay}

-- ---- the sum of the counts

Each-set : {X : Type 0} (P : X → Type 0) (xs : List X) (i : ℕ) (x : X) → Each P xs → P x → Each P (set xs i x)
Each-set P [] i x all new = tt
Each-set P (y ∷ ys) zero x all new = (new, all.1)
Each-set P (y ∷ ys) (suc i) x all new = (all.0, Each-set P ys i x all.1 new)

Each-replicate : {X : Type 0} (P : X → Type 0) (n : ℕ) (x : X) → P x → Each P (replicate n x)
Each-replicate P zero x has = tt
Each-replicate P (suc n) x has = (has, Each-replicate P n x has)

Few : List ℕ → Type 0
Few counts = Each (λ count. count < 2 ^ 32) counts

few-after : (h : Header) (S : State) (e : Entry) → IsStep h S e → Few S.counts → Few (after_entry S e).counts
unfolding Few
few-after h S e step few =
    let T : State = changed S e.bank e.command e.outcome in
    let counts : T.counts ≡ S.counts = changed-counts S e.bank e.command e.outcome in
    let next : count_of T e.bank + 1 < 2 ^ 32 = omega (arith, ap (λ (cs : List ℕ). get_or cs e.bank 0) counts, step.number, step.number_most) in
    Each-set (λ count. count < 2 ^ 32) T.counts e.bank (count_of T e.bank + 1) (subst (Each (λ count. count < 2 ^ 32)) (sym counts) few) next

few-steps : (h : Header) (S : State) (entries : List Entry) → Steps h S entries → Few S.counts → Few (after_all S entries).counts
few-steps h S [] steps few = few
few-steps h S (e ∷ es) steps few = few-steps h (after_entry S e) es steps.1 (few-after h S e steps.0 few)

few-legal : (h : Header) (entries : List Entry) → IsLegal h entries → Few (state h entries).counts
unfolding Few
few-legal h entries legal =
    few-steps h (opening h) entries legal.steps (Each-replicate (λ count. count < 2 ^ 32) (sender_places h) 0 (omega arith))

total-few : (counts : List ℕ) → Few counts → total (λ count. count) counts ≤ length counts * 2 ^ 32
unfolding Few
total-few [] few = omega arith
total-few (c ∷ counts) few = omega (arith, few.0, total-few counts few.1)

pub arrivals-most : (h : Header) (entries : List Entry) → IsLegal h entries → arrivals (state h entries) ≤ 65 * 2 ^ 32
arrivals-most h entries legal =
    let senders : length (state h entries).counts ≡ sender_places h = (legal-sound h entries legal).counts in
    omega (arith, total-few (state h entries).counts (few-legal h entries legal), senders, places-most h legal.session)

pub arrivals-few : (h : Header) (entries : List Entry) → IsLegal h entries → arrivals (state h entries) < 2 ^ 64
arrivals-few h entries legal = omega (arith, arrivals-most h entries legal)

-- ---- a sender's count

count-here : (S : State) (e : Entry) → e.bank < length S.counts → count_of (after_entry S e) e.bank ≡ count_of S e.bank + 1
count-here S e within =
    let T : State = changed S e.bank e.command e.outcome in
    let counts : T.counts ≡ S.counts = changed-counts S e.bank e.command e.outcome in
    get_or_set_here T.counts e.bank (count_of T e.bank + 1) 0 (subst (λ (cs : List ℕ). e.bank < length cs) (sym counts) within)
    ∙ ap (λ (cs : List ℕ). get_or cs e.bank 0 + 1) counts

counts-steps : (h : Header) (S : State) (entries : List Entry) (bank : ℕ) → IsSession h → IsSound h S → Steps h S entries → count_of (after_all S entries) bank ≡ count_of S bank + length (own bank entries)
counts-steps h S [] bank session sound steps = omega arith
counts-steps h S (e ∷ es) bank session sound steps =
    let step : IsStep h S e = steps.0 in
    let next : IsSound h (after_entry S e) = after-sound h S e.bank e.command e.outcome session sound step.command step.outcome in
    let rest : count_of (after_all (after_entry S e) es) bank ≡ count_of (after_entry S e) bank + length (own bank es) =
    counts-steps h (after_entry S e) es bank session next steps.1 in
    elim (cases_eq e.bank bank) [
      | inl same ↦
          let here : count_of (after_entry S e) e.bank ≡ count_of S e.bank + 1 = count-here S e (omega (arith, command-place h e.bank e.command session step.command, sound.counts)) in
          let moved : count_of (after_entry S e) bank ≡ count_of S bank + 1 = subst (λ b. count_of (after_entry S e) b ≡ count_of S b + 1) same here in
          let more : own bank (e ∷ es) ≡ e ∷ own bank es = filter_cons_true (λ (x : Entry). eqb x.bank bank) e es (eq-eqb e.bank bank same) in
          omega (arith, rest, moved, ap length more)
      | inr differ ↦
          let stays : count_of (after_entry S e) bank ≡ count_of S bank = other_counts-stay S e bank differ in
          let none : own bank (e ∷ es) ≡ own bank es = filter_cons_false (λ (x : Entry). eqb x.bank bank) e es (ne_eqb e.bank bank differ) in
          omega (arith, rest, stays, ap length none)
    ]

none-sent : (n bank : ℕ) → ◌≡◌ {A = ℕ} (get_or (replicate n 0) bank 0) 0
none-sent zero bank = refl
none-sent (suc n) zero = refl
none-sent (suc n) (suc bank) = none-sent n bank

pub counts-own : (h : Header) (entries : List Entry) (bank : ℕ) → IsLegal h entries → count_of (state h entries) bank ≡ length (own bank entries)
counts-own h entries bank legal =
    let walked : count_of (state h entries) bank ≡ count_of (opening h) bank + length (own bank entries) =
    counts-steps h (opening h) entries bank legal.session (opening-sound h legal.session) legal.steps in
    omega (arith, walked, none-sent (sender_places h) bank)
