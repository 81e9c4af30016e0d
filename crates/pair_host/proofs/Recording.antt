-- The entries of a legal history, one after another.
use Rattle.std.proofs.Common.{ℕ, zero, suc, ◌≡◌, ◌+◌, ◌<◌, List, [], ◌∷◌, ◌++◌, ap, sym, subst, ◌∙◌, arith, take, length, get_or}
use Rattle.std.proofs.lemmas.List.{take_more}
use Rattle.fx_rules.specs.declared.outcome.Entry.{Entry}
use Rattle.fx_rules.specs.Session.{Header}
use Rattle.fx_rules.specs.State.{State, opening}
use Rattle.fx_rules.specs.History.{IsStep, Steps, IsLegal, after_entry, after_all, state}
use Rattle.fx_rules.specs.Sound.{IsSound}
use Rattle.fx_rules.proofs.Soundness.{steps-sound, opening-sound, after_all-push}
use Rattle.pair_host.specs.Standing.{HostState, StandsFor, IsNextOf, FollowsOn}

-- the first entries, and the one behind them
record Reached (h : Header) (S : State) (entries : List Entry) (n : ℕ) (e : Entry) : Type 0 where
  so_far : Steps h S (take n entries)
  next : IsStep h (after_all S (take n entries)) e

reached : (h : Header) (S : State) (entries : List Entry) (n : ℕ) (e : Entry) → Steps h S entries → n < length entries → e ≡ get_or entries n e → Reached h S entries n e
reached h S [] n e steps within is = absurd (omega (arith, within))
reached h S (first ∷ entries) zero e steps within is = record { so_far = tt; next = subst (IsStep h S) (sym is) steps.0 }
reached h S (first ∷ entries) (suc n) e steps within is =
    let rest : Reached h (after_entry S first) entries n e = reached h (after_entry S first) entries n e steps.1 (omega (arith, within)) is in
    record { so_far = (steps.0, rest.so_far); next = rest.next }

-- it is a step of the state that those before it led to
record IsNextAt (h : Header) (entries : List Entry) (n : ℕ) (e : Entry) : Type 0 where
  sound : IsSound h (state h (take n entries))
  step : IsStep h (state h (take n entries)) e
  leads : state h (take (n + 1) entries) ≡ after_entry (state h (take n entries)) e

next-at : (h : Header) (entries : List Entry) (n : ℕ) (e : Entry) → IsLegal h entries → n < length entries → e ≡ get_or entries n e → IsNextAt h entries n e
next-at h entries n e legal within is =
    let its : Reached h (opening h) entries n e = reached h (opening h) entries n e legal.steps within is in
    let more : take (n + 1) entries ≡ take n entries ++ e ∷ [] = take_more entries n e within ∙ ap (λ (f : Entry). take n entries ++ f ∷ []) (sym is) in
    record {
      sound = steps-sound h (opening h) (take n entries) legal.session (opening-sound h legal.session) its.so_far;
      step = its.next;
      leads = ap (state h) more ∙ after_all-push (opening h) (take n entries) e;
    }

pub next-recorded : (h : Header) (entries : List Entry) (n : ℕ) (e : Entry) (host : HostState) → IsLegal h entries → n < length entries → e ≡ get_or entries n e
    → StandsFor h (state h (take n entries)) host → IsNextOf host e
next-recorded h entries n e host legal within is stood =
    let its : IsNextAt h entries n e = next-at h entries n e legal within is in
    record {
      session = h;
      before = state h (take n entries);
      valid = legal.session;
      sound = its.sound;
      stood = stood;
      step = its.step;
    }

pub recorded-next : (h : Header) (entries : List Entry) (n : ℕ) (e : Entry) (host new : HostState) → IsLegal h entries → n < length entries → e ≡ get_or entries n e
    → StandsFor h (state h (take n entries)) host → FollowsOn host new e → StandsFor h (state h (take (n + 1) entries)) new
recorded-next h entries n e host new legal within is stood follows =
    let its : IsNextAt h entries n e = next-at h entries n e legal within is in
    subst (λ (S : State). StandsFor h S new) (sym its.leads) (follows h (state h (take n entries)) legal.session its.sound stood its.step)
