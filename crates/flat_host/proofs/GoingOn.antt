-- From states to the histories that lead to them.
use Rattle.std.proofs.Common.{ℕ, zero, suc, ◌≡◌, ◌+◌, ◌-◌, ◌<◌, ◌^◌, List, [], ◌∷◌, ◌++◌, refl, ap, sym, subst, ◌∙◌, arith, length, get_or, take}
use Rattle.fx_rules.specs.declared.command.Command.{Command}
use Rattle.fx_rules.specs.declared.outcome.Outcome.{Outcome}
use Rattle.fx_rules.specs.declared.outcome.Outcome.TheVariants.{Depth}
use Rattle.fx_rules.specs.declared.outcome.Entry.{Entry}
use Rattle.fx_rules.specs.Session.{Header}
use Rattle.fx_rules.specs.State.{State, opening}
use Rattle.fx_rules.specs.History.{IsStep, Steps, IsLegal, after_entry, after_all, state}
use Rattle.fx_rules.specs.Sound.{IsSound}
use Rattle.fx_rules.specs.Step.{IsCommand}
use Rattle.fx_rules.specs.Market.{InSome, InEach, MaySend, MayAsk, HasSent, IsDepthOf, GoesOn, next_entry}
use Rattle.fx_rules.proofs.Soundness.{legal-sound, legal-push, after_all-push}
use Rattle.fx_rules.proofs.Uncrossed.{legal-uncrossed}
use Rattle.flat_host.proofs.Sendable.{sendable, sendable-of, sender-place, pairs_of}
use Rattle.flat_host.specs.FlatState.{FlatState, StandsFor}
use Rattle.flat_host.specs.Steps.{IsCommandOf, StepsEach, KeepsLines, StaysUncrossed, FollowsOn, IsNextOf, ShowsEach, stands}
use Rattle.flat_host.specs.inside.Steps.{FollowsEach}

-- What is a step of each sound state goes on each legal history.
pub goes-on : (old new : FlatState) (bank : ℕ) (command : Command) (outcome : Outcome) → get_or old.counts bank 0 < 2 ^ 32 - 1 → IsCommandOf old bank command → StepsEach old new bank command outcome → GoesOn (stands old) (stands new) bank command outcome
goes-on old new bank command outcome count command_in steps h H legal stood =
    let S : State = state h H in
    let sound : IsSound h S = legal-sound h H legal in
    let e : Entry = next_entry S bank command outcome in
    let both = steps h S legal.session sound stood in
    let counted : get_or old.counts bank 0 ≡ get_or S.counts bank 0 = ap (λ (cs : List ℕ). get_or cs bank 0) stood.counts in
    let step : IsStep h S e = record {
      command = sendable h S old bank command legal.session sound stood command_in;
      number = refl;
      number_most = omega (arith, count, counted);
      outcome = both.0;
    } in (
      legal-push h H e legal step,
      subst (λ (T : State). StandsFor h T new) (sym (after_all-push (opening h) H e)) both.1,
    )

-- and in the state after it no line is exceeded, and no orders rest crossed that can reach each other
pub keeps-lines : (old new : FlatState) (bank : ℕ) (command : Command) (outcome : Outcome) → GoesOn (stands old) (stands new) bank command outcome → KeepsLines old bank command outcome
keeps-lines old new bank command outcome goes_on h H legal stood =
    (legal-sound h (H ++ next_entry (state h H) bank command outcome ∷ []) (goes_on h H legal stood).0).within

pub stays-uncrossed : (old new : FlatState) (bank : ℕ) (command : Command) (outcome : Outcome) → GoesOn (stands old) (stands new) bank command outcome → StaysUncrossed old bank command outcome
stays-uncrossed old new bank command outcome goes_on h H legal stood =
    legal-uncrossed h (H ++ next_entry (state h H) bank command outcome ∷ []) (goes_on h H legal stood).0

-- a history that goes on by an entry: it was legal, and the entry is a step
steps_last : (h : Header) (S : State) (H : List Entry) (e : Entry) → Steps h S (H ++ e ∷ []) → Steps h S H × IsStep h (after_all S H) e
steps_last h S [] e steps = (tt, steps.0)
steps_last h S (first ∷ H) e steps =
    let rest = steps_last h (after_entry S first) H e steps.1 in
    ((steps.0, rest.0), rest.1)

before : (h : Header) (H : List Entry) (e : Entry) → IsLegal h (H ++ e ∷ []) → IsLegal h H
before h H e legal = record { session = legal.session; steps = (steps_last h (opening h) H e legal.steps).0 }

last : (h : Header) (H : List Entry) (e : Entry) → IsLegal h (H ++ e ∷ []) → IsStep h (state h H) e
last h H e legal = (steps_last h (opening h) H e legal.steps).1

-- what is known of an entry that comes next
pub record IsDue (l : FlatState) (e : Entry) : Type 0 where
  pub sender : e.bank < length l.counts
  pub count : get_or l.counts e.bank 0 < 2 ^ 32 - 1
  pub command : IsCommandOf l e.bank e.command
  pub number : e.number ≡ get_or l.counts e.bank 0 + 1

pub due : (l : FlatState) (e : Entry) → IsNextOf l e → IsDue l e
due l e next =
    let h : Header = next.0 in
    let H : List Entry = next.1 in
    let S : State = state h H in
    let stands : StandsFor h S l = next.3 in
    let step : IsStep h S e = last h H e next.2 in
    let of : IsCommandOf l e.bank e.command = sendable-of h S l e.bank e.command next.2.session (legal-sound h H (before h H e next.2)) stands step.command in
    let same : get_or l.counts e.bank 0 ≡ get_or S.counts e.bank 0 = ap (λ (cs : List ℕ). get_or cs e.bank 0) stands.counts in
    record {
      sender = sender-place l e.bank e.command of;
      count = omega (arith, same, step.number, step.number_most);
      command = of;
      number = omega (arith, same, step.number);
    }

pub follows-on : (old new : FlatState) (e : Entry) → FollowsEach old new e.bank e.command e.outcome → FollowsOn old new e
follows-on old new e follows h H legal stands =
    let was : IsLegal h H = before h H e legal in
    subst (λ (T : State). StandsFor h T new) (sym (after_all-push (opening h) H e))
    (follows h (state h H) legal.session (legal-sound h H was) stands (last h H e legal).outcome)

steps_taken : (h : Header) (S : State) (entries : List Entry) (n : ℕ) → Steps h S entries → Steps h S (take n entries)
steps_taken h S [] zero steps = tt
steps_taken h S [] (suc n) steps = tt
steps_taken h S (e ∷ entries) zero steps = tt
steps_taken h S (e ∷ entries) (suc n) steps = (steps.0, steps_taken h (after_entry S e) entries n steps.1)

-- the beginning of a legal history is one
pub legal_taken : (h : Header) (entries : List Entry) (n : ℕ) → IsLegal h entries → IsLegal h (take n entries)
legal_taken h entries n legal = record { session = legal.session; steps = steps_taken h (opening h) entries n legal.steps }

-- What is asked of a market, and what it answers, in the words of the host.

-- a command that may be sent in a state to which a legal history led
pub legal-command : (h : Header) (H : List Entry) (l : FlatState) (bank : ℕ) (command : Command) → IsLegal h H → StandsFor h (state h H) l → IsCommand h bank command → IsCommandOf l bank command
legal-command h H l bank command legal stood = sendable-of h (state h H) l bank command legal.session (legal-sound h H legal) stood

pub record MayApply (l : FlatState) (bank : ℕ) (command : Command) : Type 0 where
  pub count : get_or l.counts bank 0 < 2 ^ 32 - 1
  pub of : IsCommandOf l bank command

pub may-apply : (l : FlatState) (bank : ℕ) (command : Command) → InSome (stands l) (MaySend bank command) → MayApply l bank command
may-apply l bank command some =
    let h : Header = some.0 in
    let S : State = state h some.1 in
    let stood : StandsFor h S l = some.3 in
    let may : MaySend bank command h S = some.4 in
    record {
      count = omega (arith, ap (λ (cs : List ℕ). get_or cs bank 0) stood.counts, may.number);
      of = legal-command h some.1 l bank command some.2 stood may.allowed;
    }

pub may-ask : (l : FlatState) (bank pair : ℕ) → InSome (stands l) (MayAsk bank pair) → (bank < l.credit.banks) × (pair < length l.weights)
may-ask l bank pair some =
    let stood : StandsFor some.0 (state some.0 some.1) l = some.3 in
    let may : MayAsk bank pair some.0 (state some.0 some.1) = some.4 in
    (omega (arith, stood.banks, may.viewer), omega (arith, pairs_of some.0 l stood.weights, may.within))

pub has-sent : (l : FlatState) (bank count : ℕ) → count ≡ get_or l.counts bank 0 → InEach (stands l) (HasSent bank count)
has-sent l bank count is h H legal stood = sym (is ∙ ap (λ (cs : List ℕ). get_or cs bank 0) stood.counts)

pub is-depth : (l : FlatState) (bank pair : ℕ) (outcome : Outcome) → ShowsEach l bank pair outcome → InEach (stands l) (IsDepthOf bank pair outcome)
is-depth l bank pair (Depth bids asks) shows h H legal stood = shows h (state h H) legal.session (legal-sound h H legal) stood
is-depth l bank pair outcome shows h H legal stood = absurd shows
