-- A command that is served: its number fits, and each history that was served goes on by its entry.
use Rattle.std.proofs.Common.{ℕ, ◌≡◌, ◌+◌, ◌<◌, ◌≤◌, ◌^◌, List, [], ◌∷◌, ◌++◌, refl, ap, sym, subst, ◌∙◌, ap₂, arith, inl, inr, Result, Ok, Err, length, get_or, eqb, not, map, take, drop, length-append, append_assoc, append-nil}
use Rattle.std.proofs.lemmas.List.{length-map, map-append, take_more, take-append-drop}
use Rattle.std.proofs.lemmas.List.Filters.{length-filter_both}
use Rattle.std.specs.Prelude.{◌⊎◌, IfOk, OnOk, OnErr}
use Rattle.std.specs.List.{filter}
use Rattle.fx_rules.specs.declared.command.Sent.{Sent}
use Rattle.fx_rules.specs.declared.outcome.Outcome.{Outcome}
use Rattle.fx_rules.specs.declared.outcome.Entry.{Entry}
use Rattle.fx_rules.specs.Lists.{Each}
use Rattle.fx_rules.specs.Session.{Header}
use Rattle.fx_rules.specs.State.{State, count_of}
use Rattle.fx_rules.specs.History.{IsLegal, state, own}
use Rattle.fx_rules.specs.Market.{InSome, InEach, MaySend, HasSent, GoesOn}
use Rattle.fx_rules.specs.Sending.{IsSentOf, sent_by}
use Rattle.fx_rules.proofs.Counting.{counts-own}
use Rattle.fx_rules.proofs.ListLemmas.{Each-first}
use Rattle.market_run.specs.Ran.{Ran}
use Rattle.market_run.specs.Running.{ToldNext, StillTold, IsAsBefore, HasServed, MayServe, GoesOnBy, MadeEntry, ServesOn, ServesSome}

-- no sender has sent more commands than there are entries
counts-most : (h : Header) (entries : List Entry) (bank : ℕ) → IsLegal h entries → count_of (state h entries) bank ≤ length entries
counts-most h entries bank legal =
    let parted : length (own bank entries) + length (filter (λ (e : Entry). not (eqb e.bank bank)) entries) ≡ length entries =
    length-filter_both (λ (e : Entry). eqb e.bank bank) (λ (e : Entry). not (eqb e.bank bank)) (λ _. refl) entries in
    omega (arith, counts-own h entries bank legal, parted)

-- what each item of a list has, each of a part of it has
each-part : {X : Type 0} (P : X → Type 0) (front part rest : List X) → Each P (front ++ part ++ rest) → Each P part
each-part P [] part rest each = Each-first P part rest each
each-part P (x ∷ front) part rest each = each-part P front part rest each.1

-- up to an item and with it
taken-with : {X : Type 0} (all : List X) (n : ℕ) (x : X) → n < length all → x ≡ get_or all n x → take n all ++ x ∷ [] ≡ take (n + 1) all
taken-with all n x within at' = ap (λ y. take n all ++ y ∷ []) at' ∙ sym (take_more all n x within)

pub on-err : {T E : Type 0} (P : Type 0) (result : Result T E) → P → OnErr result P
on-err P (Ok done) is = tt
on-err P (Err fault) is = is

pub on-err-or : {T E : Type 0} (P Q : Type 0) (result : Result T E) → OnErr result Q → OnErr result (P ⊎ Q)
on-err-or P Q (Ok done) is = tt
on-err-or P Q (Err fault) is = inr is

-- the entry of a command
abbrev pub made_of : Sent → ℕ → Outcome → Entry
made_of s count outcome = record { bank = s.bank; number = count + 1; command = s.command; outcome = outcome }

module _ {M O : Type 0} (stands : M → Header → State → Type 0) (told : Header → List Entry → O → Type 0) (h : Header) where
  pub may-send : (run : Ran M O) (s : Sent) → MayServe stands told h run (s ∷ []) → InSome (stands run.market) (MaySend s.bank s.command)
  may-send run s may = (
    h,
    may.entries,
    may.has_served.legal,
    may.has_served.market,
    record {
      allowed = may.valid.0.command;
      number = omega (arith, may.few, counts-most h may.entries s.bank may.has_served.legal);
    },
  )

  pub number-fits : (run : Ran M O) (s : Sent) (count : ℕ) → MayServe stands told h run (s ∷ []) → InEach (stands run.market) (HasSent s.bank count) → count + 1 < 2 ^ 32
  number-fits run s count may is =
      omega (arith, may.few, counts-most h may.entries s.bank may.has_served.legal, is h may.entries may.has_served.legal may.has_served.market)

  -- the market's history goes on by the entry
  pub market-on : (was now : M) (s : Sent) (count : ℕ) (outcome : Outcome) (entries : List Entry) → InEach (stands was) (HasSent s.bank count) → GoesOn (stands was) (stands now) s.bank s.command outcome → IsLegal h entries → stands was h (state h entries)
      → IsLegal h (entries ++ made_of s count outcome ∷ []) × stands now h (state h (entries ++ made_of s count outcome ∷ []))
  market-on was now s count outcome entries count_is on legal stood =
      let number : count_of (state h entries) s.bank + 1 ≡ count + 1 = ap (λ n. n + 1) (count_is h entries legal stood) in
      let next : ℕ → List Entry = λ n. entries ++ (record { bank = s.bank; number = n; command = s.command; outcome = outcome }) ∷ [] in
      subst (λ (n : ℕ). IsLegal h (next n) × stands now h (state h (next n))) number (on h entries legal stood)

  -- and an observer that was ready can be told it
  pub can-tell : (run : Ran M O) (ready : O) (now : M) (s : Sent) (count : ℕ) (outcome : Outcome) → MayServe stands told h run (s ∷ []) → InEach (stands run.market) (HasSent s.bank count) → GoesOn (stands run.market) (stands now) s.bank s.command outcome → StillTold told run.observer ready
      → (entries : List Entry) × IsLegal h (entries ++ made_of s count outcome ∷ []) × told h entries ready
  can-tell run ready now s count outcome may count_is on still =
      let has = may.has_served in
      let next = market-on run.market now s count outcome may.entries count_is on has.legal has.market in
      (may.entries, next.0, still h may.entries has.observer)

  -- with which each history that was served goes on
  goes-on : (was now : Ran M O) (ready : O) (s : Sent) (count : ℕ) (outcome : Outcome) → InEach (stands was.market) (HasSent s.bank count) → GoesOn (stands was.market) (stands now.market) s.bank s.command outcome → StillTold told was.observer ready
      → ToldNext told h ready now.observer (made_of s count outcome) → GoesOnBy stands told h was now (made_of s count outcome)
  goes-on was now ready s count outcome count_is on still told_next entries has =
      let next = market-on was.market now.market s count outcome entries count_is on has.legal has.market in
      record { legal = next.0; market = next.1; observer = told_next entries next.0 (still h entries has.observer) }

  -- so the entry is made where the observer was told it
  pub made-entry : {L E : Type 0} (leaves : L → Entry → Type 0) (was now : Ran M O) (ready : O) (s : Sent) (count : ℕ) (outcome : Outcome) (result : Result L E) → InEach (stands was.market) (HasSent s.bank count)
      → GoesOn (stands was.market) (stands now.market) s.bank s.command outcome → StillTold told was.observer ready → OnOk result (ToldNext told h ready now.observer (made_of s count outcome)) → IfOk result (λ left. leaves left (made_of s count outcome))
      → IfOk result (MadeEntry stands told h leaves was now s)
  made-entry leaves was now ready s count outcome (Ok left) count_is on still told_next left_is = record {
    entry = made_of s count outcome;
    sent_is = refl;
    left_is = left_is;
    goes_on = goes-on was now ready s count outcome count_is on still told_next;
  }
  made-entry leaves was now ready s count outcome (Err e) count_is on still told_next left_is = tt

  -- and the command is served
  pub served-one : {T E : Type 0} (was now : Ran M O) (ready : O) (s : Sent) (count : ℕ) (outcome : Outcome) (result : Result T E) → InEach (stands was.market) (HasSent s.bank count) → GoesOn (stands was.market) (stands now.market) s.bank s.command outcome
      → StillTold told was.observer ready → OnOk result (ToldNext told h ready now.observer (made_of s count outcome)) → OnOk result (ServesOn stands told h was now (s ∷ []))
  served-one was now ready s count outcome (Ok done) count_is on still told_next = λ entries has.
      record { more = made_of s count outcome ∷ []; sent_is = refl; has_served = goes-on was now ready s count outcome count_is on still told_next entries has }
  served-one was now ready s count outcome (Err e) count_is on still told_next = tt

  -- Commands one after another

  pub serves-none : (run : Ran M O) → ServesOn stands told h run run []
  serves-none run entries has = record { more = []; sent_is = refl; has_served = subst (λ (es : List Entry). HasServed stands told h es run) (sym (append-nil entries)) has }

  more-sent : (entries : List Entry) (sent : List Sent) → map sent_by entries ≡ sent → length entries ≡ length sent
  more-sent entries sent is = sym (length-map entries sent_by) ∙ ap length is

  -- commands can be served once those in front of them were
  pub may-serve-part : (was now : Ran M O) (front part rest : List Sent) → MayServe stands told h was (front ++ part ++ rest) → ServesOn stands told h was now front → MayServe stands told h now part
  may-serve-part was now front part rest may served =
      let went = served may.entries may.has_served in
      record {
        entries = may.entries ++ went.more;
        has_served = went.has_served;
        valid = each-part (IsSentOf h) front part rest may.valid;
        few = omega (arith, may.few, length-append may.entries went.more, more-sent went.more front went.sent_is, length-append (front ++ part) rest, length-append front part);
      }

  -- and then both were
  pub serves-both : (was mid now : Ran M O) (front part : List Sent) → ServesOn stands told h was mid front → ServesOn stands told h mid now part → ServesOn stands told h was now (front ++ part)
  serves-both was mid now front part first then entries has =
      let one = first entries has in
      let two = then (entries ++ one.more) one.has_served in
      record {
        more = one.more ++ two.more;
        sent_is = map-append sent_by one.more two.more ∙ ap₂ (λ (xs ys : List Sent). xs ++ ys) one.sent_is two.sent_is;
        has_served = subst (λ (es : List Entry). HasServed stands told h es now) (append_assoc entries one.more two.more) two.has_served;
      }

  -- the one at a place can be served once those before it were
  pub may-serve-next : (was now : Ran M O) (all : List Sent) (n : ℕ) (s : Sent) → MayServe stands told h was all → ServesOn stands told h was now (take n all) → n < length all → s ≡ get_or all n s → MayServe stands told h now (s ∷ [])
  may-serve-next was now all n s may served within at' =
      let parted : all ≡ take n all ++ (s ∷ []) ++ drop (n + 1) all = sym (take-append-drop (n + 1) all) ∙ ap (λ (xs : List Sent). xs ++ drop (n + 1) all) (sym (taken-with all n s within at')) in
      may-serve-part was now (take n all) (s ∷ []) (drop (n + 1) all) (subst (MayServe stands told h was) parted may) served

  -- and then one more was
  pub serves-next : (was mid now : Ran M O) (all : List Sent) (n : ℕ) (s : Sent) → ServesOn stands told h was mid (take n all) → ServesOn stands told h mid now (s ∷ []) → n < length all → s ≡ get_or all n s → ServesOn stands told h was now (take (n + 1) all)
  serves-next was mid now all n s so_far next within at' = subst (ServesOn stands told h was now) (taken-with all n s within at') (serves-both was mid now (take n all) (s ∷ []) so_far next)

  -- a run that is as before has served the same
  same-served : (was now : Ran M O) (entries : List Entry) → IsAsBefore told was now → HasServed stands told h entries was → HasServed stands told h entries now
  same-served was now entries same has = record {
    legal = has.legal;
    market = subst (λ (m : M). stands m h (state h entries)) (sym same.market) has.market;
    observer = same.observer h entries has.observer;
  }

  -- where the one at a place was not served, those before it were
  pub serves-some : (was mid now : Ran M O) (all : List Sent) (n : ℕ) → ServesOn stands told h was mid (take n all) → IsAsBefore told mid now → n < length all → ServesSome stands told h was now all
  serves-some was mid now all n so_far same within = record {
    count = n;
    fewer = within;
    served = λ entries has.
        let went = so_far entries has in
        record { more = went.more; sent_is = went.sent_is; has_served = same-served mid now (entries ++ went.more) same went.has_served };
  }

  -- of a run whose observer did not break
  pub served-some : {T E : Type 0} (result : Result T E) (may_break : Type 0) (was mid now : Ran M O) (all : List Sent) (n : ℕ) → ServesOn stands told h was mid (take n all) → n < length all → IsAsBefore told mid now ⊎ may_break
      → OnErr result (ServesSome stands told h was now all ⊎ may_break)
  served-some result may_break was mid now all n so_far within either = elim either [
    | inl same ↦ on-err (ServesSome stands told h was now all ⊎ may_break) result (inl (serves-some was mid now all n so_far same within))
    | inr broken ↦ on-err (ServesSome stands told h was now all ⊎ may_break) result (inr broken)
  ]

  -- the history and the market of a run that is over, under the names that they have then
  pub of-parts : (run : Ran M O) (market : M) (observer : O) (entries : List Entry) → market ≡ run.market → observer ≡ run.observer → HasServed stands told h entries run
      → IsLegal h entries × told h entries observer × stands market h (state h entries)
  of-parts run market observer entries market_is observer_is has = (
    has.legal,
    subst (λ (o : O). told h entries o) (sym observer_is) has.observer,
    subst (λ (m : M). stands m h (state h entries)) (sym market_is) has.market,
  )
