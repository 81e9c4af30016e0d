-- A command served under the lock: the entry that it makes, and what host and history then are.
use Rattle.std.proofs.Common.{ℕ, eqb, eq-eqb, Result, Ok, Err, IfOk, OnOk, ◌≡◌, ◌≢◌, ◌+◌, ◌-◌, ◌<◌, ◌^◌, true, List, [], ◌∷◌, ◌++◌, length, slice_index, refl, ap, sym, subst, ◌∙◌, arith}
use mathlib.Core.List.{IsPrefix}
use Rattle.fx_amounts.specs.declared.memory.Memory.{Memory}
use Rattle.fx_rules.specs.declared.command.Command.{Command}
use Rattle.fx_rules.specs.declared.outcome.Outcome.{Outcome}
use Rattle.fx_rules.specs.declared.outcome.Entry.{Entry}
use Rattle.fx_rules.specs.Session.{Header, sender_places}
use Rattle.fx_rules.specs.Step.{IsCommand, IsOutcome}
use Rattle.fx_rules.specs.History.{IsLegal, state, own}
use Rattle.fx_rules.specs.Keyed.{touches_key}
use Rattle.fx_rules.proofs.Soundness.{legal-sound, legal-push}
use Rattle.fx_rules.proofs.Counting.{counts-own}
use Rattle.fx_rules.proofs.Continuing.{entry_same}
use Rattle.fx_rules.proofs.ListLemmas.{filter_cons_true}
use Rattle.fx_rules.proofs.KeyedLemmas.{touches-sender, touches-bank}
use Rattle.fx_rules.proofs.Senders.{places-most}
use Rattle.fx_chronicle.specs.Touching.{touched, pends, without}
use Rattle.fx_chronicle.specs.Faces.{Chronicle, Witness, witness}
use Rattle.fx_chronicle.proofs.Pending.{pends-touched, signed_by_one}
use Rattle.flat_host.specs.FlatState.{FlatState, StandsFor}
use Rattle.flat_host.specs.Steps.{AnswersEach}
use Rattle.fx_chronicle.specs.Submitting.{next_own, Submitted}
use Rattle.fx_chronicle.proofs.Owning.{own-append}
use Rattle.fx_chronicle.proofs.Submits.{submits}
use Rattle.flat_host.specs.inside.Floor.{IsFloor}

-- the host's count of a bank is the number of the commands that its pass submitted
pub count_is : (h : Header) (host : FlatState) (writer : Chronicle Entry) (bank key count : ℕ) (met : List Entry) → IsFloor h host writer → bank ≡ key → count ≡ slice_index host.counts bank → own key writer.entries ≡ own key met → count ≡ length (own key met)
count_is h host writer bank key count met floor bank_is is owns =
    is ∙ ap (slice_index host.counts) bank_is ∙ ap (λ (counts : List ℕ). slice_index counts key) floor.stands.counts
    ∙ counts-own h writer.entries key floor.legal ∙ ap (λ (es : List Entry). length es) owns

-- the entry that is made
abbrev pub made : ℕ → ℕ → Command → Outcome → Entry
made bank number command outcome = record { bank = bank; number = number; command = command; outcome = outcome }

-- it goes on the history
pub goes_on : (h : Header) (host : FlatState) (writer : Chronicle Entry) (bank key count : ℕ) (command : Command) (outcome copy : Outcome) → IsFloor h host writer → bank ≡ key → IsCommand h key command → count ≡ slice_index host.counts bank → count < 4294967296 → count ≢ 4294967295 → AnswersEach host bank command outcome → copy ≡ outcome → IsLegal h (writer.entries ++ record { bank = bank; number = count + 1; command = command; outcome = copy } ∷ [])
goes_on h host writer bank key count command outcome copy floor bank_is valid is most not_last answers copied =
    legal-push h writer.entries (record { bank = bank; number = count + 1; command = command; outcome = copy }) floor.legal record {
      command = subst (λ b. IsCommand h b command) (sym bank_is) valid;
      number = ap (λ n. n + 1) (is ∙ ap (λ (counts : List ℕ). slice_index counts bank) floor.stands.counts);
      number_most = below count most not_last;
      outcome = subst (IsOutcome h (state h writer.entries) bank command) (sym copied) (answers h (state h writer.entries) floor.legal.session (legal-sound h writer.entries floor.legal) floor.stands);
    }
  where
    below : (n : ℕ) → n < 4294967296 → n ≢ 4294967295 → n + 1 < 2 ^ 32
    below n less apart = omega arith

-- the history with the entry behind it, whose keys have still to sign
pub record IsWith (e : Entry) (before after : Chronicle Entry) : Type 0 where
  pub entries : after.entries ≡ before.entries ++ e ∷ []
  pub keys : after.keys ≡ before.keys
  pub pending : after.pending ≡ touched touches_key e before.keys

pub committed : (e : Entry) (first room met after : Chronicle Entry) (places : ℕ) → room ≡ record first { room = places } → met ≡ room → after ≡ record { entries = met.entries ++ e ∷ []; room = met.room - 1; keys = met.keys; pending = touched touches_key e met.keys } → IsWith e first after
committed e first room met after places room_is met_is after_is =
    let entries : met.entries ≡ first.entries = ap (λ (w : Chronicle Entry). w.entries) (met_is ∙ room_is) in
    let keys : met.keys ≡ first.keys = ap (λ (w : Chronicle Entry). w.keys) (met_is ∙ room_is) in
    record {
      entries = ap (λ (w : Chronicle Entry). w.entries) after_is ∙ ap (λ (es : List Entry). es ++ e ∷ []) entries;
      keys = ap (λ (w : Chronicle Entry). w.keys) after_is ∙ keys;
      pending = ap (λ (w : Chronicle Entry). w.pending) after_is ∙ ap (touched touches_key e) keys;
    }

-- its sender has to sign
pub sender_pends : (h : Header) (host : FlatState) (before after : Chronicle Entry) (e : Entry) (key : ℕ) → IsFloor h host before → IsWith e before after → key ≡ e.bank → e.bank < sender_places h → pends after.pending key ≡ true
sender_pends h host before after e key floor grown key_is sender =
    ap (λ keys. pends keys key) (grown.pending ∙ ap (touched touches_key e) floor.keys)
    ∙ ap (pends (touched touches_key e 65)) key_is
    ∙ pends-touched touches_key e 65 e.bank (omega (arith, sender, places-most h floor.legal.session))
    ∙ touches-sender e

-- and nobody else, so that what lies under the lock is as it should be once it did
pub floor_after : (h : Header) (host host' : FlatState) (before after signed : Chronicle Entry) (e : Entry) (key : ℕ) → IsFloor h host before → IsWith e before after → key ≡ e.bank
    → signed ≡ record after { pending = without key after.pending } → IsLegal h (before.entries ++ e ∷ []) → StandsFor h (state h (before.entries ++ e ∷ [])) host' → IsFloor h host' signed
floor_after h host host' before after signed e key floor grown key_is signed_is legal stands =
    let entries : signed.entries ≡ before.entries ++ e ∷ [] = ap (λ (w : Chronicle Entry). w.entries) signed_is ∙ grown.entries in
    record {
      legal = subst (IsLegal h) (sym entries) legal;
      stands = subst (λ (es : List Entry). StandsFor h (state h es) host') (sym entries) stands;
      signed = ap (λ (w : Chronicle Entry). w.pending) signed_is
          ∙ ap (without key) (grown.pending ∙ ap (touched touches_key e) floor.keys)
          ∙ ap (λ k. without k (touched touches_key e 65)) key_is
          ∙ signed_by_one touches_key e 65 e.bank (λ k below apart. touches-bank e k below apart);
      keys = ap (λ (w : Chronicle Entry). w.keys) signed_is ∙ grown.keys ∙ floor.keys;
    }

-- the history has that entry more
pub entries_after : (e next : Entry) (before after signed : Chronicle Entry) (was : List Entry) {pending : List ℕ} → signed ≡ record after { pending = pending } → IsWith e before after → before.entries ≡ was → e ≡ next → signed.entries ≡ was ++ next ∷ []
entries_after e next before after signed was signed_is grown was_is next_is =
    ap (λ (w : Chronicle Entry). w.entries) signed_is ∙ grown.entries ∙ ap (λ (es : List Entry). es ++ e ∷ []) was_is ∙ ap (λ (d : Entry). was ++ d ∷ []) next_is

-- the entry is that of the bank's next command
pub entry_is : (bank key number : ℕ) (command : Command) (outcome copy : Outcome) (met : List Entry) → bank ≡ key → number ≡ length (own key met) + 1 → copy ≡ outcome → made bank number command copy ≡ next_own key (own key met) command outcome
entry_is bank key number command outcome copy met bank_is number_is copied = entry_same _ _ bank_is number_is refl copied

-- what the bank then knows
pub serves : (h : Header) (pass pass' : Witness Entry) (was now : List Entry) (command : Command) (r : Result Outcome Memory)
    → IfOk r (λ outcome. now ≡ was ++ next_own pass.key (own pass.key pass.met) command outcome ∷ []) → OnOk r (pass' ≡ witness pass.key now)
    → OnOk r (IsPrefix pass.seen was) → OnOk r (own pass.key was ≡ own pass.key pass.met) → OnOk r (IsLegal h now)
    → IfOk r (Submitted h pass.key pass.seen (own pass.key pass.met) command pass'.seen (own pass'.key pass'.met))
serves h pass pass' was now command (Err e) entries pass_is seen owns legal = tt
serves h pass pass' was now command (Ok outcome) entries pass_is seen owns legal =
    let e : Entry = next_own pass.key (own pass.key pass.met) command outcome in
    let seen_is : pass'.seen ≡ now = ap (λ (w : Witness Entry). w.seen) pass_is in
    let mine_is : own pass'.key pass'.met ≡ own pass.key now = ap (λ (w : Witness Entry). own w.key w.met) pass_is in
    let grew : own pass.key now ≡ own pass.key pass.met ++ e ∷ [] =
    ap (own pass.key) entries ∙ own-append pass.key was (e ∷ []) ∙ ap (λ (es : List Entry). es ++ own pass.key (e ∷ [])) owns
    ∙ ap (λ (es : List Entry). own pass.key pass.met ++ es) (filter_cons_true (λ (d : Entry). eqb d.bank pass.key) e [] (eq-eqb pass.key pass.key refl)) in
    submits h pass.key pass.seen (own pass.key pass.met) command pass'.seen (own pass'.key pass'.met) outcome was
    seen (seen_is ∙ entries) (subst (IsLegal h) (sym seen_is) legal) (mine_is ∙ grew) (ap (own pass.key) seen_is ∙ sym mine_is)
