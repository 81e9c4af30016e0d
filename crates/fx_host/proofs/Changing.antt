-- A credit change: its entry, who signs it, and what it comes to.
use Rattle.std.proofs.Common.{ℕ, ◌≡◌, ◌+◌, ◌<◌, ◌^◌, true, List, [], ◌∷◌, ◌++◌, length, refl, ap, sym, subst, ◌∙◌, arith}
use mathlib.Core.List.{IsPrefix}
use Rattle.fx_rules.specs.declared.command.Command.{Command}
use Rattle.fx_rules.specs.declared.outcome.Outcome.{Outcome}
use Rattle.fx_rules.specs.declared.outcome.Entry.{Entry}
use Rattle.fx_rules.specs.Session.{Header, pair_count}
use Rattle.fx_rules.specs.State.{State, count_of}
use Rattle.fx_rules.specs.Step.{IsCommand, IsOutcome}
use Rattle.fx_rules.specs.History.{IsLegal, state, own}
use Rattle.fx_rules.specs.Keyed.{pair_key}
use Rattle.fx_rules.proofs.Counting.{counts-own}
use Rattle.fx_rules.proofs.Continuing.{entry_same, legal-last}
use Rattle.fx_rules.proofs.Senders.{command-place, places-most}
use Rattle.fx_chronicle.specs.Faces.{Witness, witness}
use Rattle.fx_chronicle.specs.Submitting.{next_own}
use Rattle.credit_raise.specs.UnderWay.{Change, IsUnderWay, Makes, is_change, outcome_of, reached}
use Rattle.fx_rules.specs.declared.sender.Sender.{Sender}
use Rattle.fx_rules.specs.Sending.{IsNextIn, entry_of}
use Rattle.credit_book.specs.Recorded.{Recorded, IsCreditBook, key_count, recorded, signed_by}
use Rattle.credit_book.specs.Serving.{IsServed}
use Rattle.credit_book.proofs.Entering.{goes_on}
use Rattle.pair_shards.specs.Shards.{AreOfLast}
use Rattle.pair_shards.specs.inside.Shards.{PairsPend}
use Rattle.pair_shards.proofs.Lines.{change_pends, pair_signs, of_last}
use Rattle.fx_host.specs.inside.Changing.{IsLast, IsPlanned}

-- ---- planned

-- the answer of a change for which all pairs had their turns is the market's
answered : (h : Header) (S : State) (bank : ℕ) (command : Command) (change : Change) (answer : Outcome) → IsUnderWay h S change → length change.plans ≡ pair_count h → change.command ≡ command → change.sender ≡ bank
    → ((g : Header) (T : State) → IsUnderWay g T change → length change.plans ≡ pair_count g → IsOutcome g T change.sender change.command answer) → IsOutcome h S bank command answer
answered h S bank command change answer under_way all command_is bank_is answers =
    subst (λ b. IsOutcome h S b command answer) bank_is (subst (λ (c : Command). IsOutcome h S change.sender c answer) command_is (answers h S under_way all))

pub planned : (h : Header) (first : Recorded) (sender : Sender) (command : Command) (change : Change) (answer copy : Outcome) → IsCreditBook h first → IsNextIn (state h first.history.entries) sender → sender.number < 2 ^ 32 → IsCommand h sender.bank command → is_change command ≡ true
    → IsUnderWay h (state h first.history.entries) change → length change.plans ≡ pair_count h → change.command ≡ command → change.sender ≡ sender.bank → answer ≡ outcome_of change
    → ((g : Header) (T : State) → IsUnderWay g T change → length change.plans ≡ pair_count g → IsOutcome g T change.sender change.command answer) → copy ≡ answer
    → IsPlanned h first.history.entries sender.bank command change (entry_of sender command copy) answer
planned h first sender command change answer copy kept next most valid changes under_way all command_is bank_is value answers copied =
    let before : List Entry = first.history.entries in
    record {
      legal = goes_on h before sender sender.bank command answer copy kept.legal next refl most valid
          (answered h (state h before) sender.bank command change answer under_way all command_is bank_is answers) copied;
      sender = refl;
      asks = refl;
      changes = changes;
      answers = copied;
      last = record {
        before = before;
        last = entry_of sender command copy;
        ends = refl;
        under_way = under_way;
        all_turned = all;
        sender = sym bank_is;
        command = sym command_is;
        outcome = copied ∙ value;
      };
    }

-- ---- entered

-- the history once room was made: `first` is the credit book as the call began, `mid` once all is planned
pub roomy : (first mid now : Recorded) {places : ℕ} → mid ≡ first → now ≡ record mid { history = record mid.history { room = places } } → now.history.entries ≡ first.history.entries
roomy first mid now mid_is now_is = ap (λ (b : Recorded). b.history.entries) now_is ∙ ap (λ (b : Recorded). b.history.entries) mid_is

pub entered-entries : (first now entered : Recorded) (entry : Entry) (key : ℕ) → now.history.entries ≡ first.history.entries → entered ≡ signed_by key (recorded now entry) → entered.history.entries ≡ first.history.entries ++ entry ∷ []
entered-entries first now entered entry key same entered_is = ap (λ (b : Recorded). b.history.entries) entered_is ∙ ap (λ (es : List Entry). es ++ entry ∷ []) same

pub is_last : (h : Header) (first now entered : Recorded) (pass_key key : ℕ) (command : Command) (change : Change) (entry : Entry) (answer : Outcome) → now.history.entries ≡ first.history.entries → IsPlanned h first.history.entries key command change entry answer
    → entered ≡ signed_by pass_key (recorded now entry) → IsLast h entered.history.entries change
is_last h first now entered pass_key key command change entry answer same plan entered_is =
    subst (λ (es : List Entry). IsLast h es change) (sym (entered-entries first now entered entry pass_key same entered_is)) plan.last

-- each pair has to sign
pub all_pend : (h : Header) (first now entered : Recorded) (pass_key key : ℕ) (command : Command) (change : Change) (entry : Entry) (answer : Outcome) → now.history.keys ≡ key_count h → pass_key ≡ key → IsPlanned h first.history.entries key command change entry answer
    → entered ≡ signed_by pass_key (recorded now entry) → PairsPend h 0 entered.history.pending
all_pend h first now entered pass_key key command change entry answer count key_is plan entered_is =
    let last = legal-last h first.history.entries entry plan.legal in
    change_pends h now entered entry pass_key count (plan.sender ∙ sym key_is) (omega (arith, command-place h entry.bank entry.command last.0.session last.1.command, places-most h last.0.session)) (ap is_change plan.asks ∙ plan.changes) entered_is

pub serves : (h : Header) (first now entered last : Recorded) (pass mid pass' : Witness Entry) (command : Command) (change : Change) (entry : Entry) (answer : Outcome) → now.history.entries ≡ first.history.entries → mid ≡ pass → IsPlanned h first.history.entries pass.key command change entry answer
    → entered ≡ signed_by mid.key (recorded now entry) → last.history.entries ≡ entered.history.entries → IsPrefix mid.seen now.history.entries → own mid.key now.history.entries ≡ own mid.key mid.met
    → pass' ≡ witness mid.key (now.history.entries ++ entry ∷ []) → IsServed h first.history.entries pass command last.history.entries pass' answer
serves h first now entered last pass mid pass' command change entry answer same mid_is plan entered_is last_is begins owns pass_is =
    let before : List Entry = first.history.entries in
    let step = legal-last h before entry plan.legal in
    let begins' : IsPrefix pass.seen before = subst (λ (w : Witness Entry). IsPrefix w.seen before) mid_is (subst (λ (es : List Entry). IsPrefix mid.seen es) same begins) in
    let owns' : own pass.key before ≡ own pass.key pass.met =
    subst (λ (w : Witness Entry). own w.key before ≡ own w.key w.met) mid_is (subst (λ (es : List Entry). own mid.key es ≡ own mid.key mid.met) same owns) in
    let after_is : last.history.entries ≡ before ++ entry ∷ [] = last_is ∙ entered-entries first now entered entry mid.key same entered_is in
    let pass_is' : pass' ≡ witness pass.key (before ++ entry ∷ []) =
    pass_is ∙ ap (λ (es : List Entry). witness mid.key (es ++ entry ∷ [])) same ∙ ap (λ (w : Witness Entry). witness w.key (before ++ entry ∷ [])) mid_is in
    let number : entry.number ≡ length (own pass.key pass.met) + 1 =
    step.1.number ∙ ap (λ n. n + 1) (ap (count_of (state h before)) plan.sender ∙ counts-own h before pass.key step.0 ∙ ap (λ (es : List Entry). length es) owns') in
    let own_is : entry ≡ next_own pass.key (own pass.key pass.met) command answer = entry_same _ _ plan.sender number plan.asks plan.answers in
    record {
      begins = begins';
      owns = owns';
      ends = after_is ∙ ap (λ (d : Entry). before ++ d ∷ []) own_is;
      legal = subst (IsLegal h) (sym after_is) plan.legal;
      meets = pass_is' ∙ ap (witness pass.key) (sym after_is);
    }

-- ---- carried

-- a pair's part of it
pub parts_of : (h : Header) (entries : List Entry) (change : Change) (pair its : ℕ) (plan : _) → IsLast h entries change → its ≡ pair → ((g : Header) (S : State) → IsUnderWay g S change → Makes S (reached change S) pair plan) → AreOfLast h entries its plan
parts_of h entries change pair its fills last its_is makes =
    subst (λ p. AreOfLast h entries p fills) (sym its_is)
    (of_last h last.before entries change last.last pair fills last.ends last.sender last.command last.outcome last.under_way (makes h (state h last.before) last.under_way))

-- the pairs from the next one on have still to sign
pub signs-pair : (h : Header) (pair : ℕ) (credit now : Recorded) → PairsPend h pair credit.history.pending → now ≡ signed_by (pair_key pair) credit → PairsPend h (pair + 1) now.history.pending
signs-pair h pair credit now pend now_is =
    subst (PairsPend h (pair + 1)) (sym (ap (λ (b : Recorded). b.history.pending) now_is)) (pair_signs h pair credit.history.pending pend)
